-- Cells of four bytes, by computation: 1000, the void -2147483648, -1 and the greatest; and a number whose last bytes lie past the end.
use mathlib.Core.Path.{◌≡◌, refl}
use lib.IntN.{pos, negsuc}
use mathlib.Core.List.{[], ◌∷◌}
use Rattle.words.specs.Words.{cell_of, number_at}

pub a-thousand : cell_of 0 0 3 232 ≡ pos 1000
a-thousand = refl

pub the-void : cell_of 128 0 0 0 ≡ negsuc 2147483647
the-void = refl

pub minus_one : cell_of 255 255 255 255 ≡ negsuc 0
minus_one = refl

pub the-greatest : cell_of 127 255 255 255 ≡ pos 2147483647
the-greatest = refl

pub past_the_end : number_at (7 ∷ 0 ∷ 3 ∷ []) 1 ≡ 196608
past_the_end = refl
