-- Cells of bytes, by computation: two of them, and a part of a four says none.
use mathlib.Core.List.{[], ◌∷◌}
use mathlib.Core.Path.{◌≡◌, refl}
use lib.IntN.{pos, negsuc}
use Rattle.sender.specs.Input.{cells_from}

pub two_cells : cells_from (0 ∷ 0 ∷ 3 ∷ 232 ∷ 128 ∷ 0 ∷ 0 ∷ 0 ∷ 7 ∷ []) ≡ pos 1000 ∷ negsuc 2147483647 ∷ []
unfolding cells_from
two_cells = refl
