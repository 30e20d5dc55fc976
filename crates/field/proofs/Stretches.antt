-- A test of every byte of a stretch, at one place of it.
use mathlib.Core.Bool.{Bool, true, false}
use mathlib.Core.List.{List}
use mathlib.Core.Path.{◌≡◌}
use Prim.Native.Nat.{ℕ, ◌+◌, ◌≤◌, ◌<◌}
use lib.ListN.{length, drop, get_or, drop_of_length-le}
use Rattle.laws.specs.Texts.{every}
use Rattle.number.proofs.Places.{drop_here}

module _ (is : ℕ → Bool) (s : List ℕ) (i : ℕ) where
  pub every-turn : i < length s → is (get_or s i 0) ≡ true → every is (drop (i + 1) s) ≡ every is (drop i s)
  every-turn h t = rw (drop_here s i h, t)

  pub every-stop : i < length s → is (get_or s i 0) ≡ false → every is (drop i s) ≡ false
  every-stop h t = rw (drop_here s i h, t)

  pub every-end : length s ≤ i → every is (drop i s) ≡ true
  every-end k = rw (drop_of_length-le s k)
