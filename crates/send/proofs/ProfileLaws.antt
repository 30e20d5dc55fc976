-- The blocks by plain numbers are those of the sheet, with what its header and grid give.
use mathlib.Core.List.{List}
use mathlib.Core.Path.{◌≡◌, refl}
use Prim.Native.Nat.{ℕ, suc, ◌+◌, ◌*◌}
use lib.IntN.{ℤ}
use lib.ListN.{length, take, drop}
use Rattle.frame.specs.declared.Header.{Header}
use Rattle.frame.specs.Frame.{z_of}
use Rattle.ground.specs.Extremes.{least_stated, greatest_stated}
use Rattle.written.specs.Blocks.{x_sent, y_sent, profile_block}
use Rattle.written.specs.Cells.{cells_sent}
use Rattle.paint.proofs.Fitting.{first_by, further_by}

module _ (h : Header) (grid : List ℤ) (c : ℕ) where
  pub first-sent : first_by (suc c) (length (cells_sent h grid c)) (x_sent h c) (y_sent h grid c) (least_stated (cells_sent h grid c))
      (greatest_stated (cells_sent h grid c)) (z_of h) (take 146 (cells_sent h grid c)) ≡ profile_block h grid c 0
  unfolding first_by profile_block
  first-sent = refl

  pub further-sent : (k : ℕ)
      → further_by (z_of h) (take 170 (drop (146 + 170 * k) (cells_sent h grid c))) ≡ profile_block h grid c (suc k)
  unfolding further_by profile_block
  further-sent k = refl
