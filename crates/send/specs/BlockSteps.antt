-- How the code finds a profile's place: a multiple of the spacing, and what keeps it in a machine's number.
use Rattle.std.specs.Prelude.{ℕ, suc, ◌^◌, ◌≤◌, ◌<◌, ℤ, pos, nat_abs, ◌+ℤ◌, ◌*ℤ◌}
use Rattle.frame.specs.declared.Header.{Header}
use Rattle.frame.specs.Frame.{z_of}
use Rattle.written.specs.Blocks.{x_sent, y_of_row}
use Rattle.paint.specs.declared.Stake.{Stake}

-- a multiple between the corners, so many behind the first
pub record PlaceAsked (first : ℤ) (index step : ℕ) : Type 0 where
  pub first_small : nat_abs first < 10 ^ 18
  pub index-most : index ≤ 2048
  pub step_small : step < 10 ^ 18
  pub place-small : nat_abs ((first +ℤ pos index) *ℤ pos step) < 10 ^ 18

-- where a column's profile stands
abbrev pub stake_of : Header → ℕ → ℕ → Stake
stake_of h column row = record { number = suc column; x = x_sent h column; y = y_of_row h row; z = z_of h }
