-- A profile's blocks from its cells: which of them go into each. For any cells and any block.
use Rattle.std.specs.Prelude.{cond, List, ℕ, zero, suc, ◌+◌, ◌*◌, ◌≤◌, ◌<◌, leb, ltb, ℤ, length, take, drop}
use Rattle.laws.specs.Sign.{◌and◌}
use Rattle.ground.specs.Posts.{blocks_for}
use Rattle.ground.specs.Extremes.{least_stated, greatest_stated}
use Rattle.paint.specs.Fields.{first_after, further_after}
use Rattle.paint.specs.declared.Stake.{Stake}

-- the cells of the block behind k + 1 others
abbrev pub cells_behind : List ℤ → ℕ → List ℤ
cells_behind cells k = take 170 (drop (146 + 170 * k) cells)

-- the profile's k-th block, counted from 0
abbrev pub part_by : Stake → List ℤ → ℕ → List ℕ → List ℕ
part_by s cells zero block =
    first_after s.number (length cells) s.x s.y (least_stated cells) (greatest_stated cells) s.z (take 146 cells) block
part_by s cells (suc k) block = further_after s.z (cells_behind cells k) block

-- one that the profile has not, or a profile of more posts than a sheet has rows, leaves the block as it was
unfoldable pub part_after : Stake → List ℤ → ℕ → List ℕ → List ℕ
part_after s cells k block = cond (leb (length cells) 2048 and ltb k (blocks_for (length cells))) (part_by s cells k block) block

-- a further block of no more posts than a sheet has rows
pub record BehindAsked (cells : List ℤ) (k : ℕ) : Type 0 where
  pub most : length cells ≤ 2048
  pub some : 1 ≤ k
  pub within : k < blocks_for (length cells)
