-- A whole sheet by its columns: what each function of it writes and asks; WholeText has that these are the blocks sent.
use Rattle.std.specs.Prelude.{List, map, ◌++◌, ℕ, ◌*◌, ◌+◌, ◌≤◌, ◌<◌, ℤ, length, cond, eqb, ◌≡◌}
use Rattle.laws.specs.Lists.{below, joined}
use Rattle.frame.specs.declared.Header.{Header}
use Rattle.frame.specs.Frame.{columns_of}
use Rattle.ground.specs.Posts.{blocks_for}
use Rattle.written.specs.Blocks.{profile_block, block_zero}
use Rattle.written.specs.Cells.{cells_sent, block_count}
use Rattle.written.specs.Sending.{Objection, objection}
use Rattle.send.specs.SendSteps.{SendableSheet}

-- the first k blocks of a column's profile, and all of them
abbrev pub blocks_text : Header → List ℤ → ℕ → ℕ → List ℕ
blocks_text h grid c k = joined (map (profile_block h grid c) (below k))

abbrev pub column_text : Header → List ℤ → ℕ → List ℕ
column_text h grid c = blocks_text h grid c (blocks_for (length (cells_sent h grid c)))

-- the profiles of the first n columns
abbrev pub columns_text : Header → List ℤ → ℕ → List ℕ
columns_text h grid n = joined (map (column_text h grid) (below n))

-- block 0, and every column's
unfoldable pub whole_text : List ℕ → Header → List ℤ → List ℕ
whole_text template h grid = block_zero template h grid ++ columns_text h grid (columns_of h)

-- a buffer that is not count × 1,024 bytes: 1, with number 0
abbrev pub room_objection : Header → List ℤ → ℕ → Objection
room_objection h grid bytes = cond (eqb bytes (1024 * block_count h grid)) (objection 0 0) (objection 1 0)

-- ---- what the functions ask

-- the blocks of one column, from a byte of the buffer on
pub record ColumnAsked (h : Header) (grid : List ℤ) (column at : ℕ) (out : List ℕ) : Type 0 where
  pub sheet : SendableSheet h grid
  pub inside : column < columns_of h
  pub room : at + 1024 * blocks_for (length (cells_sent h grid column)) ≤ length out

-- those of all columns, behind block 0
pub record ColumnsAsked (h : Header) (grid : List ℤ) (out : List ℕ) : Type 0 where
  pub sheet : SendableSheet h grid
  pub room : length out ≡ 1024 * block_count h grid

-- every block
pub record BlocksAsked (template : List ℕ) (h : Header) (grid : List ℤ) (out : List ℕ) : Type 0 where
  pub sheet : SendableSheet h grid
  pub template-long : length template ≡ 1024
  pub room : length out ≡ 1024 * block_count h grid

-- the same, before the buffer is looked at
pub record FitAsked (template : List ℕ) (h : Header) (grid : List ℤ) : Type 0 where
  pub sheet : SendableSheet h grid
  pub template-long : length template ≡ 1024
