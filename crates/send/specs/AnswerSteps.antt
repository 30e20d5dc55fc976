-- What stands between the public answer and one block: contracts of the two private functions behind `write_block`.
use Rattle.std.specs.Prelude.{List, ◌≡◌, ℕ, ◌≤◌, ◌<◌, ◌-◌, ℤ, length, cond, leb}
use Rattle.frame.specs.declared.Header.{Header}
use Rattle.frame.specs.Frame.{columns_of}
use Rattle.written.specs.Cells.{block_count, start_sent, column_with}
use Rattle.written.specs.Blocks.{profile_block, block_sent}
use Rattle.written.specs.Sending.{Objection, objection}
use Rattle.send.specs.SendSteps.{SendableSheet}

-- a block of a sheet that is not block 0
pub record LaterAsked (h : Header) (grid : List ℤ) (number : ℕ) (block : List ℕ) : Type 0 where
  pub sheet : SendableSheet h grid
  pub later : 1 ≤ number
  pub below : number < block_count h grid
  pub long : length block ≡ 1024

-- it is one of the profile of the column that has it
abbrev pub later_block : Header → List ℤ → ℕ → List ℕ
later_block h grid number =
    let c = column_with h grid (columns_of h) number in
    profile_block h grid c (number - start_sent h grid c)

-- "14 number not below the sheet's block count (that count)", by the header
abbrev pub count_objection : Header → List ℤ → ℕ → Objection
count_objection h grid number = cond (leb (block_count h grid) number) (objection 14 (block_count h grid)) (objection 0 0)

-- what the lent block holds afterwards
abbrev pub numbered : List ℕ → Header → List ℤ → ℕ → List ℕ → List ℕ
numbered template h grid number block = cond (leb (block_count h grid) number) block (block_sent template h grid number)
