-- The room that `sender` lends is enough: a sheet of 15,000 cells has at most 2,049 blocks. Either no column needs a second block, or each
-- has 146 rows or more, and then there are at most 102 columns.
use mathlib.Core.List.{List}
use mathlib.Core.Path.{◌≡◌}
use Prim.Native.Nat.{ℕ, zero, suc, ◌+◌, ◌*◌, ◌≤◌}
use native.Mathlib.Nat.{mul-le-mul_right, mul-le-mul_left}
use native.Mathlib.Omega.{arith}
use borrow.Author.Tests.{eqb-true, leb-true, leb-false}
use lib.Dec.{eqb, leb}
use lib.IntN.{ℤ}
use lib.ListN.{length, drop, length-take}
use Rattle.laws.proofs.Tests.{by-test}
use Rattle.frame.specs.Frame.{columns_of, rows_of}
use Rattle.heading.specs.Heading.{header_of}
use Rattle.ground.proofs.BlockCounts.{one_block}
use Rattle.sheet.proofs.SheetObeys.{sheet-obeys}
use Rattle.written.specs.Cells.{column_at, profile_cells, start_at}
use Rattle.written.specs.Sending.{sheet_objection, count_of}
use Rattle.written.proofs.SheetSent.{start-next, first-start}
use Rattle.written.proofs.ColumnsSent.{cells-most}
use Rattle.written.proofs.SheetPasses.{fine-passes}
use Rattle.census.proofs.CensusLaws.{Sizes, start-most, sheet-sizes}

-- columns of at most 145 rows have one block each
module _ (rows : ℕ) (grid : List ℤ) (few : rows ≤ 145) where
  posts-few : (c : ℕ) → length (profile_cells (column_at rows grid c)) ≤ 146
  posts-few c = omega (arith, cells-most (column_at rows grid c), length-take rows (drop (c * rows) grid), few)

  one_each : (c : ℕ) → start_at rows grid c ≡ 1 + c
  one_each zero = first-start rows grid
  one_each (suc c) =
      omega (arith, one_each c, start-next rows grid c, one_block (length (profile_cells (column_at rows grid c))) (posts-few c))

few-columns : (columns rows : ℕ) → columns * rows ≤ 15000 → 146 ≤ rows → columns ≤ 102
few-columns columns rows most many =
    by-test (leb columns 102) (leb-true columns 102)
    (λ e.
    let p : 103 * 146 ≤ columns * 146 = mul-le-mul_right 146 (leb-false columns 102 e) in
    let q : columns * 146 ≤ columns * rows = mul-le-mul_left columns many in
    absurd (omega (arith, p, q, most)))

blocks-few : (columns rows : ℕ) (grid : List ℤ) → Sizes columns rows grid → length grid ≤ 15000 → start_at rows grid columns ≤ 2049
blocks-few columns rows grid s most =
    by-test (leb rows 145) (λ e. omega (arith, one_each rows grid (leb-true rows 145 e) columns, s.columns-most))
    (λ e.
    omega
    (arith, start-most s columns (omega arith), few-columns columns rows (omega (arith, s.cells-there, most)) (leb-false rows 145 e)))

pub room-enough : (template : List ℕ) (grid : List ℤ) → length grid ≤ 15000 → count_of template grid ≤ 2049
unfolding count_of
room-enough template grid most =
    by-test (eqb (sheet_objection template grid).kind 0)
    (λ e.
    let p = fine-passes template grid (eqb-true (sheet_objection template grid).kind 0 e) in
    let h = header_of template in
    let few = blocks-few (columns_of h) (rows_of h) grid (sheet-sizes h grid (sheet-obeys template h p.sheet) p.room) most in
    rw e few)
    (λ e. rw e (omega arith))
