-- The writer refuses exactly what document 01 lists: its fault is none exactly where each test is passed, test by test.
use mathlib.Core.List.{List}
use mathlib.Core.Path.{◌≡◌, ◌∙◌, ap}
use Prim.Native.Nat.{ℕ, ◌<◌}
use native.Mathlib.Omega.{arith}
use lib.IntN.{ℤ}
use mathlib.Core.Bool.{true, false, cond}
use borrow.Author.Tests.{le-ltb, eq-eqb, lt-leb, leb-false, eqb-true, eqb-false}
use lib.Dec.{ltb, eqb, leb}
use lib.ListN.{length}
use Rattle.laws.proofs.Tests.{by-test}
use Rattle.frame.specs.Frame.{cells_of, z_of}
use Rattle.heading.specs.Heading.{header_of}
use Rattle.written.specs.Cells.{can_send, sendable, block_count}
use Rattle.written.specs.Blocks.{sheet_cells}
use Rattle.written.specs.Sending.{objection, checked_objection, sheet_objection, number_objection, first, block_objection}
use Rattle.written.proofs.ColumnsSent.{all-send}
use Rattle.written.proofs.SheetSent.{sheet-cell, sheet-length, cell-sends}
use Rattle.written.proofs.SheetPasses.{fine-passes, none_of}
use Rattle.returns.specs.Writers.{CanBeSent, Accepts}
use Rattle.returns.proofs.ZeroReads.{template-length}

-- all cells of the sheet can be sent
pub all-cells : (template : List ℕ) (grid : List ℤ) → CanBeSent template grid
    → sendable (z_of (header_of template)) (sheet_cells (header_of template) grid) ≡ cells_of (header_of template)
all-cells template grid s =
    let h = header_of template in
    let l = sheet-length h grid s.room in
    all-send (z_of h) (sheet_cells h grid)
    (λ i lt.
    let inside : i < cells_of h = omega (arith, lt, l) in
    ap (can_send (z_of h)) (sheet-cell h grid i inside) ∙ s.cells i inside)
    ∙ l

-- ---- what passes is refused nothing

pub sent-fine : (template : List ℕ) (grid : List ℤ) → CanBeSent template grid → sheet_objection template grid ≡ objection 0 0
unfolding sheet_objection
sent-fine template grid s =
    let h = header_of template in
    let l : eqb (length template) 1024 ≡ true = eq-eqb (length template) 1024 (template-length template h s.sheet) in
    let a : ltb (length grid) (cells_of h) ≡ false = le-ltb (length grid) (cells_of h) s.room in
    let n = all-cells template grid s in
    let b : ltb (sendable (z_of h) (sheet_cells h grid)) (cells_of h) ≡ false
    = le-ltb (sendable (z_of h) (sheet_cells h grid)) (cells_of h) (omega (arith, n)) in
    (λ i. cond (l i) (checked_objection (s.sheet i) grid) (objection 1 1))
    ∙ (λ i. cond (a i) (objection 12 0) (cond (b i) (objection 13 (sendable (z_of h) (sheet_cells h grid))) (objection 0 0)))

pub accepts-fine : (template : List ℕ) (grid : List ℤ) (number : ℕ) (block : List ℕ) → Accepts template grid number block
    → block_objection template grid number (length block) ≡ objection 0 0
unfolding block_objection
accepts-fine template grid number block a =
    let count = block_count (header_of template) grid in
    let l : eqb (length block) 1024 ≡ true = eq-eqb (length block) 1024 a.long in
    let n : leb count number ≡ false = lt-leb count number a.below in
    (λ i. cond (l i) (first (sent-fine template grid a.sendable i) (number_objection template grid number)) (objection 1 0))
    ∙ (λ i. cond (n i) (objection 14 count) (objection 0 0))

-- ---- what is refused nothing passes

pub fine-sent : (template : List ℕ) (grid : List ℤ) → (sheet_objection template grid).kind ≡ 0 → CanBeSent template grid
fine-sent template grid z =
    let p = fine-passes template grid z in
    let h = header_of template in
    record { sheet = p.sheet; room = p.room; cells = cell-sends h grid p.room (z_of h) p.all }

pub fine-accepts : (template : List ℕ) (grid : List ℤ) (number : ℕ) (block : List ℕ)
    → (block_objection template grid number (length block)).kind ≡ 0 → Accepts template grid number block
unfolding block_objection
fine-accepts template grid number block z =
    by-test (eqb (length block) 1024)
    (λ l.
    let count = block_count (header_of template) grid in
    let f : (first (sheet_objection template grid) (number_objection template grid number)).kind ≡ 0 = rw l at z in
    by-test (eqb (sheet_objection template grid).kind 0)
    (λ s.
    let g : (number_objection template grid number).kind ≡ 0 = rw s at f in
    by-test (leb count number)
    (λ n. let q : ◌≡◌ {A = ℕ} 14 0 = rw n at g in none_of 13 q)
    (λ n.
    record {
      long = eqb-true (length block) 1024 l;
      sendable = fine-sent template grid (eqb-true (sheet_objection template grid).kind 0 s);
      below = leb-false count number n;
    }))
    (λ s. let q : (sheet_objection template grid).kind ≡ 0 = rw s at f in absurd (eqb-false (sheet_objection template grid).kind 0 s q)))
    (λ l. let q : ◌≡◌ {A = ℕ} 1 0 = rw l at z in none_of 0 q)
