-- A sheet that nothing stands against passes every test: the template's length, record A's rules, the grid's room, its cells.
use mathlib.Core.List.{List, [], ◌∷◌}
use Prim.Native.Nat.{ℕ, ◌≤◌, suc}
use native.Mathlib.Omega.{arith}
use lib.IntN.{ℤ}
use lib.ListN.{length}
use mathlib.Core.Path.{◌≡◌, ◌∙◌, ap, refl, sym}
use borrow.Author.Tests.{eqb-false, ltb-false, eqb-true}
use lib.Dec.{eqb, ltb}
use Rattle.laws.proofs.Tests.{by-test}
use Rattle.frame.specs.declared.Header.{Header}
use Rattle.frame.specs.Frame.{cells_of, z_of}
use Rattle.heading.specs.Heading.{header_of}
use Rattle.sheet.specs.RecordA.{record_a, record_of, fault_of, checked_kind}
use Rattle.sheet.specs.RecordA.Checked.{Sheet, Refused as NoSheet}
use Rattle.sheet.specs.RecordA.{Checked}
use Rattle.sheet.proofs.RulesA.{sheet-header}
use Rattle.written.specs.Cells.{can_send, sendable}
use Rattle.written.specs.Blocks.{sheet_cells}
use Rattle.written.specs.Sending.{grid_objection, checked_objection, sheet_objection}
use Rattle.written.proofs.SheetSent.{sheet-length}

-- no list has more cells that can be sent than it has cells
at_most : (z : ℕ) (cells : List ℤ) → sendable z cells ≤ length cells
unfolding sendable
at_most z [] = omega arith
at_most z (c ∷ cells) =
    let h = at_most z cells in by-test (can_send z c) (λ e. rw e (omega (arith, h))) (λ e. rw e (omega arith))

-- a number that is not 0
pub none_of : {X : Type 0} (n : ℕ) → suc n ≡ 0 → X
none_of n e = absurd (omega (arith, e))

-- a refused template has a kind
pub refused-kind : (template : List ℕ) (kind byte : ℕ) → record_a template ≡ NoSheet kind byte → kind ≡ 0 → ⊥
unfolding record_of
refused-kind template kind byte e z =
    by-test (eqb (fault_of 0 template).kind 0)
    (λ f.
    let q : Sheet (header_of template) ≡ NoSheet kind byte = rw f at e in
    let n : ◌≡◌ {A = ℕ} 0 1 = cc in omega (arith, n))
    (λ f.
    let q : NoSheet (fault_of 0 template).kind (fault_of 0 template).byte ≡ NoSheet kind byte = rw f at e in
    eqb-false (fault_of 0 template).kind 0 f (ap checked_kind q ∙ z))

-- "12 (0), 13 first cell ..": neither is so
pub grid-passes : (h : Header) (grid : List ℤ) → (grid_objection h grid).kind ≡ 0
    → (cells_of h ≤ length grid) × (sendable (z_of h) (sheet_cells h grid) ≡ cells_of h)
grid-passes h grid f =
    by-test (ltb (length grid) (cells_of h))
    (λ a. let q : ◌≡◌ {A = ℕ} 12 0 = rw a at f in none_of 11 q)
    (λ a.
    let room = ltb-false (length grid) (cells_of h) a in
    let n = sendable (z_of h) (sheet_cells h grid) in
    by-test (ltb n (cells_of h))
    (λ b. let q : ◌≡◌ {A = ℕ} 13 0 = rw (a, b) at f in none_of 12 q)
    (λ b. (room, omega (arith, ltb-false n (cells_of h) b, at_most (z_of h) (sheet_cells h grid), sheet-length h grid room))))

pub record Passes (template : List ℕ) (grid : List ℤ) : Type 0 where
  pub long : length template ≡ 1024
  pub sheet : record_a template ≡ Sheet (header_of template)
  pub room : cells_of (header_of template) ≤ length grid
  pub all : sendable (z_of (header_of template)) (sheet_cells (header_of template) grid) ≡ cells_of (header_of template)

pub fine-passes : (template : List ℕ) (grid : List ℤ) → (sheet_objection template grid).kind ≡ 0 → Passes template grid
unfolding sheet_objection
fine-passes template grid z =
    by-test (eqb (length template) 1024)
    (λ l. go (eqb-true (length template) 1024 l) (record_a template) refl (rw l at z))
    (λ l. let q : ◌≡◌ {A = ℕ} 1 0 = rw l at z in none_of 0 q)
  where
    go : length template ≡ 1024 → (c : Checked) → record_a template ≡ c → (checked_objection c grid).kind ≡ 0 → Passes template grid
    go l (NoSheet kind byte) e g = absurd (refused-kind template kind byte e g)
    go l (Sheet k) e g =
        let same : k ≡ header_of template = sheet-header 0 refl template e in
        let f = grid-passes (header_of template) grid (ap (λ (x : Header). (grid_objection x grid).kind) (sym same) ∙ g) in
        record { long = l; sheet = e ∙ ap Sheet same; room = f.0; all = f.1 }
