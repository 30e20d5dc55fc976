-- What the writer answers is what document 01 lists, with its number: its tests, taken apart in their order, carry it.
use mathlib.Core.List.{List, [], ◌∷◌}
use mathlib.Core.Path.{◌≡◌, refl, sym, ◌∙◌, ap}
use mathlib.Core.Logic.{◌↔◌}
use Prim.Native.Nat.{ℕ, zero, suc, ◌<◌, ◌≤◌}
use native.Mathlib.Nat.{le_of_suc-le-suc}
use native.Mathlib.Omega.{arith}
use lib.IntN.{ℤ}
use lib.Dec.{ltb, eqb, leb}
use lib.ListN.{length, get_or}
use mathlib.Core.Bool.{true, false}
use borrow.Author.Tests.{ltb-true, ltb-false, leb-true, leb-false, eqb-true, eqb-false, ne_eqb, eq-eqb}
use Rattle.laws.proofs.Tests.{by-test}
use Rattle.frame.specs.Frame.{cells_of, z_of}
use Rattle.frame.specs.declared.Header.{Header}
use Rattle.heading.specs.Heading.{header_of}
use Rattle.sheet.specs.RecordA.{record_a}
use Rattle.sheet.specs.RecordA.{Checked}
use Rattle.sheet.specs.RecordA.Checked.{Sheet, Refused as NoSheet}
use Rattle.sheet.proofs.RulesA.{sheet-header}
use Rattle.ground.specs.Posts.{void}
use Rattle.written.specs.Sending.{Sent}
use Rattle.written.specs.Sending.Sent.{Written, Refused}
use Rattle.written.specs.Cells.{can_send, sendable, block_count}
use Rattle.written.specs.Blocks.{sheet_cells}
use Rattle.written.specs.Sending.{Objection, objection, sent_by, first, grid_objection, checked_objection, sheet_objection, number_objection, block_objection}
use Rattle.written.proofs.SheetSent.{sheet-cell, sheet-length, cell-sends}
use Rattle.written.proofs.SheetPasses.{refused-kind, grid-passes}
use Rattle.returns.specs.Writers.{CanBeSent, FirstUnsent, Listed, block-length, template-length, template-rule, grid-short, cell-unsent, number_past, accepted}

-- ---- the first that cannot be sent

pub unsent-here : (z : ℕ) (cells : List ℤ) → sendable z cells < length cells → can_send z (get_or cells (sendable z cells) void) ≡ false
unfolding sendable
unsent-here z [] lt = absurd (omega (arith, lt))
unsent-here z (c ∷ cs) lt =
    by-test (can_send z c) (λ e. rw e (unsent-here z cs (le_of_suc-le-suc (rw e at lt)))) (λ e. rw e e)

pub sent-before : (z : ℕ) (cells : List ℤ) (j : ℕ) → j < sendable z cells → can_send z (get_or cells j void) ≡ true
unfolding sendable
sent-before z [] j lt = absurd (omega (arith, lt))
sent-before z (c ∷ cs) zero lt = by-test (can_send z c) (λ e. e) (λ e. absurd (omega (arith, rw e at lt)))
sent-before z (c ∷ cs) (suc j) lt =
    by-test (can_send z c) (λ e. sent-before z cs j (le_of_suc-le-suc (rw e at lt))) (λ e. absurd (omega (arith, rw e at lt)))

first-unsent : (h : Header) (grid : List ℤ) → cells_of h ≤ length grid → sendable (z_of h) (sheet_cells h grid) < cells_of h
    → FirstUnsent h grid (sendable (z_of h) (sheet_cells h grid))
first-unsent h grid room lt =
    let z = z_of h in
    let n = sendable z (sheet_cells h grid) in
    let long = sheet-length h grid room in
    record {
      inside = lt;
      unsent = ap (can_send z) (sym (sheet-cell h grid n lt)) ∙ unsent-here z (sheet_cells h grid) (omega (arith, lt, long));
      before = λ j k. ap (can_send z) (sym (sheet-cell h grid j (omega (arith, k, lt)))) ∙ sent-before z (sheet_cells h grid) j k;
    }

-- ---- the writer's answer

module _ (template : List ℕ) (grid : List ℤ) (number bytes : ℕ) where
  by_number : bytes ≡ 1024 → CanBeSent template grid → Listed template grid number bytes (sent_by (number_objection template grid number))
  by_number one can =
      let count = block_count (header_of template) grid in
      by-test (leb count number) (λ e. rw e (number_past one can (leb-true count number e)))
      (λ e. rw e (accepted one can (leb-false count number e)))

  by-grid : bytes ≡ 1024 → record_a template ≡ Sheet (header_of template)
      → Listed template grid number bytes (sent_by (first (grid_objection (header_of template) grid) (number_objection template grid number)))
  by-grid one sheet =
      let h = header_of template in
      let n = sendable (z_of h) (sheet_cells h grid) in
      by-test (ltb (length grid) (cells_of h)) (λ a. rw a (grid-short one sheet (ltb-true (length grid) (cells_of h) a)))
      (λ a.
      let room = ltb-false (length grid) (cells_of h) a in
      by-test (ltb n (cells_of h)) (λ b. rw (a, b) (cell-unsent one sheet room n (first-unsent h grid room (ltb-true n (cells_of h) b))))
      (λ b.
      let all = (grid-passes h grid (rw (a, b))).1 in
      rw (a, b) (by_number one record { sheet = sheet; room = room; cells = cell-sends h grid room (z_of h) all })))

  by-template : bytes ≡ 1024 → length template ≡ 1024 → (c : Checked) → record_a template ≡ c
      → Listed template grid number bytes (sent_by (first (checked_objection c grid) (number_objection template grid number)))
  by-template one long (NoSheet kind byte) e =
      let k : eqb kind 0 ≡ false = ne_eqb kind 0 (refused-kind template kind byte e) in
      let told : sent_by (first (objection kind byte) (number_objection template grid number)) ≡ Refused kind byte = rw (k, k) in
      rw told (template-rule one long kind byte e)
  by-template one long (Sheet k) e =
      let same : k ≡ header_of template = sheet-header 0 refl template e in
      rw same (by-grid one (e ∙ ap Sheet same))

  pub listed : Listed template grid number bytes (sent_by (block_objection template grid number bytes))
  unfolding block_objection sheet_objection
  listed =
      by-test (eqb bytes 1024)
      (λ a.
      let one = eqb-true bytes 1024 a in
      by-test (eqb (length template) 1024) (λ b. rw (a, b) (by-template one (eqb-true (length template) 1024 b) (record_a template) refl))
      (λ b. rw (a, b) (template-length one (eqb-false (length template) 1024 b))))
      (λ a. rw a (block-length (eqb-false bytes 1024 a)))

-- written exactly where nothing is wrong
pub written-fine : (r : Sent) (f : Objection) → r ≡ sent_by f → (r ≡ Written) ↔ (f.kind ≡ 0)
written-fine r f e = (to, λ z. e ∙ (let k : eqb f.kind 0 ≡ true = eq-eqb f.kind 0 z in rw k))
  where
    to : r ≡ Written → f.kind ≡ 0
    to w =
        by-test (eqb f.kind 0) (eqb-true f.kind 0)
        (λ k.
        let told : sent_by f ≡ Refused f.kind f.number = rw k in
        let q : Refused f.kind f.number ≡ Written = sym told ∙ sym e ∙ w in
        let n : ◌≡◌ {A = ℕ} 0 1 = cc in
        absurd (omega (arith, n)))
