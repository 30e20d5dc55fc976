-- The answers of the whole sheet's writer are the paper's, by what its judge said.
use mathlib.Core.Bool.{Bool, true, false, cond}
use mathlib.Core.List.{List}
use mathlib.Core.Path.{◌≡◌, refl, sym, ◌∙◌, ap}
use Prim.Native.Nat.{ℕ, ◌*◌}
use lib.Dec.{eqb}
use lib.IntN.{ℤ}
use lib.ListN.{length}
use Rattle.laws.proofs.Tests.{by-test}
use Rattle.frame.specs.declared.Header.{Header}
use Rattle.heading.specs.Heading.{header_of}
use Rattle.written.specs.Cells.{block_count}
use Rattle.written.specs.Sending.{Objection, objection, sheet_objection, count_of, sent_text, sent_by, sheet_sent_objection, sheet_after}
use Rattle.columns.specs.Judging.Judged.{Good, Bad}
use Rattle.columns.specs.Judging.{judged_by}
use Rattle.columns.proofs.Verdicts.{judged-bad}
use Rattle.written.specs.Sending.{Sent}
use Rattle.written.specs.Sending.Sent.{Refused}
use Rattle.send.specs.WholeSteps.{whole_text, room_objection}
use Rattle.send.proofs.AnswerLaws.{good-header, good-fine, good-count}
use Rattle.send.proofs.WholeText.{whole_is}

module _ (template : List ℕ) (grid : List ℤ) where
  refused-fault : (bytes : ℕ) → eqb (sheet_objection template grid).kind 0 ≡ false → sheet_sent_objection template grid bytes ≡ sheet_objection template grid
  unfolding sheet_sent_objection
  refused-fault bytes z = rw z

  pub sheet-refused : (out : List ℕ) (kind number : ℕ) → Bad kind number ≡ judged_by (header_of template) (sheet_objection template grid)
      → (Refused kind number ≡ sent_by (sheet_sent_objection template grid (length out))) × (out ≡ sheet_after template grid out)
  sheet-refused out kind number e =
      let j = judged-bad (header_of template) (sheet_objection template grid) kind number e in
      let same = refused-fault (length out) j.0 ∙ sym j.1 in
      let k : eqb kind 0 ≡ false = ap (λ (f : Objection). eqb f.kind 0) j.1 ∙ j.0 in
      rw (same, k) (refl, refl)

  fine-fault : (bytes : ℕ) → eqb (sheet_objection template grid).kind 0 ≡ true
      → sheet_sent_objection template grid bytes ≡ room_objection (header_of template) grid bytes
  unfolding sheet_sent_objection count_of
  fine-fault bytes z = rw z

  pub sheet-sent : (out after : List ℕ) (r : Sent) (h : Header) → Good h ≡ judged_by (header_of template) (sheet_objection template grid)
      → r ≡ sent_by (room_objection h grid (length out))
      → after ≡ cond (eqb (length out) (1024 * block_count h grid)) (whole_text template h grid) out
      → (r ≡ sent_by (sheet_sent_objection template grid (length out))) × (after ≡ sheet_after template grid out)
  sheet-sent out after r k e a b =
      let h = header_of template in
      let z = good-fine template grid k e in
      let same = good-header template grid k e in
      let fine = fine-fault (length out) z in
      let test = eqb (length out) (1024 * block_count h grid) in
      let text : whole_text template h grid ≡ sent_text template grid (count_of template grid)
      = whole_is template h grid ∙ ap (sent_text template grid) (ap (λ (x : Header). block_count x grid) (sym same) ∙ good-count template grid k e) in
      let kind : (t : Bool) → eqb (cond t (objection 0 0) (objection 1 0)).kind 0 ≡ t = λ t. by-test t (λ y. rw y) (λ y. rw y) in (
        a ∙ ap (λ (x : Header). sent_by (room_objection x grid (length out))) same ∙ ap sent_by (sym fine),
        b
            ∙ ap (λ (x : Header). cond (eqb (length out) (1024 * block_count x grid)) (whole_text template x grid) out) same
            ∙ ap (λ (t : List ℕ). cond test t out) text
            ∙ ap (λ (t : Bool). cond t (sent_text template grid (count_of template grid)) out)
            (sym (ap (λ (x : Objection). eqb x.kind 0) fine ∙ kind test)),
      )
