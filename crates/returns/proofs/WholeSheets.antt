-- A whole sheet in one call: its refusal is the sheet's or the buffer's, and it has as many blocks as are sent, each of 1,024 bytes.
use mathlib.Core.List.{List}
use mathlib.Core.Path.{◌≡◌, refl, sym, ◌∙◌, ap}
use Prim.Native.Nat.{ℕ, ◌*◌, ◌<◌}
use lib.IntN.{ℤ}
use lib.Dec.{eqb}
use lib.ListN.{length, replicate}
use mathlib.Core.Bool.{true, cond}
use borrow.Author.Tests.{eqb-true, eqb-false, eq-eqb}
use Rattle.laws.proofs.Tests.{by-test}
use Rattle.heading.specs.Heading.{header_of}
use Rattle.sheet.proofs.SheetObeys.{sheet-obeys}
use Rattle.written.specs.Cells.{block_count}
use Rattle.written.specs.Blocks.{block_sent}
use Rattle.written.specs.Sending.{objection, sent_by, first, sheet_objection, block_objection, block_after, count_of, sheet_sent_objection}
use Rattle.written.proofs.BlocksSent.{block-long}
use Rattle.written.proofs.SheetPasses.{none_of}
use Rattle.returns.specs.Writers.{Writing, Wrote, CanBeSent}
use Rattle.returns.proofs.Accepted.{all-cells, sent-fine, fine-sent}
use Rattle.returns.proofs.ZeroReads.{template-length}

module _ (template : List ℕ) (grid : List ℤ) where
  pub count-sent : CanBeSent template grid → count_of template grid ≡ block_count (header_of template) grid
  unfolding count_of
  count-sent can = λ i. cond (eqb (sent-fine template grid can i).kind 0) (block_count (header_of template) grid) 0

  pub long : CanBeSent template grid → (b : ℕ) → b < block_count (header_of template) grid
      → length (block_sent template (header_of template) grid b) ≡ 1024
  long can =
      let h = header_of template in
      block-long h grid (sheet-obeys template h can.sheet) can.room (all-cells template grid can) template
      (template-length template h can.sheet)

  pub sent-sheet-fine : (bytes : ℕ) → CanBeSent template grid → bytes ≡ 1024 * block_count (header_of template) grid
      → (sheet_sent_objection template grid bytes).kind ≡ 0
  unfolding sheet_sent_objection
  sent-sheet-fine bytes can e =
      let k : eqb bytes (1024 * count_of template grid) ≡ true
      = eq-eqb bytes (1024 * count_of template grid) (e ∙ ap (λ (n : ℕ). 1024 * n) (sym (count-sent can))) in
      λ i. (first (sent-fine template grid can i) (cond (k i) (objection 0 0) (objection 1 0))).kind

  pub sheet-fine-sent : (bytes : ℕ) → (sheet_sent_objection template grid bytes).kind ≡ 0
      → CanBeSent template grid × (bytes ≡ 1024 * block_count (header_of template) grid)
  unfolding sheet_sent_objection
  sheet-fine-sent bytes z =
      by-test (eqb (sheet_objection template grid).kind 0)
      (λ s.
      let can = fine-sent template grid (eqb-true (sheet_objection template grid).kind 0 s) in
      let room : (cond (eqb bytes (1024 * count_of template grid)) (objection 0 0) (objection 1 0)).kind ≡ 0 = rw s at z in
      by-test (eqb bytes (1024 * count_of template grid))
      (λ k. (can, eqb-true bytes (1024 * count_of template grid) k ∙ ap (λ (n : ℕ). 1024 * n) (count-sent can)))
      (λ k. let q : ◌≡◌ {A = ℕ} 1 0 = rw k at room in none_of 0 q))
      (λ s. let q : (sheet_objection template grid).kind ≡ 0 = rw s at z in absurd (eqb-false (sheet_objection template grid).kind 0 s q))

  -- a call of `write_block` by its definition
  abbrev pub call : ℕ → Writing
  call number =
      let block : List ℕ = replicate 1024 0 in
      record {
        number = number;
        lent = block;
        returned = sent_by (block_objection template grid number (length block));
        left = block_after template grid number block;
      }

  pub call-keeps : (number : ℕ) → Wrote template grid (call number)
  call-keeps number = record { answers = refl; writes = refl }
