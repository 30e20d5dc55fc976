-- Each block sent is 1,024 bytes, so a whole sheet's b-th block is what the single call writes for b: one by one, or all at once, the same.
use mathlib.Core.List.{List}
use mathlib.Core.Path.{◌≡◌}
use Prim.Native.Nat.{ℕ, ◌<◌, ◌*◌}
use lib.IntN.{ℤ}
use lib.ListN.{length, take, drop}
use mathlib.Core.Bool.{true, false}
use native.Mathlib.Omega.{arith}
use borrow.Author.Tests.{eqb-true, eqb-false, eq-eqb, lt-leb}
use lib.Dec.{eqb, leb}
use Rattle.laws.proofs.Tests.{by-test}
use Rattle.frame.specs.declared.Header.{Header}
use Rattle.heading.specs.Heading.{header_of}
use Rattle.ground.proofs.BlocksJoined.{text-length, block-at}
use Rattle.written.specs.Cells.{block_count}
use Rattle.written.specs.Blocks.{block_sent}
use Rattle.written.specs.Sending.{sheet_objection, block_objection, block_after, count_of, sent_text, sheet_sent_objection, sheet_after}
use Rattle.written.proofs.BlocksSent.{block-long}
use Rattle.send.specs.WholeSteps.{FitAsked}
use Rattle.send.proofs.AnswerLaws.{fine-fits}

module _ (template : List ℕ) (h : Header) (grid : List ℤ) (fit : FitAsked template h grid) where
  long : (b : ℕ) → b < block_count h grid → length (block_sent template h grid b) ≡ 1024
  long = let s = fit.sheet in block-long h grid s.obeys s.room s.all template fit.template-long

-- ---- the whole sheet and the single calls

module _ (template : List ℕ) (grid : List ℤ) where
  -- where there is a block, nothing is refused
  counted : (b : ℕ) → b < count_of template grid
      → ((sheet_objection template grid).kind ≡ 0) × (count_of template grid ≡ block_count (header_of template) grid)
  unfolding count_of
  counted b lt =
      by-test (eqb (sheet_objection template grid).kind 0) (λ z. (eqb-true (sheet_objection template grid).kind 0 z, rw z))
      (λ z. let none : b < 0 = rw z at lt in absurd (omega (arith, none)))

  -- each 1,024 bytes that write_sheet writes are what write_block writes for their number
  pub same_blocks : (b : ℕ) → b < count_of template grid
      → take 1024 (drop (1024 * b) (sent_text template grid (count_of template grid))) ≡ block_sent template (header_of template) grid b
  same_blocks b lt =
      let f = counted b lt in
      let h = header_of template in
      block-at (block_sent template h grid) (block_count h grid) (long template h grid (fine-fits template grid f.0)) (count_of template grid) b
      (omega (arith, f.1)) lt

  -- and there are no others
  pub same_length : length (sent_text template grid (count_of template grid)) ≡ 1024 * count_of template grid
  same_length =
      by-test (eqb (count_of template grid) 0)
      (λ z. let e = eqb-true (count_of template grid) 0 z in rw e)
      (λ z.
      let f = counted 0 (omega (arith, eqb-false (count_of template grid) 0 z)) in
      let h = header_of template in
      text-length (block_sent template h grid) (block_count h grid) (long template h grid (fine-fits template grid f.0)) (count_of template grid)
      (omega (arith, f.1)))

  -- by what the two functions promise: b-th block of the buffer, and the block that is lent for b
  pub single-calls : (out block : List ℕ) (b : ℕ) → length out ≡ 1024 * count_of template grid → length block ≡ 1024 → b < count_of template grid
      → take 1024 (drop (1024 * b) (sheet_after template grid out)) ≡ block_after template grid b block
  unfolding sheet_sent_objection block_objection
  single-calls out block b l m lt =
      let f = counted b lt in
      let count = block_count (header_of template) grid in
      let z : eqb (sheet_objection template grid).kind 0 ≡ true = eq-eqb (sheet_objection template grid).kind 0 f.0 in
      let room : eqb (length out) (1024 * count_of template grid) ≡ true = eq-eqb (length out) (1024 * count_of template grid) l in
      let long : eqb (length block) 1024 ≡ true = eq-eqb (length block) 1024 m in
      let below : leb count b ≡ false = lt-leb count b (omega (arith, lt, f.1)) in
      rw (z, room, long, below) (same_blocks b lt)
