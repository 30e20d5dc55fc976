-- The buffer's length is the count's, and every block is written; or it is another, and nothing is.
use Rattle.std.proofs.Common.{ℕ, ℤ, List, ◌≡◌, ◌∙◌, ◌*◌, ap, refl, sym, length, arith, false, true, eqb, ne_eqb, eq-eqb}
use Rattle.frame.specs.declared.Header.{Header}
use Rattle.written.specs.Cells.{block_count}
use Rattle.census.specs.Census.{counted}
use Rattle.send.specs.SendSteps.{SendableSheet}
use Rattle.send.proofs.AnswerLaws.{counts}
use Rattle.send.proofs.WholeText.{count_most}
use Rattle.send.proofs.whole_sheet.write_fitting.Goals as goal

module _ {h : Header} {grid : List ℤ} (s : SendableSheet h grid) {count : ℕ} (e : count ≡ counted h grid) where
  many : 1024 * count ≡ 1024 * block_count h grid
  many = ap (λ (k : ℕ). 1024 * k) (e ∙ counts s)

pub overflow_mul-count : goal.overflow_mul-count
overflow_mul-count c = omega (arith, many c.requires.sheet c.count_of-count.ensures, count_most c.requires.sheet)

pub returns-then-out-count : goal.returns-then-out-count
returns-then-out-count c =
    let a = c.args in
    let count = block_count a.h a.grid.now in
    let m = many c.requires.sheet c.count_of-count.ensures in
    let t : eqb (length a.out.now) (1024 * count) ≡ false
    = ne_eqb (length a.out.now) (1024 * count) (λ e. c.if-out-count.true (e ∙ sym m)) in
    rw (c.of.ensures, t) (refl, refl)

pub write_blocks-requires : goal.write_blocks-requires
write_blocks-requires c =
    record {
      sheet = c.requires.sheet;
      template-long = c.requires.template-long;
      room = c.if-out-count.false ∙ many c.requires.sheet c.count_of-count.ensures;
    }

pub returns : goal.returns
returns c =
    let a = c.args in
    let count = block_count a.h a.grid.now in
    let t : eqb (length a.out.now) (1024 * count) ≡ true
    = eq-eqb (length a.out.now) (1024 * count) (c.if-out-count.false ∙ many c.requires.sheet c.count_of-count.ensures) in
    rw t (refl, c.write_blocks.ensures)
