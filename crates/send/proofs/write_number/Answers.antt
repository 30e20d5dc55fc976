-- Past the count nothing is written; block 0 and the later ones are.
use Rattle.std.proofs.Common.{ℕ, ◌≡◌, ◌<◌, ◌∙◌, List, ℤ, subst}
use Rattle.frame.specs.declared.Header.{Header}
use Rattle.written.specs.Cells.{block_count}
use Rattle.census.specs.Census.{counted}
use Rattle.send.specs.SendSteps.{SendableSheet}
use Rattle.send.proofs.BlockCells.{title-block}
use Rattle.send.proofs.AnswerLaws.{counts, past_end, written-zero, written-later}
use Rattle.send.proofs.write_number.Goals as goal

-- past the first test the block is one of the sheet
below : {h : Header} {grid : List ℤ} {number count : ℕ} → SendableSheet h grid → count ≡ counted h grid → number < count
    → number < block_count h grid
below {h} {grid} {number} s e p = subst (λ (n : ℕ). number < n) (e ∙ counts s) p

pub returns-then-count-number : goal.returns-then-count-number
returns-then-count-number c =
    let a = c.args in
    rw c.of.ensures
    (past_end a.template.now a.h a.grid.now a.number a.block.now c.count_of-count.result
    (c.count_of-count.ensures ∙ counts c.requires.sheet)
    c.if-count-number.true)

pub returns-then-number-eq0 : goal.returns-then-number-eq0
returns-then-number-eq0 c =
    let a = c.args in
    let b = below c.requires.sheet c.count_of-count.ensures c.if-count-number.false in
    written-zero a.template.now a.h a.grid.now a.number a.block.now c.write_title.new.block b c.if-number-eq0.true
    (c.write_title.ensures ∙ title-block c.requires)

pub returns-else-number-eq0 : goal.returns-else-number-eq0
returns-else-number-eq0 c =
    let a = c.args in
    let b = below c.requires.sheet c.count_of-count.ensures c.if-count-number.false in
    written-later a.template.now a.h a.grid.now a.number a.block.now c.write_later.new.block b c.if-number-eq0.false
    c.write_later.ensures
