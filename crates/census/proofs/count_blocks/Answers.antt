-- CensusLaws keeps the sum small, and has one turn.
use Rattle.std.proofs.Common.{ℕ, ◌+◌, ◌∙◌, ap, sym, arith}
use Rattle.written.proofs.SheetSent.{first-start}
use Rattle.census.proofs.CensusLaws.{sizes, next-most, start-more}
use Rattle.census.proofs.count_blocks.Goals as goal

pub loop-c-init : goal.loop-c-init
loop-c-init c = sym (first-start c.args.rows c.args.grid.now)

pub overflow_add-next : goal.overflow_add-next
overflow_add-next c =
    let a = c.args in
    let l = c.loop-c in
    omega
    (arith, next-most (sizes a.columns a.rows a.grid.now c.requires) l.c l.next c.column_at.result.posts c.loop-c-test.true l.invariant c.column_at.ensures.1, c.blocks_for-next.ensures)

pub loop-c-preserved : goal.loop-c-preserved
loop-c-preserved c =
    let l = c.loop-c in
    ap (λ (n : ℕ). l.next + n) c.blocks_for-next.ensures
    ∙ start-more c.args.rows c.args.grid.now l.c l.next c.column_at.result.posts l.invariant c.column_at.ensures.1
