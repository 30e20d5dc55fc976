-- CensusLaws has that the first column that does not end before the block is the one.
use Rattle.std.proofs.Common.{◌≡◌, ◌<◌, ℕ, ◌+◌, ◌∙◌, ap, sym, subst, arith}
use Rattle.written.specs.Cells.{start_at}
use Rattle.written.proofs.SheetSent.{first-start}
use Rattle.census.proofs.CensusLaws.{sizes, next-most, found, none_found, start-more}
use Rattle.census.proofs.search.Goals as goal

pub loop-c-init : goal.loop-c-init
loop-c-init c = (sym (first-start c.args.rows c.args.grid.now), omega arith)

pub overflow_add-next : goal.overflow_add-next
overflow_add-next c =
    let a = c.args in
    let l = c.loop-c in
    omega
    (arith, next-most (sizes a.columns a.rows a.grid.now c.requires.0) l.c l.start c.column_at-column.result.posts c.loop-c-test.true l.invariant.0 c.column_at-column.ensures.1, c.blocks_for.ensures)

pub returns-then-number-next : goal.returns-then-number-next
returns-then-number-next c =
    let a = c.args in
    let l = c.loop-c in
    found a.columns a.rows a.grid.now a.number l.c l.start c.column_at-column.result.row c.column_at-column.result.posts
    c.loop-c-test.true l.invariant.0 c.column_at-column.ensures.0 c.column_at-column.ensures.1 l.invariant.1
    (subst (λ (n : ℕ). a.number < l.start + n) c.blocks_for.ensures c.if-number-next.true)

pub loop-c-preserved : goal.loop-c-preserved
loop-c-preserved c =
    let l = c.loop-c in (
      ap (λ (n : ℕ). l.start + n) c.blocks_for.ensures
          ∙ start-more c.args.rows c.args.grid.now l.c l.start c.column_at-column.result.posts l.invariant.0 c.column_at-column.ensures.1,
      c.if-number-next.false,
    )

pub returns : goal.returns
returns c =
    let a = c.args in
    let e : c.loop-c.c ≡ a.columns = omega arith in
    none_found a.columns a.rows a.grid.now a.number
    (omega (arith, ap (start_at a.rows a.grid.now) e, c.loop-c.invariant.0, c.loop-c.invariant.1))
