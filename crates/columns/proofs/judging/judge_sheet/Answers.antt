-- The template first, then the grid: GridJudged.
use Rattle.std.proofs.Common.{◌∙◌, sym, length, ne_eqb}
use Rattle.kinds.specs.Kinds.{number_of}
use Rattle.sheet.proofs.SheetObeys.{sheet-obeys}
use Rattle.written.specs.Sending.{sheet_objection}
use Rattle.columns.proofs.GridJudged.{template-refused, template-sheet}
use Rattle.columns.proofs.judging.judge_sheet.Goals as goal

pub returns-then-template-ne1024 : goal.returns-then-template-ne1024
unfolding sheet_objection
returns-then-template-ne1024 c = rw (c.of.ensures, ne_eqb (length c.args.template.now) 1024 c.if-template-ne1024.true)

pub judge_grid-requires : goal.judge_grid-requires
judge_grid-requires c = sheet-obeys c.args.template.now c.in-Ok.h (sym c.in-Ok.ensures)

pub returns-in-Ok : goal.returns-in-Ok
returns-in-Ok c =
    c.judge_grid.ensures
    ∙ template-sheet c.args.template.now c.args.grid.now c.if-template-ne1024.false c.in-Ok.h (sym c.in-Ok.ensures)

pub returns-in-Err : goal.returns-in-Err
returns-in-Err c =
    let b = c.in-Err.b in
    rw (c.of-in-Err.ensures, c.from.ensures)
    (template-refused c.args.template.now c.args.grid.now c.if-template-ne1024.false (number_of b.kind) b.byte (sym c.in-Err.ensures))
