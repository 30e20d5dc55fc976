-- How many blocks: none of a sheet that is refused.
use Rattle.std.proofs.Common.{◌∙◌}
use Rattle.kinds.specs.Kinds.{number_of}
use Rattle.send.proofs.AnswerLaws.{counts, good-fits, bad-count, good-count}
use Rattle.send.proofs.block_count.Goals as goal

pub returns-in-Ok : goal.returns-in-Ok
returns-in-Ok c =
    let h = c.in-Ok.h in
    let e = c.in-Ok.ensures in
    c.count_of.ensures
    ∙ counts (good-fits c.args.template.now c.args.grid.now h e).sheet
    ∙ good-count c.args.template.now c.args.grid.now h e

pub returns-in-Err : goal.returns-in-Err
returns-in-Err c =
    bad-count c.args.template.now c.args.grid.now (number_of c.in-Err.field-0.kind) c.in-Err.field-0.number c.in-Err.ensures
