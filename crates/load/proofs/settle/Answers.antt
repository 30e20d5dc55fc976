-- Past the first tests: judged, then done.
use Rattle.load.proofs.Applied.{delivered}
use Rattle.load.proofs.settle.Goals as goal

pub returns : goal.returns
returns c =
    let a = c.args in
    delivered a.s a.number a.block.now c.judge-judged.new.scratch a.grid.now c.apply.new.grid c.judge-judged.result
    c.apply.result
    c.judge-judged.ensures
    c.apply.ensures
