-- What `rposition` tells of the first 40 bytes says where the name ends.
use Rattle.std.proofs.Common.{rules, arith, length-take}
use Rattle.label.proofs.Names.{name-ends}
use Rattle.label.proofs.name_end.Goals as goal

pub slice_bounds-iter-end : goal.slice_bounds-iter-end
slice_bounds-iter-end c = omega (arith, length-take 40 c.args.block.now)

pub returns-in-Some : goal.returns-in-Some
returns-in-Some c = name-ends c.args.block.now (omega arith) _ (record { inside = search rules; blank = search rules; last = search rules })

pub returns-in-None : goal.returns-in-None
returns-in-None c =
    name-ends c.args.block.now (omega arith) _ (record { inside = omega arith; blank = search rules; last = λ h. absurd (omega arith) })
