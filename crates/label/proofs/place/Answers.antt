-- What `position` tells of a table is the place there.
use Rattle.std.proofs.Common.{rules, arith, sym}
use Rattle.label.proofs.Origins.{stands-at, stands-nowhere}
use Rattle.label.proofs.place.Goals as goal

pub returns : goal.returns
returns c =
    omega (arith, stands-at c.args.code.now c.args.codes.now 1 c.in-Some.k (search rules) (search rules) (search rules))

pub returns-in_default : goal.returns-in_default
returns-in_default c = sym (stands-nowhere c.args.code.now c.args.codes.now 1 (search rules))
