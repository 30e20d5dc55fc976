-- The code's tables, computed: they are the paper's.
use borrow.Author.Tests.{eq-eqb, ne_eqb}
use Rattle.std.proofs.Common.{sym}
use Rattle.sheet.specs.RecordA.{canadian_front, usgs_front}
use Rattle.sheet.proofs.front_of.Goals as goal

pub returns-then-family-eq1 : goal.returns-then-family-eq1
unfolding canadian_front usgs_front
returns-then-family-eq1 c = sym (rw (eq-eqb c.args.family 1 c.if-family-eq1.true))

pub returns-else-family-eq1 : goal.returns-else-family-eq1
unfolding canadian_front usgs_front
returns-else-family-eq1 c = sym (rw (ne_eqb c.args.family 1 c.if-family-eq1.false))
