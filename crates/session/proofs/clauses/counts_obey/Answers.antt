-- Five clauses.
use Rattle.std.proofs.Common.{rules}
use Rattle.session.proofs.clauses.counts_obey.Goals as goal

pub returns-then-extremes_obey-2 : goal.returns-then-extremes_obey-2
returns-then-extremes_obey-2 c = search rules depth 12

pub returns-else-extremes_obey-2 : goal.returns-else-extremes_obey-2
returns-else-extremes_obey-2 c = search rules depth 12
