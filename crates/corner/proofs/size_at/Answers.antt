-- An integer field has at most six digits.
use Rattle.std.proofs.Common.{arith}
use Rattle.std.proofs.lemmas.Grind.{common_steps}
use Rattle.number.proofs.Limits.{integer-limits}
use Rattle.corner.proofs.size_at.Goals as goal

pub returns-clause-small : goal.returns-clause-small
returns-clause-small c = grind (arith, common_steps, integer-limits c.stretch_of.result.now)
