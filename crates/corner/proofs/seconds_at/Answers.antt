-- A real has less than 10 ^ 18 billionths.
use Rattle.std.proofs.Common.{arith}
use Rattle.std.proofs.lemmas.Grind.{common_steps}
use Rattle.number.proofs.Limits.{real-small}
use Rattle.corner.proofs.seconds_at.Goals as goal

pub returns-clause-small : goal.returns-clause-small
returns-clause-small c = grind (arith, common_steps, real-small c.stretch_of.result.now)
