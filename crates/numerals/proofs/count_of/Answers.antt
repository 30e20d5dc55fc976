-- Zero by its own rule, any other number by its places; past the first twenty it has none.
use Rattle.std.proofs.Common.{arith}
use Rattle.std.proofs.lemmas.Grind.{common_steps}
use Rattle.numerals.proofs.Counts.{count-zero, count-some, places-enough}
use Rattle.numerals.proofs.count_of.Goals as goal

pub returns-then-n-eq0 : goal.returns-then-n-eq0
returns-then-n-eq0 c = grind (arith, common_steps, count-zero)

pub returns-else-n-eq0 : goal.returns-else-n-eq0
returns-else-n-eq0 c = grind (arith, common_steps, count-some, places-enough)
