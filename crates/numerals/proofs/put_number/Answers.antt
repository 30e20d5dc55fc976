-- As many digits as the number has: they are enough, and no more than 20.
use Rattle.std.proofs.Common.{arith}
use Rattle.std.proofs.lemmas.Grind.{common_steps}
use Rattle.numerals.proofs.Counts.{count_most, count-above}
use Rattle.numerals.proofs.Numerals.{digits-given}
use Rattle.numerals.proofs.put_number.Goals as goal

pub returns : goal.returns
returns c = grind (arith, common_steps, count_most 1 20 c.args.n, count-above 1 20 c.args.n, digits-given)
