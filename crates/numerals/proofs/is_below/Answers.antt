-- Twenty digits are enough for any number of 64 bits.
use Rattle.std.proofs.Common.{◌≤◌, arith}
use Rattle.std.proofs.lemmas.Grind.{common_steps}
use Rattle.laws.proofs.Tens.{ten-up}
use Rattle.numerals.proofs.is_below.Goals as goal

pub returns-then-k-gt19 : goal.returns-then-k-gt19
returns-then-k-gt19 c =
    let l : 20 ≤ c.args.k = omega arith in
    grind (arith, common_steps, ten-up l)
