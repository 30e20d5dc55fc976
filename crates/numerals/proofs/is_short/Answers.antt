-- None past its first digits, or the rest of them tested.
use Rattle.std.proofs.Common.{arith}
use Rattle.std.proofs.lemmas.Grind.{common_steps}
use Rattle.laws.proofs.Tens.{ten-pos}
use Rattle.number.proofs.Tens.{ten-is}
use Rattle.numerals.proofs.Counts.{short-small, short-all, places-most, short-test}
use Rattle.numerals.proofs.is_short.Goals as goal

pub returns-then-size-ten_to : goal.returns-then-size-ten_to
returns-then-size-ten_to c = grind (arith, common_steps, short-small)

pub returns-then-count-digits : goal.returns-then-count-digits
returns-then-count-digits c = grind (arith, common_steps, short-all)

pub nonzero_rem-result : goal.nonzero_rem-result
nonzero_rem-result c =
    rw (ten-is c.ten_to-else-count-digits.ensures (omega (arith, c.places_of-count.ensures, places-most 18 c.args.size))) (ten-pos _)

pub returns-else-count-digits : goal.returns-else-count-digits
returns-else-count-digits c = grind (arith, common_steps, ten-is, places-most, short-test)
