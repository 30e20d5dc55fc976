-- The law of one digit carries a turn, and a digit is a byte.
use Rattle.std.proofs.Common.{arith}
use Rattle.laws.proofs.Tens.{ten-pos}
use Rattle.numerals.proofs.Spelling.{turn, done, digit}
use Rattle.numerals.proofs.put_spelled.Goals as goal

pub nonzero_div-text : goal.nonzero_div-text
nonzero_div-text c = rw c.power_of-power.ensures (ten-pos _)

pub overflow_cast-text : goal.overflow_cast-text
overflow_cast-text c = omega (arith, digit c.loop-i.invariant (omega arith) c.power_of-power.ensures)

pub overflow_add-text : goal.overflow_add-text
overflow_add-text c = omega (arith, digit c.loop-i.invariant (omega arith) c.power_of-power.ensures)

pub nonzero_rem-rest : goal.nonzero_rem-rest
nonzero_rem-rest c = rw c.power_of-power.ensures (ten-pos _)

pub loop-i-preserved : goal.loop-i-preserved
loop-i-preserved c = turn c.loop-i.invariant (omega arith) c.power_of-power.ensures (omega arith)

pub returns : goal.returns
returns c = done c.loop-i.invariant (omega arith) (omega arith)
