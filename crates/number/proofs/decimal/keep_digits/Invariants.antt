-- A mantissa's digits kept in 64 bits: the loop keeps `Keeping`, whose laws are in Runs.
use Rattle.number.proofs.Runs.{Keeping}
use Rattle.number.proofs.decimal.keep_digits.Given as goal

abbrev pub invariant-loop-i : goal.invariant-loop-i
invariant-loop-i l = Keeping l.s l.fn.from l.fn.k l.kept l.i
