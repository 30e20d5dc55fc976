-- Digits and their number: the loop keeps `Spelling`, whose laws are in Runs.
use Rattle.number.proofs.Runs.{Spelling}
use Rattle.number.proofs.walk.read_whole.Given as goal

abbrev pub invariant-loop-i : goal.invariant-loop-i
invariant-loop-i l = Spelling l.s l.fn.from l.value l.i
