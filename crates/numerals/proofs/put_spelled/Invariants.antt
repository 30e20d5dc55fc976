-- Digits put from the left: what stands and what is still to come make the whole.
use Rattle.numerals.proofs.Spelling.{Spelling}
use Rattle.numerals.proofs.put_spelled.Given as goal

abbrev pub invariant-loop-i : goal.invariant-loop-i
invariant-loop-i l = Spelling l.fn.text l.at l.k l.n l.text l.i l.rest
