-- Digits from the right: with those still to come before them they are the numeral, and some are still to come (FromRight).
use Rattle.std.proofs.Common.{true}
use Rattle.spell.proofs.FromRight.{Leftward}
use Rattle.spell.proofs.put_from_right.Given as goal

abbrev pub invariant-loop-rest : goal.invariant-loop-rest
invariant-loop-rest l = Leftward l.fn.field l.n l.field l.at l.rest true

abbrev pub decreases-loop-rest : goal.decreases-loop-rest
decreases-loop-rest l = l.at
