-- The loop keeps `Decoding`, whose laws are in Cells.
use Rattle.sender.proofs.Cells.{Decoding}
use Rattle.sender.proofs.input.decode.Given as goal

abbrev pub invariant-loop-i : goal.invariant-loop-i
invariant-loop-i l = Decoding l.text l.fn.grid l.grid l.i
