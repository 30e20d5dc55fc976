-- The walk over a table: the loop keeps `Reached`, whose laws are in TableA.
use Rattle.std.proofs.Common.{map}
use Rattle.sheet.specs.RecordASteps.{row_told}
use Rattle.sheet.proofs.TableA.{Reached}
use Rattle.sheet.proofs.walk.Given as goal

abbrev pub invariant-loop-i : goal.invariant-loop-i
invariant-loop-i l = Reached l.terms.family l.block (map row_told l.rows) l.initial.values l.values l.i
