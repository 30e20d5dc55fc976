-- After k turns the column's first k blocks stand.
use Rattle.std.proofs.Common.{◌≡◌, ◌+◌, ◌*◌}
use Rattle.numerals.specs.Pieces.{Puts}
use Rattle.send.specs.WholeSteps.{blocks_text}
use Rattle.send.proofs.whole_sheet.write_column.Given as goal

abbrev pub invariant-loop-k : goal.invariant-loop-k
invariant-loop-k l =
    (l.from ≡ l.at + 1024 * l.k) × Puts l.fn.out l.at (blocks_text l.h l.grid l.column l.k) l.out l.from
