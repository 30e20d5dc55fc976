-- After c turns the blocks of the first c columns stand behind block 0.
use Rattle.std.proofs.Common.{◌≡◌, ◌*◌}
use Rattle.numerals.specs.Pieces.{Puts}
use Rattle.written.specs.Cells.{start_sent}
use Rattle.send.specs.WholeSteps.{columns_text}
use Rattle.send.proofs.whole_sheet.write_columns.Given as goal

abbrev pub invariant-loop-c : goal.invariant-loop-c
invariant-loop-c l =
    (l.at ≡ 1024 * start_sent l.h l.grid l.c) × Puts l.fn.out 1024 (columns_text l.h l.grid l.c) l.out l.at
