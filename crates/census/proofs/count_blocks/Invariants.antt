-- The block where the next column starts.
use Rattle.std.proofs.Common.{◌≡◌}
use Rattle.written.specs.Cells.{start_at}
use Rattle.census.proofs.count_blocks.Given as goal

abbrev pub invariant-loop-c : goal.invariant-loop-c
invariant-loop-c l = l.next ≡ start_at l.rows l.grid l.c
