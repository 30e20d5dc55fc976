-- Each column passed ends before the block.
use Rattle.std.proofs.Common.{◌≡◌, ◌≤◌}
use Rattle.written.specs.Cells.{start_at}
use Rattle.census.proofs.search.Given as goal

abbrev pub invariant-loop-c : goal.invariant-loop-c
invariant-loop-c l = (l.start ≡ start_at l.rows l.grid l.c) × (l.start ≤ l.number)
