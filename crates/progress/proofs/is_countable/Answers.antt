-- Nine tests.
use Rattle.std.proofs.Common.{rules}
use Rattle.progress.proofs.is_countable.Goals as goal

pub returns-then-is_near : goal.returns-then-is_near
returns-then-is_near c = search rules depth 16

pub returns-else-is_near : goal.returns-else-is_near
returns-else-is_near c = search rules depth 16
