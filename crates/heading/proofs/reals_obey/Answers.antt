-- Four corners and two extremes.
use Rattle.std.proofs.Common.{rules}
use Rattle.heading.proofs.reals_obey.Goals as goal

pub returns-then-is_real_number : goal.returns-then-is_real_number
returns-then-is_real_number c = search rules depth 12

pub returns-else-is_real_number : goal.returns-else-is_real_number
returns-else-is_real_number c = search rules depth 12
