-- Eight numbers of an open profile.
use Rattle.std.proofs.Common.{rules}
use Rattle.session.proofs.clauses.profile_obeys.Goals as goal

pub returns-then-is_real_number-2 : goal.returns-then-is_real_number-2
returns-then-is_real_number-2 c = search rules depth 12

pub returns-else-is_real_number-2 : goal.returns-else-is_real_number-2
returns-else-is_real_number-2 c = search rules depth 12
