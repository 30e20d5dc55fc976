-- The corners read back as they are.
use Rattle.std.proofs.Common.{arith}
use mir.Facts.{to_z-of_z}
use Rattle.frame.proofs.corners_in_order.Goals as goal

pub returns-then-h-3 : goal.returns-then-h-3
returns-then-h-3 c = grind (arith, to_z-of_z)

pub returns-else-h-3 : goal.returns-else-h-3
returns-else-h-3 c = grind (arith, to_z-of_z)
