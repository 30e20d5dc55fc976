-- The corners read back as they are.
use Rattle.std.proofs.Common.{arith}
use mir.Facts.{to_z-of_z}
use Rattle.frame.proofs.row_lattice.Goals as goal

pub returns : goal.returns
returns c = grind (arith, to_z-of_z)
