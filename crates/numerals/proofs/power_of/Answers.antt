-- The others from the table.
use Rattle.std.proofs.Common.{arith}
use Rattle.number.proofs.Tens.{ten-is}
use Rattle.numerals.proofs.power_of.Goals as goal

pub returns-else-k-eq19 : goal.returns-else-k-eq19
returns-else-k-eq19 c = ten-is c.ten_to.ensures (omega arith)
