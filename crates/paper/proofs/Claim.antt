-- Every row of the table holds, by computing the definitions.
use mathlib.Core.Path.{refl}
use Rattle.laws.specs.Digits.{places, short}
use Rattle.number.specs.Integer.{integer}
use Rattle.number.specs.IntegerStarts.{integer_byte}
use Rattle.number.specs.Real.{real, billionths}
use Rattle.number.specs.RealStarts.{real_byte}
use Rattle.paper.specs.Examples.{table, AllHold}

pub the-paper-holds : AllHold table
unfolding table integer integer_byte real real_byte billionths places short
the-paper-holds = (refl, (refl, (refl, (refl, (refl, (refl, (refl, (refl, (refl, (refl, (refl, (refl, (refl, (refl, (refl, (refl, (refl, (refl, (refl, (refl, (refl, (refl, (refl, (refl, (refl, (refl, (refl, (refl, (refl, (refl, (refl, (refl, (refl, (refl, (refl, (refl, (refl, (refl, (refl, (refl, (refl, (refl, (refl, (refl, (refl, (refl, (refl, (refl, (refl, (refl, (refl, (refl, (refl, (refl, tt))))))))))))))))))))))))))))))))))))))))))))))))))))))
