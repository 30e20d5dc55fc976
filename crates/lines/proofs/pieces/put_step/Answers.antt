-- The remainder decides: a whole number is one piece, any other spacing is that of its hundredths.
use Rattle.std.proofs.Common.{◌/◌, ◌%◌, ◌^◌, arith, eq-eqb}
use borrow.Author.Tests.{ne_eqb}
use Rattle.numerals.proofs.Numerals.{numeral-short}
use Rattle.lines.specs.Lines.{spacing}
use Rattle.lines.proofs.Putting.{within, wider}
use Rattle.lines.proofs.pieces.put_step.Goals as goal

pub returns-then-b-eq0 : goal.returns-then-b-eq0
unfolding spacing
returns-then-b-eq0 c =
    let b = c.args.b in
    rw (eq-eqb (b % 10 ^ 9) 0 c.if-b-eq0.true)
    (wider (omega arith) (within 20 c.put_number.ensures (numeral-short (b / 10 ^ 9)) (omega arith)))

pub returns-else-b-eq0 : goal.returns-else-b-eq0
unfolding spacing
returns-else-b-eq0 c = rw (ne_eqb (c.args.b % 10 ^ 9) 0 c.if-b-eq0.false) c.put_hundredths.ensures
