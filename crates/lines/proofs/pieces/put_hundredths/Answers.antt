-- Units, a point and two decimals: three pieces joined.
use Rattle.std.proofs.Common.{◌/◌, ◌%◌, arith}
use Rattle.numerals.proofs.Numerals.{numeral-short, digits-given}
use Rattle.numerals.proofs.Spelling.{spell-length}
use Rattle.lines.specs.Lines.{units}
use Rattle.lines.proofs.Putting.{put, within}
use Rattle.lines.proofs.pieces.put_hundredths.Goals as goal

pub returns : goal.returns
unfolding units
returns c =
    let n = c.args.n in
    put 20 c.put_number-point.ensures (numeral-short (n / 100))
    (put 1 c.put_byte-tenths.ensures (omega arith)
    (within 2 (digits-given 2 (n % 100) (omega arith) (omega arith) c.put_digits.ensures) (omega (arith, spell-length 2 (n % 100)))))
    (omega arith)
