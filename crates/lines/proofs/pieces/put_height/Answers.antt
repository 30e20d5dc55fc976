-- A word, a minus if there is one, and units: three pieces joined.
use Rattle.std.proofs.Common.{w64, to_z, of_z, to_z-of_z, arith}
use Rattle.numerals.proofs.Numerals.{minus-short}
use Rattle.lines.proofs.Putting.{within, then, wider}
use Rattle.lines.proofs.pieces.put_height.Goals as goal

pub put_hundredths-requires : goal.put_hundredths-requires
put_hundredths-requires c =
    let a = within 12 c.put_word-sign.ensures (omega arith) (omega arith) in
    let m = within 1 c.put_minus-first.ensures (minus-short (to_z w64 (of_z w64 c.args.z))) (omega (arith, a.short, a.puts.kept)) in
    omega (arith, a.short, a.puts.kept, m.short, m.puts.kept)

pub returns : goal.returns
returns c =
    let a = within 12 c.put_word-sign.ensures (omega arith) (omega arith) in
    let m = within 1 c.put_minus-first.ensures (minus-short (to_z w64 (of_z w64 c.args.z))) (omega (arith, a.short, a.puts.kept)) in
    rw (← to_z-of_z c.ranges.z, ← c.unsigned_abs.ensures.value)
    (wider (omega arith) (then a (then m c.put_hundredths.ensures)))
