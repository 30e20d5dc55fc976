-- The two extremes after their words, and the line feed.
use Rattle.std.proofs.Common.{◌≡◌, ap, ◌∙◌, w64, to_z, of_z, to_z-of_z, arith}
use Rattle.lines.specs.Lines.{range_line, extreme}
use Rattle.lines.proofs.Putting.{within, then, wider}
use Rattle.lines.proofs.range_line.Goals as goal

pub returns : goal.returns
unfolding range_line
returns c =
    let a = c.args in
    let e : to_z w64 (of_z w64 c.extreme_of.result) ≡ extreme a.filled a.low =
    to_z-of_z {w = w64} (record { sfits = c.extreme_of.type_inv }) ∙ c.extreme_of.ensures ∙ ap (extreme a.filled) (to_z-of_z c.ranges.low)
    in
    let g : to_z w64 (of_z w64 c.extreme_of-2.result) ≡ extreme a.filled a.high =
    to_z-of_z {w = w64} (record { sfits = c.extreme_of-2.type_inv }) ∙ c.extreme_of-2.ensures ∙ ap (extreme a.filled) (to_z-of_z c.ranges.high)
    in
    rw (← e, ← g)
    (wider (omega arith)
    (then c.put_height-a.ensures (then c.put_height-b.ensures (within 1 c.put_byte.ensures (omega arith) (omega arith)))))
