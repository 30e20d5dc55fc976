-- Two counts, the first after its word, three spacings, and the line feed.
use Rattle.std.proofs.Common.{arith}
use Rattle.lines.proofs.Putting.{within, then, wider}
use Rattle.lines.proofs.sheet_line.Goals as goal

pub returns : goal.returns
returns c =
    wider (omega arith)
    (then c.put_number-a.ensures
    (then c.put_number-b.ensures
    (then c.put_spacing-c.ensures
    (then c.put_spacing-d.ensures (then c.put_units-e.ensures (within 1 c.put_byte.ensures (omega arith) (omega arith)))))))
