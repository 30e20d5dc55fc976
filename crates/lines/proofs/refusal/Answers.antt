-- Three numbers, the first after its word, and the line feed.
use Rattle.std.proofs.Common.{arith}
use Rattle.lines.specs.Lines.{refused_text}
use Rattle.lines.proofs.Putting.{within, then, wider}
use Rattle.lines.proofs.refusal.Goals as goal

pub returns : goal.returns
unfolding refused_text
returns c =
    wider (omega arith)
    (then c.put_number-a.ensures
    (then c.put_number-b.ensures (then c.put_number-c.ensures (within 1 c.put_byte.ensures (omega arith) (omega arith)))))
