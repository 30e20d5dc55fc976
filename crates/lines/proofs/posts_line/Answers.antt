-- Posts and voids after their words, the last with the line feed.
use Rattle.std.proofs.Common.{◌≡◌, ◌-◌, arith}
use Rattle.lines.specs.Lines.{posts_line}
use Rattle.lines.proofs.Putting.{then, wider}
use Rattle.lines.proofs.posts_line.Goals as goal

pub returns : goal.returns
unfolding posts_line
returns c =
    let void : c.saturating_sub.result ≡ c.args.posts - c.args.filled = c.saturating_sub.ensures in
    rw (← void) (wider (omega arith) (then c.put_number-a.ensures c.put_last.ensures))
