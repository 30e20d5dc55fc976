-- The four lines joined.
use Rattle.std.proofs.Common.{rules, w64, to_z-of_z, FitsSigned, arith}
use Rattle.lines.specs.Lines.{report_text, end_line}
use Rattle.lines.proofs.Putting.{then, wider}
use Rattle.lines.proofs.report.Goals as goal

pub returns : goal.returns
unfolding report_text end_line
returns c =
    let low : FitsSigned w64 c.args.s.low = search rules in
    let high : FitsSigned w64 c.args.s.high = search rules in
    rw (← to_z-of_z low, ← to_z-of_z high)
    (wider (omega arith)
    (then c.head_line-posts.ensures
    (then c.posts_line-range.ensures (then c.range_line-end.ensures c.put_last.ensures))))
