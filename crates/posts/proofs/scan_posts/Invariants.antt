-- The scan: the loop keeps `Scanning`, whose laws are in Scans.
use Rattle.posts.proofs.Scans.{Scanning}
use Rattle.posts.proofs.scan_posts.Given as goal

abbrev pub invariant-loop-i : goal.invariant-loop-i
invariant-loop-i l = Scanning l.block l.byte l.n l.z l.datum l.initial.t l.initial.scratch l.scratch l.t l.i
