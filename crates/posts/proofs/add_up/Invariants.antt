-- The loop keeps `Adding`, whose laws are in Sums.
use Rattle.posts.proofs.Sums.{Adding}
use Rattle.posts.proofs.add_up.Given as goal

abbrev pub invariant-loop-h : goal.invariant-loop-h
invariant-loop-h l = Adding l.h-items l.sum l.h-index
