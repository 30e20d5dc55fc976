-- At each turn the stretches so far are written.
use Rattle.std.proofs.Common.{◌≡◌, length}
use Rattle.title.specs.ZeroSteps.{stretches_to}
use Rattle.title.proofs.write_zero.Given as goal

abbrev pub invariant-loop-stretch : goal.invariant-loop-stretch
invariant-loop-stretch l =
    (length l.block ≡ length l.initial.block) × (l.block ≡ stretches_to l.template l.stretch-items l.stretch-index l.initial.block)
