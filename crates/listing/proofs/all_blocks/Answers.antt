-- Each turn's laws stand in Loops. Where a turn comes to, all that is still brought comes to as from the beginning.
use Rattle.std.proofs.Common.{rules}
use mathlib.Core.Path.{subst}
use lib.ListN.{take}
use Rattle.listing.specs.declared.Turn.{Turn}
use Rattle.listing.specs.Turns.{Fed, over, brought}
use Rattle.listing.proofs.Loops.{begins, goes_on, falls, as_answered}
use Rattle.listing.proofs.all_blocks.Goals as goal

pub loop-source-init : goal.loop-source-init
loop-source-init g c = (
  begins c.begin-t.ensures,
  λ s last after k.
      subst (λ (t : Turn). Fed g.S.Source.brings c.args.source.now c.args.bytes.now t c.args.grid.now s last after) c.begin-t.ensures k,
)

pub loop-source-smaller : goal.loop-source-smaller
loop-source-smaller g c = falls c.loop-source.invariant.0 (search rules) (record { bytes = take c.min-got.result c.fetch.new.bytes; comes = c.take_bytes-t.ensures })

pub loop-source-preserved : goal.loop-source-preserved
loop-source-preserved g c = (
  goes_on c.loop-source.invariant.0 (search rules) (record { bytes = take c.min-got.result c.fetch.new.bytes; comes = c.take_bytes-t.ensures }),
  λ s last after k.
      c.loop-source.invariant.1 s last after
      (brought (search rules) c.fetch.ensures (as_answered _ c.fetch.result c.fetch.new.bytes _ c.min-got.result (search rules) c.take_bytes-t.ensures) k),
)

pub returns-clause-fed : goal.returns-clause-fed
returns-clause-fed g c = c.loop-source.invariant.1 _ _ _ (over (search rules))
