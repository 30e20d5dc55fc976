-- Each turn goes on from where the one before came to, and what is still brought comes to where all does. The measure is the blocks that can
-- still be taken.
use mathlib.Core.List.{List}
use lib.IntN.{ℤ}
use Rattle.session.specs.Session.{fresh}
use Rattle.listing.specs.declared.Stage.TheVariants.{More}
use Rattle.listing.specs.declared.Turn.{Turn}
use Rattle.listing.specs.Turns.{turn, Fed}
use Rattle.listing.proofs.Loops.{Listing, to_come}
use Rattle.listing.proofs.all_blocks.Given as goal

abbrev pub invariant-loop-source : goal.invariant-loop-source
invariant-loop-source g l =
    Listing l.fn.grid l.t l.grid
    × ((s : g.row.S.Denot) (last : Turn) (after : List ℤ) → Fed g.S.Source.brings l.source l.bytes l.t l.grid s last after
    → Fed g.S.Source.brings l.fn.source l.fn.bytes (turn fresh More) l.fn.grid s last after)

abbrev pub decreases-loop-source : goal.decreases-loop-source
decreases-loop-source g l = to_come l.t
