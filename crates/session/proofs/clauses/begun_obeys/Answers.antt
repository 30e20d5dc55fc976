-- The counts are looked at where the rest obeys, and the bounds of the rest are theirs: `places-bound`.
use Rattle.std.proofs.Common.{sym, ◌∙◌}
use Rattle.session.proofs.Bounds.{halves, places-bound}
use Rattle.session.proofs.clauses.begun_obeys.Goals as goal

pub counts_obey-requires : goal.counts_obey-requires
counts_obey-requires c = places-bound c.args.s (sym c.places_obey.ensures ∙ c.if-places_obey.true)

pub returns-then-places_obey : goal.returns-then-places_obey
returns-then-places_obey c = rw (← halves c.args.s, ← c.places_obey.ensures, c.if-places_obey.true) c.counts_obey.ensures

pub returns-else-places_obey : goal.returns-else-places_obey
returns-else-places_obey c = rw (← halves c.args.s, ← c.places_obey.ensures, c.if-places_obey.false)
