-- The session with a block more, where its counts and sums are gone on from.
use Rattle.std.proofs.Common.{w64, to_z, of_z, sym, ◌∙◌}
use Rattle.laws.proofs.Told.{told}
use Rattle.progress.specs.Progress.{countable, filled_with}
use Rattle.progress.proofs.Counts.{counted}
use Rattle.progress.proofs.fill_session.Goals as goal

pub fill_counted-requires : goal.fill_counted-requires
fill_counted-requires c =
    let a = c.args in
    counted a.s a.p a.n a.u (to_z w64 (of_z w64 a.sum)) (sym c.is_countable.ensures ∙ c.if-is_countable.true)

pub returns-then-is_countable : goal.returns-then-is_countable
returns-then-is_countable c =
    let a = c.args in
    let asked = told (countable a.s a.p a.n a.u) a.sum c.is_countable.ensures c.ranges.sum.sfits in
    rw (sym asked ∙ c.if-is_countable.true) (told (filled_with a.s a.column a.p a.n a.u) a.sum c.fill_counted.ensures c.ranges.sum.sfits)

pub returns-else-is_countable : goal.returns-else-is_countable
returns-else-is_countable c =
    let a = c.args in
    let asked = told (countable a.s a.p a.n a.u) a.sum c.is_countable.ensures c.ranges.sum.sfits in
    rw (sym asked ∙ c.if-is_countable.false)
