-- A run of no block, and one to an unsound session.
use Rattle.std.proofs.Common.{refl, sym, ◌∙◌, length}
use borrow.Author.Tests.{eqb-true, eqb-false}
use Rattle.delivery.specs.Deliver.{lend}
use Rattle.runs.proofs.Ends.{empty, unsound}
use Rattle.load.proofs.Paces.{as-run}
use Rattle.load.proofs.deliver_run.Goals as goal

pub returns-then-is_empty : goal.returns-then-is_empty
returns-then-is_empty c =
    let a = c.args in
    let none = eqb-true (length a.blocks.now) 0 (sym c.is_empty.ensures ∙ c.if-is_empty.true) in
    as-run a.s a.number a.blocks.now a.grid.now (empty a.s a.number a.blocks.now (lend a.grid.now) c.if-blocks-ne0.false none) c.set_out.ensures refl

pub returns-then-not-is_sound : goal.returns-then-not-is_sound
returns-then-not-is_sound c =
    let a = c.args in
    let some = eqb-false (length a.blocks.now) 0 (sym c.is_empty.ensures ∙ c.if-is_empty.false) in
    as-run a.s a.number a.blocks.now a.grid.now
    (unsound a.s a.number a.blocks.now (lend a.grid.now) c.if-blocks-ne0.false some (sym c.is_sound.ensures ∙ c.if-not-is_sound.true))
    c.refused-then-not-is_sound.ensures
    refl
