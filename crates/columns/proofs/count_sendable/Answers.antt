-- As many as stand before the first that cannot.
use borrow.Author.Tests.{tests}
use Rattle.std.proofs.Common.{◌≡◌, ◌∙◌, true, false, rules}
use Rattle.std.proofs.lemmas.Iterator.{IsFirst-from_position, YieldsList-from_slice}
use Rattle.written.specs.Cells.{can_send}
use Rattle.columns.proofs.Sendable.{sendable-first}
use Rattle.columns.proofs.count_sendable.Goals as goal

pub returns : goal.returns
returns c =
    let cells = c.args.cells.now in
    c.unwrap_or.ensures
    ∙ sendable-first c.args.z cells c.position.result
    (IsFirst-from_position _ _ c.position.result (λ cell. can_send c.args.z cell ≡ false) (λ cell. can_send c.args.z cell ≡ true) c.position.ensures.ran
    (YieldsList-from_slice cells cc) (λ x q k. search (rules, tests)) (λ x q k. search (rules, tests)))
