-- As many as stand before the first that is filled.
use borrow.Author.Tests.{tests}
use Rattle.std.proofs.Common.{◌≡◌, ◌∙◌, true, false, rules}
use Rattle.std.proofs.lemmas.Iterator.{IsFirst-from_position, YieldsList-from_slice}
use Rattle.laws.specs.Sign.{same_z}
use Rattle.ground.specs.Posts.{void}
use Rattle.columns.proofs.Columns.{voids-first}
use Rattle.columns.proofs.voids_before.Goals as goal

pub returns : goal.returns
returns c =
    let cells = c.args.column.now in
    c.unwrap_or.ensures
    ∙ voids-first cells c.position.result
    (IsFirst-from_position _ _ c.position.result (λ cell. same_z cell void ≡ false) (λ cell. same_z cell void ≡ true) c.position.ensures.ran
    (YieldsList-from_slice cells cc) (λ x q k. search (rules, tests)) (λ x q k. search (rules, tests)))
