-- The search down the first bytes of the back.
use borrow.Author.Tests.{tests}
use Rattle.std.proofs.Common.{◌≡◌, ◌∙◌, true, false, eqb, length, map, rules}
use Rattle.std.proofs.lemmas.Iterator.{IsFirst-from_position, YieldsList-from_slice}
use Rattle.std.specs.Option.{unwrap_or}
use Rattle.sheet.specs.RecordA.{back}
use Rattle.sheet.specs.RecordASteps.{row_told, place_in}
use Rattle.sheet.proofs.TableA.{place-first}
use Rattle.sheet.proofs.place_of.Goals as goal

pub returns : goal.returns
unfolding back
returns c =
    let first = c.args.first in
    let rows = c.iter.result.rest.now in
    let is : unwrap_or c.position.result (length rows) ≡ place_in first (map row_told rows) =
    place-first first rows c.position.result
    (IsFirst-from_position {all = rows} _ _ c.position.result (λ row. eqb row.0 first ≡ true) (λ row. eqb row.0 first ≡ false) c.position.ensures.ran
    (YieldsList-from_slice rows cc) (λ x q k. search (rules, tests)) (λ x q k. search (rules, tests)))
    in
    c.unwrap_or.ensures ∙ rw c.iter.ensures.rest at is
