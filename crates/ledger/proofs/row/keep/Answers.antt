-- The four rows, one behind the other.
use Rattle.std.proofs.Common.{◌∙◌, ap, List, ℤ}
use Rattle.std.proofs.lemmas.List.Edits.{sets}
use Rattle.ledger.specs.Row.{count_row, profile_row, added_row}
use Rattle.ledger.proofs.Keeping.{rows-put}
use Rattle.ledger.proofs.row.keep.Goals as goal

pub returns : goal.returns
returns c =
    let s = c.args.s in
    c.put_added.ensures
    ∙ ap (λ (l : List ℤ). sets l 37 (added_row s))
    (c.put_profile.ensures
    ∙ ap (λ (l : List ℤ). sets l 28 (profile_row s.profile))
    (c.put_counts.ensures ∙ ap (λ (l : List ℤ). sets l 20 (count_row s)) c.put_header.ensures))
    ∙ rows-put s c.args.numbers.now c.requires
