-- What is copied stands between what was before it and behind it.
use Rattle.std.proofs.Common.{◌≡◌, ◌∙◌, ℕ, ℤ, List, ◌+◌, ◌-◌, ◌++◌, length, take, drop, ap, append_assoc, arith, rules}
use Rattle.std.proofs.lemmas.List.{drop-drop}
use Rattle.std.proofs.lemmas.List.Edits.{sets-eq}
use Rattle.ledger.proofs.row.put_row.Goals as goal

pub returns : goal.returns
returns c =
    let a = c.args in
    let row : c.copy_from_slice.new.self ≡ a.row.now = search rules in
    let end : a.at + (a.at + length a.row.now - a.at) ≡ a.at + length a.row.now = omega arith in
    rw (row, sets-eq a.row.now a.numbers.now a.at c.requires, append_assoc)
    (ap (λ (rest : List ℤ). take a.at a.numbers.now ++ (a.row.now ++ rest))
    (drop-drop (a.at + length a.row.now - a.at) a.at a.numbers.now ∙ ap (λ (n : ℕ). drop n a.numbers.now) end))
