-- What stands before the digits: Fronts has what a good front means.
use Rattle.std.proofs.Common.{rules, sym, ◌∙◌, ap, w64, FitsSigned}
use Rattle.std.proofs.lemmas.Int.{to_z-of_z}
use Rattle.number.specs.Integer.{read}
use Rattle.number.proofs.Said.{signed-small}
use Rattle.six.proofs.Fronts.{front_read}
use Rattle.six.proofs.front.Goals as goal

pub returns-then-all_blank : goal.returns-then-all_blank
returns-then-all_blank c =
    let a = c.args in
    let fits : FitsSigned w64 c.signed.result = search rules in
    front_read a.field.now a.k a.size c.requires (sym c.if-is_front.ensures) (sym c.if-all_blank.ensures)
    ∙ sym (ap read (to_z-of_z _ _ fits ∙ signed-small _ _ c.signed.ensures c.requires.small))
