-- What the code answers of a record A is one to one with what the definitions say of it.
use Rattle.std.proofs.Common.{◌≡◌, refl, sym, ◌∙◌, ap}
use Rattle.std.specs.Prelude.{Result, Ok, Err}
use Rattle.field.specs.Field.{fault}
use Rattle.field.specs.declared.Fault.{Fault}
use Rattle.field.specs.Told.{fault_told}
use Rattle.field.specs.declared.Broken.{Broken}
use Rattle.field.proofs.OneTold.{told-one}
use Rattle.frame.specs.declared.Header.{Header}
use Rattle.heading.specs.Heading.{fresh_header}
use Rattle.sheet.specs.RecordA.{Checked, checked_told, checked_kind, checked_byte}
use Rattle.sheet.specs.RecordA.Checked.{Sheet, Refused}

abbrev header_in : Checked → Header
header_in (Sheet h) = h
header_in (Refused kind byte) = fresh_header

abbrev fault_in : Checked → Fault
fault_in k = fault (checked_kind k) (checked_byte k)

fault-told : (a : Result Header Broken) → fault_in (checked_told a) ≡ fault_told a
fault-told (Ok h) = refl
fault-told (Err b) = refl

pub checked-one : (a b : Result Header Broken) → checked_told a ≡ checked_told b → a ≡ b
checked-one a b e =
    told-one a b (λ x y p q. ap header_in (sym (ap checked_told p) ∙ e ∙ ap checked_told q))
    (sym (fault-told a) ∙ ap fault_in e ∙ fault-told b)
