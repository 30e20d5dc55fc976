-- What the code answers of a head is one to one with what the definition says of it.
use Rattle.std.proofs.Common.{◌≡◌, sym, ap}
use Rattle.std.specs.Prelude.{Result, Ok, Err, Bool, true, false}
use Rattle.laws.proofs.Tests.{clash}
use Rattle.field.proofs.OneTold.{told-one}
use Rattle.field.specs.Field.{fault}
use Rattle.field.specs.declared.Fault.{Fault}
use Rattle.field.specs.declared.Broken.{Broken}
use Rattle.profile.specs.RecordB.{Headed, headed_told}
use Rattle.profile.specs.RecordB.Headed.{Profile, Refused}
use Rattle.profile.specs.declared.record_b.Head.{Head}

-- the parts of a case, with any head for one that has none
abbrev pub head-in : Head → Headed → Head
head-in other (Profile h) = h
head-in other (Refused k n) = other

abbrev pub is-head : Headed → Bool
is-head (Profile h) = true
is-head (Refused k n) = false

abbrev pub fault-in : Headed → Fault
fault-in (Profile h) = fault 0 0
fault-in (Refused k n) = fault k n

pub headed-one : (a b : Result Head Broken) → headed_told a ≡ headed_told b → a ≡ b
headed-one (Ok h) (Ok i) e = ap (λ x. Ok (head-in h x)) e
headed-one (Ok h) (Err b) e = clash (ap is-head e)
headed-one (Err a) (Ok h) e = clash (sym (ap is-head e))
headed-one (Err a) (Err b) e = told-one (Err a) (Err b) (λ x y p q. clash (sym (ap (λ r. is-head (headed_told r)) p))) (ap fault-in e)
