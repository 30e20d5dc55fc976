-- What the code answers is one to one with what the definitions say of it: limits, and faults of checks. Kinds carry it: no two have one number, and
-- none has the number 0.
use Rattle.std.proofs.Common.{◌≡◌, refl, sym, ◌∙◌, ap}
use Rattle.std.specs.Prelude.{ℕ, ℤ, Result, Ok, Err, IsErr, IsErrAnd, eqb}
use Rattle.kinds.proofs.Numbers.{one-number, not-zero}
use Rattle.kinds.specs.Kinds.{number_of}
use Rattle.laws.proofs.Tests.{clash, by-test}
use Rattle.number.specs.Reading.{said}
use Rattle.number.specs.declared.Unread.{Unread}
use Rattle.field.specs.Field.{fault, fault_or, ranged, in_limits}
use Rattle.field.specs.declared.Limits.{Limits}
use Rattle.field.specs.declared.Fault.{Fault}
use Rattle.field.specs.Told.{limits_told, fault_told, held, placed}
use Rattle.field.specs.declared.Bounds.{Bounds}
use Rattle.field.specs.declared.Broken.{Broken}

pub limits-one : (a b : Bounds) → limits_told a ≡ limits_told b → a ≡ b
limits-one a b e =
    let k : a.kind ≡ b.kind = one-number a.kind b.kind (ap (λ (l : Limits). l.kind) e) in
    λ i. record { least = (ap (λ (l : Limits). l.least) e) i; greatest = (ap (λ (l : Limits). l.greatest) e) i; step = (ap (λ (l : Limits). l.step) e) i; kind = k i }

broken-one : (a b : Broken) → fault (number_of a.kind) a.byte ≡ fault (number_of b.kind) b.byte → a ≡ b
broken-one a b e =
    let k : a.kind ≡ b.kind = one-number a.kind b.kind (ap (λ (f : Fault). f.kind) e) in
    λ i. record { kind = k i; byte = (ap (λ (f : Fault). f.byte) e) i }

-- a good answer is not a refused one
good-or-broken : (b : Broken) → fault 0 0 ≡ fault (number_of b.kind) b.byte → ⊥
good-or-broken b e = clash (ap (λ (f : Fault). eqb f.kind 0) e ∙ not-zero b.kind)

-- so answers that come to one fault are one, where good answers are
pub told-one : {A : Type 0} (a b : Result A Broken) → ((x y : A) → a ≡ Ok x → b ≡ Ok y → x ≡ y) → fault_told a ≡ fault_told b → a ≡ b
told-one (Ok x) (Ok y) one e = ap Ok (one x y refl refl)
told-one (Ok x) (Err b) one e = absurd (good-or-broken b e)
told-one (Err a) (Ok y) one e = absurd (good-or-broken a (sym e))
told-one (Err a) (Err b) one e = ap Err (broken-one a b e)

pub checked-one : (a b : Result Unit Broken) → fault_told a ≡ fault_told b → a ≡ b
checked-one a b e = told-one a b (λ x y p q. refl) e

-- what `?` hands on is the error that it met
pub err-told : {A E : Type 0} (r : Result A E) (b : E) (P : E → Type 0) → ((e : E) → P e → e ≡ b) → IsErr r × IsErrAnd r P → r ≡ Err b
err-told (Ok a) b P f q = absurd q.1
err-told (Err e) b P f q = ap Err (f e q.1)

-- a number held to its bounds says what the definition's limits let pass
pub held-ranged : (b : Bounds) (r : Result ℤ Unread) → said (held b r) ≡ ranged (limits_told b) (said r)
held-ranged b (Ok z) = by-test (in_limits (limits_told b) z) (λ e. rw e) (λ e. rw e)
held-ranged b (Err u) = rw (not-zero u.kind)

-- a reading placed in its block comes to the fault of that field alone
pub placed-fault : (byte : ℕ) (r : Result ℤ Unread) → fault_told (placed byte r) ≡ fault_or (said r) byte (fault 0 0)
placed-fault byte (Ok z) = refl
placed-fault byte (Err u) = rw (not-zero u.kind)
