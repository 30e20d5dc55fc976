-- A verdict is with a header or with a kind and a number, and never both: what each says of what stands against the sheet, and that the code's
-- answers are one to one with the verdicts.
use Rattle.std.proofs.Common.{ℕ, ◌≡◌, true, false, Bool, sym, ap, eqb, eqb-true}
use Rattle.std.specs.Prelude.{Result, Ok, Err}
use Rattle.laws.proofs.Tests.{by-test, clash}
use Rattle.frame.specs.declared.Header.{Header}
use Rattle.written.specs.Sending.{Objection, objection}
use Rattle.written.specs.declared.Refused.{Refused}
use Rattle.written.proofs.OneTold.{against-one}
use Rattle.columns.specs.Judging.{Judged, judged_by, judged_told}
use Rattle.columns.specs.Judging.Judged.{Good, Bad}

abbrev is_good : Judged → Bool
is_good (Good h) = true
is_good (Bad kind number) = false

abbrev header_in : Header → Judged → Header
header_in k (Good h) = h
header_in k (Bad kind number) = k

abbrev objection_in : Judged → Objection
objection_in (Good h) = objection 0 0
objection_in (Bad kind number) = objection kind number

never-both {ℓ} : {X : Type ℓ} {h : Header} {kind number : ℕ} → Good h ≡ Bad kind number → X
never-both e = clash (ap is_good e)

module _ (k : Header) (f : Objection) where
  pub judged-good : (h : Header) → Good h ≡ judged_by k f → (f.kind ≡ 0) × (h ≡ k)
  judged-good h e =
      by-test (eqb f.kind 0) (λ t. (eqb-true f.kind 0 t, ap (header_in k) (rw t at e))) (λ t. never-both (rw t at e))

  pub judged-bad : (kind number : ℕ) → Bad kind number ≡ judged_by k f → (eqb f.kind 0 ≡ false) × (objection kind number ≡ f)
  judged-bad kind number e =
      by-test (eqb f.kind 0) (λ t. never-both (sym (rw t at e))) (λ t. (t, ap objection_in (rw t at e)))

pub judged-one : (a b : Result Header Refused) → judged_told a ≡ judged_told b → a ≡ b
judged-one (Ok g) (Ok h) e = ap Ok (ap (header_in g) e)
judged-one (Ok g) (Err b) e = never-both e
judged-one (Err a) (Ok h) e = never-both (sym e)
judged-one (Err a) (Err b) e =
    ap Err (against-one a b (ap (λ (j : Judged). (objection_in j).kind) e) (ap (λ (j : Judged). (objection_in j).number) e))
