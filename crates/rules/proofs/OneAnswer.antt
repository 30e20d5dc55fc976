-- No second answer: for each public function its contract, as it stands, leaves one result and one state of what was lent.
use Rattle.std.proofs.Common.{◌≡◌, refl, ap, arith}
use Rattle.std.specs.Prelude.{Result, Ok, Err}
use Rattle.laws.proofs.Answers.{one_answer, OneResult}
use Rattle.delivery.specs.Deliver.{Refusal}
use Rattle.rules.specs.declared.Misstated.{Misstated}
use Rattle.rules.specs.Told.{closing_told}
use Rattle.rules.proofs.close_fault.Reads as close-fault·told
use Rattle.rules.proofs.column_fits.Reads as column-fits·told
use Rattle.rules.proofs.first_column.Reads as first-column·told
use Rattle.rules.proofs.open_profile.Reads as open-profile·told
use Rattle.rules.proofs.row_fits.Reads as row-fits·told

pub column_fits : OneResult column-fits·told.Learnt
column_fits κs a z z' e e' p q = one_answer p q

pub row_fits : OneResult row-fits·told.Learnt
row_fits κs a z z' e e' p q = one_answer p q

pub first-column : OneResult first-column·told.Learnt
first-column κs a z z' e e' p q = one_answer p q

pub open-profile : OneResult open-profile·told.Learnt
open-profile κs a z z' e e' p q = one_answer p q

-- a closing rule as the code answers it is one to one with what the definitions say of it
closing-one : (a b : Result (Unit {0}) Misstated) → closing_told a ≡ closing_told b → a ≡ b
closing-one (Ok x) (Ok y) e = refl
closing-one (Ok x) (Err n) e = absurd (omega (arith, ap (λ (r : Refusal). r.kind) e))
closing-one (Err m) (Ok y) e = absurd (omega (arith, ap (λ (r : Refusal). r.kind) e))
closing-one (Err m) (Err n) e = λ i. Err (record { block = ap (λ (r : Refusal). r.block) e i; byte = ap (λ (r : Refusal). r.byte) e i })

pub close-fault : OneResult close-fault·told.Learnt
close-fault κs a z z' e e' p q = closing-one z z' (one_answer p q)
