-- No second answer: for each public function its contract, as it stands, leaves one result and one state of what was lent.
use Rattle.field.proofs.OneTold.{limits-one}
use Rattle.laws.proofs.Answers.{one_answer, OneResult}
use Rattle.heading.proofs.Name.limits.Reads as limits·told
use Rattle.heading.proofs.Name.limits_in.Reads as limits-in·told
use Rattle.heading.proofs.family_limits.Reads as family-limits·told
use Rattle.heading.proofs.family_obeys.Reads as family-obeys·told
use Rattle.heading.proofs.header_obeys.Reads as header-obeys·told
use Rattle.heading.proofs.is_real_number.Reads as is-real-number·told
use Rattle.heading.proofs.named_limits.Reads as named-limits·told
use Rattle.heading.proofs.zero_header.Reads as zero-header·told

pub named-limits : OneResult named-limits·told.Learnt
named-limits κs a z z' e e' p q = one_answer p q

pub is-real-number : OneResult is-real-number·told.Learnt
is-real-number κs a z z' e e' p q = one_answer p q

pub header-obeys : OneResult header-obeys·told.Learnt
header-obeys κs a z z' e e' p q = one_answer p q

pub zero-header : OneResult zero-header·told.Learnt
zero-header κs a z z' e e' p q = one_answer p q

pub family-limits : OneResult family-limits·told.Learnt
family-limits κs a z z' e e' p q = one_answer p q

pub limits : OneResult limits·told.Learnt
limits κs a z z' e e' p q = limits-one z z' (one_answer p q)

pub limits-in : OneResult limits-in·told.Learnt
limits-in κs a z z' e e' p q = limits-one z z' (one_answer p q)

pub family-obeys : OneResult family-obeys·told.Learnt
family-obeys κs a z z' e e' p q = one_answer p q
