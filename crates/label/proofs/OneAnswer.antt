-- No second answer: for each public function its contract, as it stands, leaves one result and one state of what was lent.
use Rattle.laws.proofs.Answers.{one_answer, OneResult, OneSeen}
use Rattle.label.proofs.family_origin.Reads as family-origin·told
use Rattle.label.proofs.name.Reads as name·told
use Rattle.label.proofs.origin.Reads as origin·told

pub origin : OneResult origin·told.Learnt
origin κs a z z' e e' p q = one_answer p q

pub family-origin : OneResult family-origin·told.Learnt
family-origin κs a z z' e e' p q = one_answer p q

pub name : OneSeen name·told.Learnt (λ κs z. z.now)
name κs a z z' e e' p q = one_answer p q
