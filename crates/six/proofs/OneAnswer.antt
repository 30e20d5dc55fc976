-- No second answer: for each public function its contract, as it stands, leaves one result and one state of what was lent.
use Rattle.laws.proofs.Answers.{one_answer, OneResult}
use Rattle.number.proofs.Said.{said-one}
use Rattle.six.proofs.read_six.Reads as read-six·told

pub read-six : OneResult read-six·told.Learnt
read-six κs a z z' e e' p q = said-one z z' (one_answer p q)
