-- No second answer: for each public function its contract, as it stands, leaves one result and one state of what was lent.
use Rattle.laws.proofs.Answers.{one_answer, OneResult}
use Rattle.corner.proofs.says.Reads as says·told

pub says : OneResult says·told.Learnt
says κs a z z' e e' p q = one_answer p q
