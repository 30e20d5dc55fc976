-- No second answer: for each public function its contract, as it stands, leaves one result and one state of what was lent.
use Rattle.laws.proofs.Answers.{one_answer, OneResult}
use Rattle.kinds.proofs.Kind.number.Reads as number·told

pub number : OneResult number·told.Learnt
number κs a z z' e e' p q = one_answer p q
