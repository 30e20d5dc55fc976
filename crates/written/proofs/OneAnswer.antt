-- No second answer: for each public function its contract, as it stands, leaves one result and one state of what was lent.
use Rattle.laws.proofs.Answers.{one_answer, OneResult}
use Rattle.written.proofs.Refused.of.Reads as of·told

pub of : OneResult of·told.Learnt
of κs a z z' e e' p q = one_answer p q
