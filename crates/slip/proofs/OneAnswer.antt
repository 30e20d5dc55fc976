-- No second answer: for each public function its contract, as it stands, leaves one result and one state of what was lent.
use Rattle.laws.proofs.Answers.{one_answer, OneLeft}
use Rattle.slip.proofs.hand.Reads as hand·told

pub hand-answer : OneLeft hand·told.Learnt (λ κs e. e.1.0.now)
hand-answer κs a z z' e e' p q = one_answer p q
