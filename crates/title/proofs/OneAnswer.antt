-- No second answer: for each public function its contract, as it stands, leaves one result and one state of what was lent.
use Rattle.laws.proofs.Answers.{one_answer, OneLeft}
use Rattle.title.proofs.write_title.Reads as write-title·told
use Rattle.title.proofs.write_zero.Reads as write-zero·told

pub write-zero-block : OneLeft write-zero·told.Learnt (λ κs e. e.1.1.1.1.1.0.now)
write-zero-block κs a z z' e e' p q = one_answer p q

pub write-title-block : OneLeft write-title·told.Learnt (λ κs e. e.1.1.1.0.now)
write-title-block κs a z z' e e' p q = one_answer p q
