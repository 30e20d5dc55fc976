-- No second answer: for each public function its contract, as it stands, leaves one result and one state of what was lent.
use Rattle.laws.proofs.Answers.{one_answer, OneLeft}
use Rattle.paint.proofs.write_first.Reads as write-first·told
use Rattle.paint.proofs.write_further.Reads as write-further·told
use Rattle.paint.proofs.write_part.Reads as write-part·told

pub write-first-block : OneLeft write-first·told.Learnt (λ κs e. e.1.1.1.1.1.1.1.1.0.now)
write-first-block κs a z z' e e' p q = one_answer p q

pub write-further-block : OneLeft write-further·told.Learnt (λ κs e. e.1.1.0.now)
write-further-block κs a z z' e e' p q = one_answer p q

pub write-part-block : OneLeft write-part·told.Learnt (λ κs e. e.1.1.1.0.now)
write-part-block κs a z z' e e' p q = one_answer p q
