-- No second answer: for each public function its contract, as it stands, leaves one result and one state of what was lent.
use Rattle.laws.proofs.Answers.{one_answer, OneLeft, OneResult}
use Rattle.spell.proofs.write_integer.Reads as write-integer·told
use Rattle.spell.proofs.write_real.Reads as write-real·told
use Rattle.spell.proofs.write_spacing.Reads as write-spacing·told

pub write-integer : OneResult write-integer·told.Learnt
write-integer κs a z z' e e' p q = one_answer p.0 q.0

pub write-integer-field : OneLeft write-integer·told.Learnt (λ κs e. e.1.0.now)
write-integer-field κs a z z' e e' p q = one_answer p.1 q.1

pub write-real : OneResult write-real·told.Learnt
write-real κs a z z' e e' p q = one_answer p.0 q.0

pub write-real-field : OneLeft write-real·told.Learnt (λ κs e. e.1.0.now)
write-real-field κs a z z' e e' p q = one_answer p.1 q.1

pub write-spacing : OneResult write-spacing·told.Learnt
write-spacing κs a z z' e e' p q = one_answer p.0 q.0

pub write-spacing-field : OneLeft write-spacing·told.Learnt (λ κs e. e.1.0.now)
write-spacing-field κs a z z' e e' p q = one_answer p.1 q.1
