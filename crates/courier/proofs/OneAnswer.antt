-- No second answer: the contract, as it stands, leaves one result and one state of what was lent.
use Rattle.laws.proofs.Answers.{one_answer, OneLeft, OneResult}
use Rattle.courier.proofs.deliver_run.Reads as deliver-run·told

pub deliver-run : OneResult deliver-run·told.Learnt
deliver-run κs a z z' e e' p q = one_answer p.0 q.0

pub deliver-run-session : OneLeft deliver-run·told.Learnt (λ κs e. e.0.now)
deliver-run-session κs a z z' e e' p q = one_answer p.1.0 q.1.0

pub deliver-run-grid : OneLeft deliver-run·told.Learnt (λ κs e. e.1.1.1.0.now)
deliver-run-grid κs a z z' e e' p q = one_answer p.1.1.0 q.1.1.0

pub deliver-run-answer : OneLeft deliver-run·told.Learnt (λ κs e. e.1.1.1.1.0.now)
deliver-run-answer κs a z z' e e' p q = one_answer p.1.1.1 q.1.1.1
