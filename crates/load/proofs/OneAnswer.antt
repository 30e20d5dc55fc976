-- No second answer: for each public function its contract, as it stands, leaves one result and one state of what was lent.
use Rattle.laws.proofs.Answers.{one_answer, OneLeft, OneResult}
use Rattle.load.proofs.deliver.Reads as deliver·told
use Rattle.load.proofs.deliver_run.Reads as deliver-run·told

pub deliver : OneResult deliver·told.Learnt
deliver κs a z z' e e' p q = one_answer p.0 q.0

pub deliver-grid : OneLeft deliver·told.Learnt (λ κs e. e.1.1.1.0.now)
deliver-grid κs a z z' e e' p q = one_answer p.1 q.1

pub deliver-run : OneResult deliver-run·told.Learnt
deliver-run κs a z z' e e' p q = one_answer p.0 q.0

pub deliver-run-grid : OneLeft deliver-run·told.Learnt (λ κs e. e.1.1.1.0.now)
deliver-run-grid κs a z z' e e' p q = one_answer p.1 q.1
