-- No second answer: for each public function its contract, as it stands, leaves one result and one state of what was lent.
use Rattle.laws.proofs.Answers.{one_answer, OneLeft, OneResult}
use Rattle.lines.proofs.put_end.Reads as put-end·told
use Rattle.lines.proofs.put_refusal.Reads as put-refusal·told
use Rattle.lines.proofs.put_report.Reads as put-report·told
use Rattle.lines.proofs.put_unfinished.Reads as put-unfinished·told

pub put-report : OneResult put-report·told.Learnt
put-report κs a z z' e e' p q = one_answer p.0 q.0

pub put-report-out : OneLeft put-report·told.Learnt (λ κs e. e.1.0.now)
put-report-out κs a z z' e e' p q = one_answer p.1 q.1

pub put-refusal : OneResult put-refusal·told.Learnt
put-refusal κs a z z' e e' p q = one_answer p.0 q.0

pub put-refusal-out : OneLeft put-refusal·told.Learnt (λ κs e. e.1.1.1.0.now)
put-refusal-out κs a z z' e e' p q = one_answer p.1 q.1

pub put-unfinished : OneResult put-unfinished·told.Learnt
put-unfinished κs a z z' e e' p q = one_answer p.0 q.0

pub put-unfinished-out : OneLeft put-unfinished·told.Learnt (λ κs e. e.1.0.now)
put-unfinished-out κs a z z' e e' p q = one_answer p.1 q.1

pub put-end : OneResult put-end·told.Learnt
put-end κs a z z' e e' p q = one_answer p.0 q.0

pub put-end-out : OneLeft put-end·told.Learnt (λ κs e. e.1.0.now)
put-end-out κs a z z' e e' p q = one_answer p.1 q.1
