-- No second answer: for each public function its contract, as it stands, leaves one result and one state of what was lent.
use Rattle.laws.proofs.Answers.{one_answer, OneResult}
use Rattle.gate.proofs.gate.Reads as gate·told
use Rattle.gate.proofs.judge_first.Reads as judge-first·told
use Rattle.gate.proofs.order.Reads as order·told
use Rattle.gate.proofs.verdict.held.Reads as held·told
use Rattle.gate.proofs.verdict.refused.Reads as refused·told
use Rattle.gate.proofs.verdict.refused_for.Reads as refused-for·told
use Rattle.gate.proofs.verdict.taken.Reads as taken·told

pub gate : OneResult gate·told.Learnt
gate κs a z z' e e' p q = one_answer p q

pub order : OneResult order·told.Learnt
order κs a z z' e e' p q = one_answer p q

pub judge-first : OneResult judge-first·told.Learnt
judge-first κs a z z' e e' p q = one_answer p q

pub held : OneResult held·told.Learnt
held κs a z z' e e' p q = one_answer p q

pub refused : OneResult refused·told.Learnt
refused κs a z z' e e' p q = one_answer p q

pub refused-for : OneResult refused-for·told.Learnt
refused-for κs a z z' e e' p q = one_answer p q

pub taken : OneResult taken·told.Learnt
taken κs a z z' e e' p q = one_answer p q
