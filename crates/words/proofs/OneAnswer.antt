-- No second answer: for each public function its contract, as it stands, leaves one result and one state of what was lent.
use Rattle.laws.proofs.Answers.{one_answer, OneResult}
use Rattle.words.proofs.cell_at.Reads as cell-at·told
use Rattle.words.proofs.number_at.Reads as number-at·told

pub number_at : OneResult number-at·told.Learnt
number_at κs a z z' e e' p q = one_answer p.0 q.0

pub cell_at : OneResult cell-at·told.Learnt
cell_at κs a z z' e e' p q = one_answer p q
