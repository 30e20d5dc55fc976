-- No second answer: for each public function its contract, as it stands, leaves one result and one state of what was lent.
use Rattle.laws.proofs.Answers.{one_answer, OneResult}
use Rattle.script.proofs.cells_of.Reads as cells-of·told
use Rattle.script.proofs.head_of.Reads as head-of·told

pub cells_of : OneResult cells-of·told.Learnt
cells_of κs a z z' e e' p q = one_answer p.0 q.0

pub head_of : OneResult head-of·told.Learnt
head_of κs a z z' e e' p q = one_answer p.0 q.0
