-- No second answer: for each public function its contract, as it stands, leaves one result and one state of what was lent.
use Rattle.laws.proofs.Answers.{one_answer, OneResult}
use Rattle.lattice.proofs.leaves_room.Reads as leaves-room·told
use Rattle.lattice.proofs.locate.Reads as locate·told
use Rattle.lattice.proofs.span.Reads as span·told

pub span : OneResult span·told.Learnt
span κs a z z' e e' p q = one_answer p q

pub locate : OneResult locate·told.Learnt
locate κs a z z' e e' p q = one_answer p q

pub leaves-room : OneResult leaves-room·told.Learnt
leaves-room κs a z z' e e' p q = one_answer p q
