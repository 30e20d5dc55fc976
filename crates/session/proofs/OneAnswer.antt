-- No second answer: for each public function its contract, as it stands, leaves one result and one state of what was lent.
use Rattle.laws.proofs.Answers.{one_answer, OneResult}
use Rattle.session.proofs.begun.Reads as begun·told
use Rattle.session.proofs.is_complete.Reads as is-complete·told
use Rattle.session.proofs.is_sound.Reads as is-sound·told
use Rattle.session.proofs.new.Reads as new·told
use Rattle.session.proofs.open_blocks.Reads as open-blocks·told
use Rattle.session.proofs.opened.Reads as opened·told

pub opened : OneResult opened·told.Learnt
opened κs a z z' e e' p q = one_answer p q

pub new : OneResult new·told.Learnt
new κs a z z' e e' p q = one_answer p q

pub is-sound : OneResult is-sound·told.Learnt
is-sound κs a z z' e e' p q = one_answer p q

pub begun : OneResult begun·told.Learnt
begun κs a z z' e e' p q = one_answer p q

pub is-complete : OneResult is-complete·told.Learnt
is-complete κs a z z' e e' p q = one_answer p q

pub open_blocks : OneResult open-blocks·told.Learnt
open_blocks κs a z z' e e' p q = one_answer p q
