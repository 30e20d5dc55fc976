-- No second answer: for each public function its contract, as it stands, leaves one result and one state of what was lent.
use Rattle.laws.proofs.Answers.{one_answer, OneResult}
use Rattle.progress.proofs.close_session.Reads as close-session·told
use Rattle.progress.proofs.fill_session.Reads as fill-session·told
use Rattle.progress.proofs.finish_session.Reads as finish-session·told

pub fill-session : OneResult fill-session·told.Learnt
fill-session κs a z z' e e' p q = one_answer p q

pub close-session : OneResult close-session·told.Learnt
close-session κs a z z' e e' p q = one_answer p q

pub finish-session : OneResult finish-session·told.Learnt
finish-session κs a z z' e e' p q = one_answer p q
