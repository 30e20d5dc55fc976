-- No second answer: for each public function its contract, as it stands, leaves one result and one state of what was lent.
use Rattle.laws.proofs.Answers.{one_answer, OneLeft, OneResult}
use Rattle.ledger.proofs.deliver.Reads as deliver·told
use Rattle.ledger.proofs.is_complete.Reads as is-complete·told
use Rattle.ledger.proofs.is_sound.Reads as is-sound·told
use Rattle.ledger.proofs.keep.Reads as keep·told
use Rattle.ledger.proofs.open.Reads as open·told
use Rattle.ledger.proofs.report.Reads as report·told
use Rattle.ledger.proofs.session_of.Reads as session-of·told

pub session-of : OneResult session-of·told.Learnt
session-of κs a z z' e e' p q = one_answer p.0 q.0

pub open-result : OneResult open·told.Learnt
open-result κs a z z' e e' p q = one_answer p.0 q.0

pub open-session : OneLeft open·told.Learnt (λ κs e. e.1.0.now)
open-session κs a z z' e e' p q = one_answer p.1 q.1

pub keep-numbers : OneLeft keep·told.Learnt (λ κs e. e.1.0.now)
keep-numbers κs a z z' e e' p q = one_answer p q

pub deliver : OneResult deliver·told.Learnt
deliver κs a z z' e e' p q = one_answer p.0 q.0

pub deliver-session : OneLeft deliver·told.Learnt (λ κs e. e.0.now)
deliver-session κs a z z' e e' p q = one_answer p.1.0 q.1.0

pub deliver-grid : OneLeft deliver·told.Learnt (λ κs e. e.1.1.1.0.now)
deliver-grid κs a z z' e e' p q = one_answer p.1.1.0 q.1.1.0

pub deliver-answer : OneLeft deliver·told.Learnt (λ κs e. e.1.1.1.1.0.now)
deliver-answer κs a z z' e e' p q = one_answer p.1.1.1 q.1.1.1

pub is-sound : OneResult is-sound·told.Learnt
is-sound κs a z z' e e' p q = one_answer p q

pub is-complete : OneResult is-complete·told.Learnt
is-complete κs a z z' e e' p q = one_answer p q

pub report : OneResult report·told.Learnt
report κs a z z' e e' p q = one_answer p.0 q.0

pub report-out : OneLeft report·told.Learnt (λ κs e. e.1.0.now)
report-out κs a z z' e e' p q = one_answer p.1 q.1
