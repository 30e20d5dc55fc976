-- No second answer: for each public function its contract, as it stands, leaves one result and one state of what was lent.
use Rattle.laws.proofs.Answers.{one_answer, OneResult}
use Rattle.field.proofs.OneTold.{checked-one}
use Rattle.profile.proofs.OneHead.{headed-one}
use Rattle.profile.proofs.record_b.read_head.Reads as read-head·told
use Rattle.profile.proofs.record_c.check_record_c.Reads as check-record-c·told

pub read_head : OneResult read-head·told.Learnt
read_head κs a z z' e e' p q = headed-one z z' (one_answer p q)

pub check-record-c : OneResult check-record-c·told.Learnt
check-record-c κs a z z' e e' p q = checked-one z z' (one_answer p q)
