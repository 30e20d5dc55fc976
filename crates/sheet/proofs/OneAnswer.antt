-- No second answer: for each public function its contract, as it stands, leaves one result and one state of what was lent.
use Rattle.laws.proofs.Answers.{one_answer, OneResult}
use Rattle.sheet.proofs.OneTold.{checked-one}
use Rattle.sheet.proofs.check_family.Reads as check-family·told
use Rattle.sheet.proofs.check_record_a.Reads as check-record-a·told

pub check-record-a : OneResult check-record-a·told.Learnt
check-record-a κs a z z' e e' p q = checked-one z z' (one_answer p q)

pub check-family : OneResult check-family·told.Learnt
check-family κs a z z' e e' p q = checked-one z z' (one_answer p q)
