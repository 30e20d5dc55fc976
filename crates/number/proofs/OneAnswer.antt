-- No second answer: for each public function its contract, as it stands, leaves one result and one state of what was lent.
use Rattle.laws.proofs.Answers.{one_answer, OneResult}
use Rattle.number.proofs.Said.{said-one}
use Rattle.number.proofs.Reading.told.Reads as reading-told·told
use Rattle.number.proofs.Unread.of.Reads as of·told
use Rattle.number.proofs.is_minus.Reads as is-minus·told
use Rattle.number.proofs.read_integer.Reads as read-integer·told
use Rattle.number.proofs.read_real.Reads as read-real·told
use Rattle.number.proofs.signed.Reads as signed·told
use Rattle.number.proofs.ten_to.Reads as ten-to·told

pub reading-told : OneResult reading-told·told.Learnt
reading-told κs a z z' e e' p q = one_answer p q

pub of : OneResult of·told.Learnt
of κs a z z' e e' p q = one_answer p q

pub ten-to : OneResult ten-to·told.Learnt
ten-to κs a z z' e e' p q = one_answer p q

pub signed : OneResult signed·told.Learnt
signed κs a z z' e e' p q = one_answer p q

pub read-integer : OneResult read-integer·told.Learnt
read-integer κs a z z' e e' p q = said-one z z' (one_answer p q)

pub read_real : OneResult read-real·told.Learnt
read_real κs a z z' e e' p q = said-one z z' (one_answer p q)

pub is-minus : OneResult is-minus·told.Learnt
is-minus κs a z z' e e' p q = one_answer p q
