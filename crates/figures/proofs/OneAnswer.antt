-- No second answer: for each public function its contract, as it stands, leaves one result and one state of what was lent.
use Rattle.laws.proofs.Answers.{one_answer, OneResult}
use Rattle.figures.proofs.greater_of.Reads as greater-of·told
use Rattle.figures.proofs.lesser_of.Reads as lesser-of·told
use Rattle.figures.proofs.not_negative.Reads as not-negative·told

pub lesser-of : OneResult lesser-of·told.Learnt
lesser-of κs a z z' e e' p q = one_answer p q

pub greater-of : OneResult greater-of·told.Learnt
greater-of κs a z z' e e' p q = one_answer p q

pub not_negative : OneResult not-negative·told.Learnt
not_negative κs a z z' e e' p q = one_answer p q
