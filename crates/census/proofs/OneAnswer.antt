-- No second answer: for each public function its contract, as it stands, leaves one result and one state of what was lent.
use Rattle.laws.proofs.Answers.{one_answer, OneResult}
use Rattle.census.proofs.column_of.Reads as column-of·told
use Rattle.census.proofs.count_of.Reads as count-of·told
use Rattle.census.proofs.find_column.Reads as find-column·told

pub column-of : OneResult column-of·told.Learnt
column-of κs a z z' e e' p q = one_answer p q

pub count_of : OneResult count-of·told.Learnt
count_of κs a z z' e e' p q = one_answer p q

pub find-column : OneResult find-column·told.Learnt
find-column κs a z z' e e' p q = one_answer p q
