-- No second answer: for each public function its contract, as it stands, leaves one result and one state of what was lent.
use Rattle.laws.proofs.Answers.{one_answer, OneResult}
use Rattle.field.proofs.OneTold.{checked-one}
use Rattle.frame.proofs.column_lattice.Reads as column-lattice·told
use Rattle.frame.proofs.column_of.Reads as column-of·told
use Rattle.frame.proofs.columns.Reads as columns·told
use Rattle.frame.proofs.has_room.Reads as has-room·told
use Rattle.frame.proofs.judge_family.Reads as judge-family·told
use Rattle.frame.proofs.judge_whole.Reads as judge-whole·told
use Rattle.frame.proofs.row_lattice.Reads as row-lattice·told
use Rattle.frame.proofs.row_of.Reads as row-of·told
use Rattle.frame.proofs.rows.Reads as rows·told
use Rattle.frame.proofs.z_of.Reads as z-of·told

pub column-lattice : OneResult column-lattice·told.Learnt
column-lattice κs a z z' e e' p q = one_answer p q

pub row-lattice : OneResult row-lattice·told.Learnt
row-lattice κs a z z' e e' p q = one_answer p q

pub columns : OneResult columns·told.Learnt
columns κs a z z' e e' p q = one_answer p q

pub rows : OneResult rows·told.Learnt
rows κs a z z' e e' p q = one_answer p q

pub judge-whole : OneResult judge-whole·told.Learnt
judge-whole κs a z z' e e' p q = checked-one z z' (one_answer p q)

pub has_room : OneResult has-room·told.Learnt
has_room κs a z z' e e' p q = one_answer p q

pub z-of : OneResult z-of·told.Learnt
z-of κs a z z' e e' p q = one_answer p q

pub column-of : OneResult column-of·told.Learnt
column-of κs a z z' e e' p q = one_answer p q

pub row_of : OneResult row-of·told.Learnt
row_of κs a z z' e e' p q = one_answer p q

pub judge-family : OneResult judge-family·told.Learnt
judge-family κs a z z' e e' p q = checked-one z z' (one_answer p q)
