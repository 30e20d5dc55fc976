-- No second answer: for each public function its contract, as it stands, leaves one result and one state of what was lent.
use Rattle.laws.proofs.Answers.{one_answer, OneResult}
use Rattle.columns.proofs.blocks_for.Reads as blocks-for·told
use Rattle.columns.proofs.can_send.Reads as can-send·told
use Rattle.columns.proofs.count_sendable.Reads as count-sendable·told
use Rattle.columns.proofs.extremes_of.Reads as extremes-of·told
use Rattle.columns.proofs.judging.judge_sheet.Reads as judge-sheet·told
use Rattle.columns.proofs.post_of.Reads as post-of·told
use Rattle.columns.proofs.scan_column.Reads as scan-column·told
use Rattle.columns.proofs.Verdicts.{judged-one}

pub judge-sheet : OneResult judge-sheet·told.Learnt
judge-sheet κs a z z' e e' p q = judged-one z z' (one_answer p q)

pub can-send : OneResult can-send·told.Learnt
can-send κs a z z' e e' p q = one_answer p q

pub count-sendable : OneResult count-sendable·told.Learnt
count-sendable κs a z z' e e' p q = one_answer p q

pub post-of : OneResult post-of·told.Learnt
post-of κs a z z' e e' p q = one_answer p q

pub scan-column : OneResult scan-column·told.Learnt
scan-column κs a z z' e e' p q = λ i. record { row = one_answer p.0 q.0 i; posts = one_answer p.1 q.1 i }

pub blocks-for : OneResult blocks-for·told.Learnt
blocks-for κs a z z' e e' p q = one_answer p q

pub extremes-of : OneResult extremes-of·told.Learnt
extremes-of κs a z z' e e' p q = λ i. record { least = one_answer p.0 q.0 i; greatest = one_answer p.1 q.1 i }
