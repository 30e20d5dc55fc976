-- No second answer: for each public function its contract, as it stands, leaves one result and one state of what was lent.
use Rattle.laws.proofs.Answers.{one_answer, OneLeft, OneResult}
use Rattle.written.proofs.OneTold.{sent-one}
use Rattle.send.proofs.block_count.Reads as block-count·told
use Rattle.send.proofs.write_block.Reads as write-block·told
use Rattle.send.proofs.write_sheet.Reads as write-sheet·told

pub block-count : OneResult block-count·told.Learnt
block-count κs a z z' e e' p q = one_answer p q

pub write-block : OneResult write-block·told.Learnt
write-block κs a z z' e e' p q = sent-one z z' (one_answer p.0 q.0)

pub write-block-block : OneLeft write-block·told.Learnt (λ κs e. e.1.1.1.0.now)
write-block-block κs a z z' e e' p q = one_answer p.1 q.1

pub write-sheet : OneResult write-sheet·told.Learnt
write-sheet κs a z z' e e' p q = sent-one z z' (one_answer p.0 q.0)

pub write-sheet-out : OneLeft write-sheet·told.Learnt (λ κs e. e.1.1.0.now)
write-sheet-out κs a z z' e e' p q = one_answer p.1 q.1
