-- No second answer: for each public function its contract, as it stands, leaves one result and one state of what was lent.
use Rattle.laws.proofs.Answers.{one_answer, OneLeft, OneResult}
use denote.RattleType.{RattleType}
use denote.Param.Laws.{Laws}
use mir.Syntax.{Dict}
use Rattle.listing.specs.declared.Source.{Ghosts}
use Rattle.listing.specs.Turns.{OneCall}
use Rattle.listing.proofs.Fed.{one-place}
use Rattle.listing.proofs.Turn.numbered.Reads as numbered·told
use Rattle.listing.proofs.begin.Reads as begin·told
use Rattle.listing.proofs.list.Reads as list·told
use Rattle.listing.proofs.put_last.Reads as put-last·told
use Rattle.listing.proofs.take_bytes.Reads as take-bytes·told

pub numbered : OneResult numbered·told.Learnt
numbered κs a z z' e e' p q = one_answer p q

pub begin : OneResult begin·told.Learnt
begin κs a z z' e e' p q = one_answer p q

pub take-bytes : OneResult take-bytes·told.Learnt
take-bytes κs a z z' e e' p q = one_answer p.0 q.0

pub take-bytes-grid : OneLeft take-bytes·told.Learnt (λ κs e. e.1.1.0.now)
take-bytes-grid κs a z z' e e' p q = one_answer p.1 q.1

pub put_last : OneResult put-last·told.Learnt
put_last κs a z z' e e' p q = one_answer p.0 q.0

pub put-last-out : OneLeft put-last·told.Learnt (λ κs e. e.1.0.now)
put-last-out κs a z z' e e' p q = one_answer p.1 q.1

-- of a source whose calls each leave one answer
module _ (T : RattleType) (L : Laws T) (S : Ghosts T.Denot) (source : Dict) (one : OneCall S.brings) where
  pub list : OneResult (list·told.Learnt T L S source)
  list κs a z z' e e' p q = (one-place one p.1 q.1).1

  pub list-source : OneLeft (list·told.Learnt T L S source) (λ κs e. e.0.now)
  list-source κs a z z' e e' p q = (one-place one p.1 q.1).0

  pub list-grid : OneLeft (list·told.Learnt T L S source) (λ κs e. e.1.0.now)
  list-grid κs a z z' e e' p q = (one-place one p.1 q.1).2
