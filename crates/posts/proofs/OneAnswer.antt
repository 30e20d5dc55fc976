-- No second answer: for each public function its contract, as it stands, leaves one result and one state of what was lent.
use Rattle.std.proofs.Common.{◌≡◌, refl, sym, ◌∙◌, ap}
use Rattle.std.specs.Prelude.{Result, Ok, Err}
use Rattle.laws.proofs.Answers.{one_answer, OneLeft, OneResult}
use Rattle.field.specs.Field.{fault}
use Rattle.field.specs.Told.{fault_told}
use Rattle.field.specs.declared.Broken.{Broken}
use Rattle.field.proofs.OneTold.{told-one}
use Rattle.ground.specs.declared.Tally.{Tally}
use Rattle.posts.specs.Scan.{Scan, scan_told}
use Rattle.posts.proofs.place.Reads as place·told
use Rattle.posts.proofs.scan_block.Reads as scan-block·told
use Rattle.posts.proofs.sum_filled.Reads as sum-filled·told
use Rattle.posts.proofs.void_cells.Reads as void-cells·told

-- a scan as the code answers it is one to one with what the definitions say of it
scan-fault : (a : Result Tally Broken) → fault_told a ≡ fault (scan_told a).kind (scan_told a).byte
scan-fault (Ok t) = refl
scan-fault (Err b) = refl

scan-one : (a b : Result Tally Broken) → scan_told a ≡ scan_told b → a ≡ b
scan-one a b e =
    told-one a b (λ x y p q. ap (λ (s : Scan). s.tally) (sym (ap scan_told p) ∙ (e ∙ ap scan_told q)))
    (scan-fault a ∙ (ap (λ (s : Scan). fault s.kind s.byte) e ∙ sym (scan-fault b)))

pub scan-block : OneResult scan-block·told.Learnt
scan-block κs a z z' e e' p q = scan-one z z' (one_answer p.0 q.0)

pub scan-block-scratch : OneLeft scan-block·told.Learnt (λ κs e. e.1.1.1.1.1.0.now)
scan-block-scratch κs a z z' e e' p q = one_answer p.1 q.1

pub sum-filled : OneResult sum-filled·told.Learnt
sum-filled κs a z z' e e' p q = one_answer p.0 q.0

pub void-cells-grid : OneLeft void-cells·told.Learnt (λ κs e. e.0.now)
void-cells-grid κs a z z' e e' p q = one_answer p q

pub place-grid : OneLeft place·told.Learnt (λ κs e. e.0.now)
place-grid κs a z z' e e' p q = one_answer p q
