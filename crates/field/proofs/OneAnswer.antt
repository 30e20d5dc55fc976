-- No second answer: for each public function its contract, as it stands, leaves one result and one state of what was lent.
use Rattle.laws.proofs.Answers.{one_answer, OneResult, OneSeen}
use Rattle.std.proofs.Common.{sym, ◌∙◌}
use Rattle.number.proofs.Said.{said-one}
use Rattle.field.proofs.OneTold.{limits-one, told-one}
use Rattle.field.proofs.Bounds.check.Reads as check·told
use Rattle.field.proofs.Bounds.check_at.Reads as check-at·told
use Rattle.field.proofs.Bounds.hold.Reads as hold·told
use Rattle.field.proofs.Bounds.limits.Reads as limits·told
use Rattle.field.proofs.Broken.at.Reads as at·told
use Rattle.field.proofs.all_text.Reads as all-text·told
use Rattle.field.proofs.all_words.Reads as all-words·told
use Rattle.field.proofs.blank_from.Reads as blank-from·told
use Rattle.field.proofs.bounds_of.Reads as bounds-of·told
use Rattle.field.proofs.fault_of.Reads as fault-of·told
use Rattle.field.proofs.fault_or.Reads as fault-or·told
use Rattle.field.proofs.in_range.Reads as in-range·told
use Rattle.field.proofs.integer_at.Reads as integer-at·told
use Rattle.field.proofs.judge.Reads as judge·told
use Rattle.field.proofs.judge_at.Reads as judge-at·told
use Rattle.field.proofs.limits_of.Reads as limits-of·told
use Rattle.field.proofs.no_fault.Reads as no-fault·told
use Rattle.field.proofs.placed.Reads as placed·told
use Rattle.field.proofs.posts_limits.Reads as posts-limits·told
use Rattle.field.proofs.read_ranged.Reads as read-ranged·told
use Rattle.field.proofs.real_at.Reads as real-at·told
use Rattle.field.proofs.stretch_of.Reads as stretch-of·told
use Rattle.field.proofs.whole_at.Reads as whole-at·told

pub at : OneResult at·told.Learnt
at κs a z z' e e' p q = one_answer p q

pub all-text : OneResult all-text·told.Learnt
all-text κs a z z' e e' p q = one_answer p q

pub all-words : OneResult all-words·told.Learnt
all-words κs a z z' e e' p q = one_answer p q

pub blank-from : OneResult blank-from·told.Learnt
blank-from κs a z z' e e' p q = one_answer p q

pub bounds-of : OneResult bounds-of·told.Learnt
bounds-of κs a z z' e e' p q = one_answer p q

pub in-range : OneResult in-range·told.Learnt
in-range κs a z z' e e' p q = one_answer p q

pub integer-at : OneResult integer-at·told.Learnt
integer-at κs a z z' e e' p q = said-one z z' (one_answer p q)

pub judge : OneResult judge·told.Learnt
judge κs a z z' e e' p q = one_answer p q

pub judge-at : OneResult judge-at·told.Learnt
judge-at κs a z z' e e' p q = one_answer p q

pub check : OneResult check·told.Learnt
check κs a z z' e e' p q = one_answer p q

pub check-at : OneResult check-at·told.Learnt
check-at κs a z z' e e' p q = told-one z z' (λ x y f g. sym (rw f at p.1) ∙ rw g at q.1) (one_answer p.0 q.0)

pub hold : OneResult hold·told.Learnt
hold κs a z z' e e' p q = one_answer p q

pub limits : OneResult limits·told.Learnt
limits κs a z z' e e' p q = one_answer p q

pub limits-of : OneResult limits-of·told.Learnt
limits-of κs a z z' e e' p q = one_answer p q

pub no-fault : OneResult no-fault·told.Learnt
no-fault κs a z z' e e' p q = one_answer p q

pub fault-of : OneResult fault-of·told.Learnt
fault-of κs a z z' e e' p q = one_answer p q

pub fault-or : OneResult fault-or·told.Learnt
fault-or κs a z z' e e' p q = one_answer p q

pub placed : OneResult placed·told.Learnt
placed κs a z z' e e' p q = one_answer p q

pub posts-limits : OneResult posts-limits·told.Learnt
posts-limits κs a z z' e e' p q = limits-one z z' (one_answer p q)

pub read-ranged : OneResult read-ranged·told.Learnt
read-ranged κs a z z' e e' p q = one_answer p q

pub real-at : OneResult real-at·told.Learnt
real-at κs a z z' e e' p q = said-one z z' (one_answer p q)

pub stretch-of : OneSeen stretch-of·told.Learnt (λ κs z. z.now)
stretch-of κs a z z' e e' p q = one_answer p q

pub whole-at : OneResult whole-at·told.Learnt
whole-at κs a z z' e e' p q = one_answer p q
