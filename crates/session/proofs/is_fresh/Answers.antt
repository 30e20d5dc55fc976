-- Equal, field by field, to a session that is opened with its family.
use Rattle.std.proofs.Common.{◌≡◌, ◌∙◌, refl, Bool, true, false, ℕ, eqb}
use borrow.Author.Tests.{eq-eqb}
use Rattle.laws.specs.Sign.{◌and◌}
use Rattle.heading.proofs.Fresh.{joined, equals-zero}
use Rattle.session.proofs.is_fresh.Goals as goal

of_itself : (b : Bool) (n : ℕ) → (b and eqb n n) ≡ b
of_itself true n = eq-eqb n n refl
of_itself false n = refl

pub returns : goal.returns
returns c = c.eq.ensures ∙ rw c.opened.ensures (simp (joined, equals-zero, of_itself))
