-- A turn by its numbers ends with the text that they say: a refusal at stage 2, and at any other what the session comes to.
use Rattle.std.proofs.Common.{◌≡◌, refl}
use Rattle.std.specs.Prelude.{ℕ, cond, eqb}
use Rattle.laws.proofs.Tests.{by-test}
use Rattle.session.specs.declared.Session.{Session}
use Rattle.lines.specs.Lines.{refused_text, end_text}
use Rattle.listing.specs.Turns.{turn_numbered, last_text}

pub numbered-text : (s : Session) (stage kind block byte : ℕ)
    → last_text (turn_numbered s stage kind block byte) ≡ cond (eqb stage 2) (refused_text kind block byte) (end_text s)
unfolding last_text
numbered-text s stage kind block byte =
    by-test (eqb stage 2) (λ e. rw e) (λ e. by-test (eqb stage 0) (λ f. rw (e, f)) (λ f. rw (e, f)))
