-- The numbers' own session, or one that no clause lets pass.
use Rattle.std.proofs.Common.{◌≡◌, ◌∙◌, sym, ap, subst, arith, rules}
use Rattle.frame.specs.declared.Header.{Header}
use Rattle.heading.specs.Heading.{fresh_header}
use Rattle.session.specs.Session.{begun}
use Rattle.delivery.proofs.SoundOut.{Idle}
use Rattle.ledger.proofs.Keeping.{said-kept, said-none}
use Rattle.ledger.proofs.session_of.Goals as goal

pub returns-then-is_session : goal.returns-then-is_session
returns-then-is_session c =
    let k = c.session_kept.ensures in
    (k.0 ∙ sym (said-kept c.args.numbers.now (sym c.is_session.ensures ∙ c.if-is_session.true)), k.1)

pub returns-else-is_session : goal.returns-else-is_session
returns-else-is_session c =
    let zeros : c.default.result ≡ fresh_header = search rules in
    let r = c.begun.ensures ∙ ap (λ (h : Header). begun 0 h) zeros in (
      r ∙ sym (said-none c.args.numbers.now (sym c.is_session.ensures ∙ c.if-is_session.false)),
      subst Idle (sym r) (record { column = omega arith; row = omega arith; read = omega arith; filled = omega arith }),
    )
