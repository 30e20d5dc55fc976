-- What is kept of a delivery's session is the session: Keeping.
use Rattle.std.proofs.Common.{◌∙◌, sym, ap, subst}
use Rattle.session.specs.declared.Session.{Session}
use Rattle.delivery.specs.declared.Delivered.{Delivered}
use Rattle.delivery.specs.Deliver.{lend, deliver_of}
use Rattle.delivery.proofs.SoundOut.{Idle}
use Rattle.ledger.specs.Steps.{Keepable}
use Rattle.ledger.proofs.Keeping.{keepable}
use Rattle.ledger.proofs.deliver.Goals as goal

pub settle-requires : goal.settle-requires
settle-requires c =
    let a = c.args in
    let s = c.session_of-s.ensures in
    let d = c.deliver-d.ensures.0 ∙ ap (λ (x : Session). deliver_of x a.number a.block.now (lend a.grid.now)) s.0 in
    subst (λ (x : Delivered). Keepable x a.numbers.now) (sym d)
    (keepable a.numbers.now a.number a.block.now (lend a.grid.now) (subst Idle s.0 s.1))
