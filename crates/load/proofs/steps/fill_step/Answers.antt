-- A good block: filled, and closed where its last post is read.
use Rattle.std.proofs.Common.{◌-◌, ◌∙◌, ap, sym, refl, arith, Ok, Err}
use mathlib.Core.Path.{ap₂}
use Rattle.session.specs.declared.Session.{Session}
use Rattle.delivery.specs.Deliver.{close_fault, closed_session}
use Rattle.rules.specs.Told.{closing_told}
use Rattle.gate.specs.Gate.{taken}
use Rattle.progress.proofs.Counts.{goes_on}
use Rattle.load.proofs.Filled.{filled-told, fill_more, fill-last, fill-broken}
use Rattle.load.proofs.steps.fill_step.Goals as goal

pub returns-then-p-n : goal.returns-then-p-n
returns-then-p-n c hs e f g =
    let a = c.args in
    let after = filled-told a.s a.column a.p a.n a.u a.sum c.fill_session-after.result c.requires.0 c.fill_session-after.ensures in
    c.taken.ensures
    ∙ (λ j. taken (after j) 0 (c.next_cell-at.ensures j) a.n)
    ∙ fill_more a.s a.number a.column a.p a.n a.u a.sum hs e f g c.if-p-n.true

-- what the closing rules say of the session with the block
pub returns-in-Err : goal.returns-in-Err
returns-in-Err c hs e f g =
    let a = c.args in
    let r = closing_told {A = Unit {0}} (Err c.in-Err.m) in
    let after = filled-told a.s a.column a.p a.n a.u a.sum c.fill_session-after.result c.requires.0 c.fill_session-after.ensures in
    let fault-is =
    ap closing_told (sym c.in-Err.is) ∙ c.close_fault.ensures ∙ ap₂ close_fault (ap (λ x. a.number - x) c.open_blocks.ensures) after
    in
    c.refused_for.ensures
    ∙ fill-broken a.s a.number a.column a.p a.n a.u a.sum hs e f g c.if-p-n.false r fault-is (λ z. omega (arith, z))

pub returns-in-Ok : goal.returns-in-Ok
returns-in-Ok c hs e f g =
    let a = c.args in
    let r = closing_told (Ok c.in-Ok.field-0) in
    let after = filled-told a.s a.column a.p a.n a.u a.sum c.fill_session-after.result c.requires.0 c.fill_session-after.ensures in
    let fault-is =
    ap closing_told (sym c.in-Ok.is) ∙ c.close_fault.ensures ∙ ap₂ close_fault (ap (λ x. a.number - x) c.open_blocks.ensures) after
    in
    let closed =
    c.close_session.ensures
    ∙ goes_on c.fill_session-after.result.closed (closed_session c.fill_session-after.result) c.fill_session-after.result
    (omega (arith, ap (λ (x : Session). x.closed) after, c.requires.1.not_last, c.requires.0.ready.profiles-most))
    ∙ ap closed_session after
    in
    c.taken-in-Ok.ensures
    ∙ (λ j. taken (closed j) 0 (c.next_cell-at.ensures j) a.n)
    ∙ fill-last a.s a.number a.column a.p a.n a.u a.sum hs e f g c.if-p-n.false r fault-is refl
