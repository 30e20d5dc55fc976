-- The next block: the tests that still have to be asked, then what they leave.
use Rattle.std.proofs.Common.{◌≡◌, ◌∙◌, ℕ, length, rules, sym, ap, subst}
use Rattle.delivery.specs.declared.Delivered.{Delivered}
use Rattle.load.specs.declared.run.Pace.{Pace}
use Rattle.load.specs.Steps.{Pacing, paced_by}
use Rattle.load.proofs.Paces.{Paced, paced-next}
use Rattle.load.proofs.run.next_block.Goals as goal

pub returns : goal.returns
returns c =
    let a = c.args in
    let k = c.requires.0 in
    let after = c.settle-d.new.grid in
    let r = c.paced.ensures ∙ ap (λ (x : Delivered). paced_by a.p.roomy a.p.ran.count x.session x.answer) c.settle-d.ensures.0 in
    let q =
    subst (λ (x : Pace). Paced a.p.ran.session a.number a.p.ran.count a.block.now a.grid.now after x) (sym r)
    (paced-next a.p.ran.session a.number a.p.ran.count a.block.now a.grid.now after a.p.roomy k.sound-is k.room-is c.settle-d.ensures.1)
    in
    let same : length after ≡ length a.grid.now = search rules in
    (subst (λ (n : ℕ). Pacing n c.paced.result) (sym same) q.pacing, (q.stands, q.number-most))
