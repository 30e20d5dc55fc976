-- What is kept is the session after the run: Carried.
use Rattle.std.proofs.Common.{◌≡◌, ◌∙◌, ap, subst}
use Rattle.session.specs.declared.Session.{Session}
use Rattle.delivery.specs.Deliver.{lend, answer_kind}
use Rattle.delivery.proofs.SoundOut.{Idle}
use Rattle.runs.specs.declared.Ran.{Ran}
use Rattle.runs.specs.Run.{Running, run_of, ran_of}
use Rattle.slip.specs.Slip.{handed}
use Rattle.courier.specs.Courier.{ran_to, beside_run}
use Rattle.courier.specs.Steps.{taken_kept}
use Rattle.courier.proofs.Carried.{carried}
use Rattle.courier.proofs.deliver_run.Goals as goal

pub returns : goal.returns
returns c =
    let a = c.args in
    let e = c.session_of-s.ensures.0 in
    let ran : Session → Running = λ x. run_of x a.number a.blocks.now (lend a.grid.now) in
    let r : c.deliver_run-ran.result ≡ ran_of (ran_to a.numbers.now a.number a.blocks.now a.grid.now) = c.deliver_run-ran.ensures.0 ∙ ap (λ (x : Session). ran_of (ran x)) e in
    let i = subst Idle e c.session_of-s.ensures.1 in (
      c.tell.ensures.0 ∙ ap (λ (x : Ran). answer_kind x.answer) r,
      (
        c.keep_taken.ensures
            ∙ (λ j. taken_kept (e j).taken (r j).session a.numbers.now)
            ∙ carried a.numbers.now a.number a.blocks.now a.grid.now i,
        (
          c.deliver_run-ran.ensures.1 ∙ ap (λ (x : Session). (ran x).lent.grid) e,
          c.tell.ensures.1 ∙ ap (λ (x : Ran). handed (beside_run x.answer x.count) a.answer.now) r,
        ),
      ),
    )
