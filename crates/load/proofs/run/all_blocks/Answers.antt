-- The loop over the blocks: after some of them the run stands where the definition says.
use Rattle.std.proofs.Common.{Bool, ℕ, true, false, ◌≡◌, ◌+◌, ◌*◌, length, drop, leb, refl, sym, ap, ◌∙◌, not, arith, rules}
use Rattle.std.specs.Iterator.Adapters.{enumerate_source, enumerate_count}
use Rattle.std.specs.Slice.Iter.{chunks_exact_rest, chunks_exact_size}
use Rattle.std.proofs.lemmas.List.{length-drop}
use Rattle.frame.specs.Frame.{cells_of}
use Rattle.session.specs.Session.{sound}
use Rattle.runs.specs.declared.Ran.{Ran}
use Rattle.delivery.specs.Deliver.{lend}
use Rattle.runs.specs.Run.{is_refused, run_to}
use Rattle.runs.proofs.RunLaws.{run_none}
use Rattle.ground.specs.Blocks.{blocks_in}
use Rattle.load.proofs.Paces.{block-rest, block-within, turned, stopped, used-up, few}
use Rattle.load.specs.Steps.{standing}
use Rattle.laws.proofs.Tests.{clash}
use Rattle.load.proofs.run.all_blocks.Goals as goal
use Rattle.load.proofs.run.all_blocks.Goals.{in-None, in-Some+then-not-p}

-- no block was refused
not-false : (b : Bool) → not b ≡ false → b ≡ true
not-false true e = refl
not-false false e = absurd (clash e)

pub loop-i-init : goal.loop-i-init
loop-i-init c =
    let a = c.args in
    let blocks = c.args.blocks.now in
    let e = c.set_out.ensures in
    let g = a.grid.now in
    let same = c.into_iter-i-iterator.ensures.into_iter_gives in
    let none = ap enumerate_count same ∙ c.enumerate-i-items.ensures.count in
    let whole = ap enumerate_source same ∙ c.enumerate-i-items.ensures.source in
    record {
      pacing =
          record {
            sound-is = ap (λ (r : Ran). sound r.session) e ∙ c.requires;
            room-is = ap (λ (r : Ran). leb (cells_of r.session.header) (length g)) e ∙ sym c.has_room.ensures;
            more-is = ap (λ (r : Ran). is_refused r.answer) e;
          };
      stands = ap (λ (r : Ran). standing r g) e ∙ sym (run_none a.s a.number _ (lend g)) ∙ ap (run_to a.s a.number _ (lend g)) (sym none);
      room = refl;
      more = refl;
      number_fits = omega (arith, none);
      size = ap chunks_exact_size whole ∙ c.chunks_exact.ensures.size;
      rest = ap chunks_exact_rest whole ∙ c.chunks_exact.ensures.rest ∙ ap (λ (n : ℕ). drop (1024 * n) blocks) (sym none);
      within = omega (arith, none);
    }

pub next_block-p-requires : goal.next_block-p-requires
next_block-p-requires c =
    let a = c.args in
    let blocks = c.args.blocks.now in
    let l = c.loop-i in
    let step = c.in-Some.ensures.steps in
    let most = few a.s a.number blocks (lend a.grid.now) (standing l.p.ran l.grid) (enumerate_count l.i-iterator) l.invariant.stands in (
      l.invariant.pacing,
      (step.0.1.1 ∙ l.invariant.size, (l.invariant.room, omega (arith, most, l.invariant.number_fits))),
    )

pub loop-i-preserved : goal.loop-i-preserved
loop-i-preserved c =
    let a = c.args in
    let blocks = c.args.blocks.now in
    let l = c.loop-i in
    let b = c.next_block-p in
    let on = not-false b.result.more c.if-not-p.false in
    let n = enumerate_count l.i-iterator in
    let step = c.in-Some.ensures.steps in
    let cut = sym step.0.1.0 ∙ l.invariant.rest in
    let long = step.0.1.1 ∙ l.invariant.size in
    record {
      pacing = b.ensures.0;
      stands =
          b.ensures.1.0
          ∙ turned a.s a.number blocks (lend a.grid.now) (standing l.p.ran l.grid) n l.invariant.stands
          (l.invariant.pacing.more-is ∙ ap not l.invariant.more)
          _
          _
          step.1
          cut
          long
          ∙ ap (run_to a.s a.number blocks (lend a.grid.now)) (sym step.2);
      room = search rules;
      more = on;
      number_fits = omega (arith, b.ensures.1.1 on, step.1, step.2);
      size = step.0.0 ∙ l.invariant.size;
      rest = block-rest blocks _ _ n cut long ∙ ap (λ (k : ℕ). drop (1024 * k) blocks) (sym step.2);
      within = omega (arith, block-within blocks _ _ n cut long, step.2);
    }

pub returns : goal.returns
returns c =
    let a = c.args in
    let blocks = c.args.blocks.now in
    let l = c.loop-i in
    let r = standing l.p.ran l.grid in
    let g = lend a.grid.now in
    let n = enumerate_count l.i-iterator in
    let m = blocks_in blocks in
    elim c.match-next.branch [
      | in-None w ↦
          (λ j. standing (w.p-is j).ran (w.grid-is j))
          ∙ used-up a.s a.number blocks g r n l.invariant.stands m (omega (arith, l.invariant.within))
          (omega (arith, w.in-None.ensures.steps.0.1.0, l.invariant.size, ap length l.invariant.rest, length-drop (1024 * n) blocks))
      | in-Some+then-not-p w ↦
          let b = w.next_block-p in
          let step = w.in-Some.ensures.steps in
          let cut = sym step.0.1.0 ∙ l.invariant.rest in
          let long = step.0.1.1 ∙ l.invariant.size in
          let next =
          b.ensures.1.0
          ∙ turned a.s a.number blocks g r n l.invariant.stands (l.invariant.pacing.more-is ∙ ap not l.invariant.more) _ _ step.1 cut long
          in
          (λ j. standing (w.p-is j).ran (w.grid-is j))
          ∙ stopped a.s a.number blocks g (standing b.result.ran b.new.grid) (n + 1) next m
          (omega (arith, block-within blocks _ _ n cut long))
          (b.ensures.0.more-is ∙ w.if-not-p.true)
    ]
