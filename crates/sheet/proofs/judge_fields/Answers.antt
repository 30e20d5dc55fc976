-- Two walks, one behind the other: a family's front, then the back.
use Rattle.field.proofs.OneTold.{err-told}
use Rattle.std.proofs.Common.{rules, ◌≡◌, refl, sym, ◌∙◌, ap, arith, Err, length}
use Rattle.std.specs.Prelude.{Result}
use lib.ListN.{length-map}
use Rattle.field.specs.Field.{fault}
use Rattle.field.specs.Told.{fault_told}
use Rattle.field.specs.declared.Broken.{Broken}
use Rattle.kinds.specs.Kinds.{number_of}
use Rattle.sheet.specs.RecordA.{first_fault, front_of, back}
use Rattle.sheet.specs.RecordASteps.{row_told}
use Rattle.sheet.proofs.TableA.{front-inside, front-short, back-inside, stop-kind, front-fault, back-fault}
use Rattle.sheet.proofs.judge_fields.Goals as goal

pub walk-requires : goal.walk-requires
walk-requires c =
    let rows = c.front_of.result.now in
    let many : length rows ≡ length (front_of c.args.family) = sym (length-map rows row_told) ∙ ap length c.front_of.ensures in (
      rw c.front_of.ensures (front-inside c.args.family),
      (
        omega (arith, many, front-short c.args.family),
        record { long = c.requires; system-is = c.whole_at.ensures; vertical-is = c.whole_at-2.ensures },
      ),
    )

pub returns-in_err-walk-clause-fault : goal.returns-in_err-walk-clause-fault
returns-in_err-walk-clause-fault c =
    let a = c.args in
    let b = c.in_err-walk.field-0.0 in
    let told : c.from_residual.result ≡ Err b = search rules in
    let front : fault (number_of b.kind) b.byte ≡ first_fault a.family a.block.now (front_of a.family) =
    sym (ap fault_told c.in_err-walk.was) ∙ c.walk.ensures.first ∙ ap (first_fault a.family a.block.now) c.front_of.ensures
    in
    ap fault_told told ∙ front-fault a.family a.block.now (fault (number_of b.kind) b.byte) front (stop-kind b)

pub walk-requires-2 : goal.walk-requires-2
unfolding back
walk-requires-2 c = (
  back-inside,
  (
    omega (arith, c.walk.ensures.many),
    record { long = c.requires; system-is = c.whole_at.ensures; vertical-is = c.whole_at-2.ensures },
  ),
)

pub returns-in_err-walk-2-clause-fault : goal.returns-in_err-walk-2-clause-fault
unfolding back
returns-in_err-walk-2-clause-fault c =
    let a = c.args in
    let b = c.in_err-walk-2.field-0.0 in
    let told : c.from_residual-in_err-walk-2.result ≡ Err b = err-told _ b _ (λ e q. q) c.from_residual-in_err-walk-2.ensures in
    let front : fault 0 0 ≡ first_fault a.family a.block.now (front_of a.family) =
    sym (ap fault_told c.in_ok-walk.was) ∙ c.walk.ensures.first ∙ ap (first_fault a.family a.block.now) c.front_of.ensures
    in
    ap fault_told told
    ∙ sym (ap fault_told c.in_err-walk-2.was)
    ∙ c.walk-2.ensures.first
    ∙ back-fault a.family a.block.now (fault 0 0) front refl

pub returns-clause-fault : goal.returns-clause-fault
unfolding back
returns-clause-fault c =
    let a = c.args in
    let front : fault 0 0 ≡ first_fault a.family a.block.now (front_of a.family) =
    sym (ap fault_told c.in_ok-walk.was) ∙ c.walk.ensures.first ∙ ap (first_fault a.family a.block.now) c.front_of.ensures
    in
    sym (ap fault_told c.in_ok-walk-2.was) ∙ c.walk-2.ensures.first ∙ back-fault a.family a.block.now (fault 0 0) front refl

pub returns-clause-values : goal.returns-clause-values
unfolding back
returns-clause-values c = c.walk-2.ensures.read (ap (λ (r : Result Unit Broken). (fault_told r).kind) c.in_ok-walk-2.was)
