-- The loop keeps `Reached`, whose laws are in TableA.
use Rattle.std.proofs.Common.{rules, ◌≡◌, sym, ◌∙◌, ap, arith, map, Err}
use Rattle.std.proofs.lemmas.Int.{ints, to_z-of_z}
use Rattle.std.specs.Prelude.{Result}
use mir.Syntax.{w64}
use mir.Val.{to_z, of_z}
use Rattle.field.specs.Told.{fault_told}
use Rattle.field.specs.declared.Broken.{Broken}
use Rattle.sheet.specs.RecordASteps.{row_told}
use Rattle.sheet.proofs.TableA.{told-at, row-inside, reached-stop, stop-kind, reached-turn}
use Rattle.sheet.proofs.walk.Goals as goal

pub judge_row-read-requires : goal.judge_row-read-requires
judge_row-read-requires c = (row-inside c.args.rows.now c.loop-i.i c.loop-i-test.true c.requires.0, c.requires.1.1)

pub overflow_cast-row : goal.overflow_cast-row
overflow_cast-row c =
    let here = row-inside c.args.rows.now c.loop-i.i c.loop-i-test.true c.requires.0 in
    omega (arith, here.begins, here.ends)

pub returns-in_err-values : goal.returns-in_err-values
returns-in_err-values c =
    let a = c.args in
    let l = c.loop-i in
    let b = c.in_err-values.field-0.0 in
    let told : c.from_residual.result ≡ Err b = search rules in
    let at = told-at a.rows.now l.i c.loop-i-test.true in
    record {
      first =
          ap fault_told told
          ∙ reached-stop a.terms.family a.block.now (map row_told a.rows.now) a.values.now l.values l.i l.invariant at.0 _ at.1 c.judge_row-read.result
          c.judge_row-read.ensures
          b
          (sym c.placed.ensures ∙ c.in_err-values.was);
      many = l.invariant.many;
      read = λ z. absurd (stop-kind b (sym (ap (λ (r : Result Unit Broken). (fault_told r).kind) told) ∙ z));
    }

pub loop-i-preserved : goal.loop-i-preserved
loop-i-preserved c =
    let a = c.args in
    let l = c.loop-i in
    let z = c.in_ok-values.field-0 in
    let at = told-at a.rows.now l.i c.loop-i-test.true in
    let back : to_z w64 (of_z w64 z) ≡ z = grind (arith, ints, to_z-of_z) in
    rw back
    (reached-turn a.terms.family a.block.now (map row_told a.rows.now) a.values.now l.values l.i l.invariant at.0 _ at.1 c.judge_row-read.result
    c.judge_row-read.ensures
    z
    (sym c.placed.ensures ∙ c.in_ok-values.was)
    (omega (arith, c.requires.1.0, c.loop-i-test.true)))
