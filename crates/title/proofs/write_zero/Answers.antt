-- Both are blocks, and every piece is written over its stretch: ZeroWalk. ZeroTable has the table.
use Rattle.std.proofs.Common.{◌≡◌, ◌≤◌, ◌+◌, ℕ, List, ◌∙◌, refl, ap, sym, subst, length, get_or, eq-eqb, add-one, rules, arith}
use Rattle.title.specs.declared.Content.TheVariants.{Kept}
use Rattle.title.specs.declared.Stretch.{Stretch}
use Rattle.title.specs.Title.{zero_after}
use Rattle.title.specs.ZeroSteps.{stretch, stretches_by, stretches_to, start_of, width_of, stretch_after, block_end}
use Rattle.title.proofs.ZeroTable.{in_table, stretch-inside}
use Rattle.title.proofs.ZeroWalk.{walked_all}
use Rattle.title.proofs.write_zero.Goals as goal

pub loop-stretch-init : goal.loop-stretch-init
unfolding stretches_to
loop-stretch-init c = (refl, refl)

pub write_stretch-requires : goal.write_stretch-requires
write_stretch-requires c =
    let a = c.args in
    let i = c.loop-stretch.stretch-index in
    let b = c.loop-stretch-test.true in
    let none = stretch 0 0 Kept in
    let items : c.stretches-stretch-items.result ≡ stretches_by a.h a.least a.greatest a.columns = search rules in
    let entry = ap (λ (l : List Stretch). get_or l i none) items ∙ in_table a.h a.least a.greatest a.columns i none b in (
      c.if-template-eq1024.true,
      (
        c.loop-stretch.invariant.0 ∙ c.if-block-eq1024.true,
        subst (λ (s : Stretch). start_of s + width_of s ≤ 1024) (sym entry) (stretch-inside a.h a.least a.greatest a.columns i b),
      ),
    )

pub loop-stretch-preserved : goal.loop-stretch-preserved
unfolding stretches_to
loop-stretch-preserved c =
    let a = c.args in
    let i = c.loop-stretch.stretch-index in
    let b = c.loop-stretch-test.true in
    let none = stretch 0 0 Kept in
    let l = c.stretches-stretch-items.result in
    let items : l ≡ stretches_by a.h a.least a.greatest a.columns = search rules in
    let entry : get_or l i none ≡ get_or l i block_end =
    ap (λ (k : List Stretch). get_or k i none) items
    ∙ in_table a.h a.least a.greatest a.columns i none b
    ∙ ap (λ (k : List Stretch). get_or k i block_end) (sym items)
    in (
      c.write_stretch.auto.block ∙ c.loop-stretch.invariant.0,
      c.write_stretch.ensures
          ∙ ap (λ (s : Stretch). stretch_after a.template.now s c.loop-stretch.block) entry
          ∙ ap (stretch_after a.template.now (get_or l i block_end)) c.loop-stretch.invariant.1
          ∙ ap (λ (n : ℕ). stretches_to a.template.now l n a.block.now) (sym (add-one i)),
    )

pub returns-after-loop-stretch : goal.returns-after-loop-stretch
unfolding zero_after
returns-after-loop-stretch c =
    let a = c.args in
    let template = a.template.now in
    let block = a.block.now in
    let long = c.if-template-eq1024.true in
    let same = c.if-block-eq1024.true in
    let items : c.stretches-stretch-items.result ≡ stretches_by a.h a.least a.greatest a.columns = search rules in
    let all : c.loop-stretch.stretch-index ≡ 27 = omega arith in
    rw (eq-eqb (length template) 1024 long, eq-eqb (length block) 1024 same)
    (c.loop-stretch.invariant.1
    ∙ (λ j. stretches_to template (items j) (all j) block)
    ∙ walked_all template long a.h a.least a.greatest a.columns block same)
