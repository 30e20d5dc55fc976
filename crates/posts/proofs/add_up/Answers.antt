-- One turn is `adding-turn`.
use Rattle.std.proofs.Common.{◌∙◌, ◌≡◌, ap, refl, ℤ, pos, ◌+ℤ◌, take, get_or, arith, rules}
use Rattle.std.proofs.lemmas.Int.{to_z-of_z}
use lib.Seq.{length-take-le}
use mir.Facts.{sfits_widen}
use mir.Syntax.{w32, w64}
use mir.Val.{to_z, of_z, SFits}
use Rattle.laws.proofs.Integers.{size-most, size_fits}
use Rattle.posts.specs.Steps.{share}
use Rattle.posts.proofs.Sums.{adding-turn}
use Rattle.posts.proofs.add_up.Goals as goal

pub loop-h-preserved : goal.loop-h-preserved
loop-h-preserved c =
    let h = get_or (take c.args.n c.args.values.now) c.loop-h.h-index (pos 0) in
    let sum = to_z w64 c.loop-h.sum-bits in
    let fits : SFits w32 h = search rules in
    let turn = adding-turn c.loop-h.invariant c.loop-h-test.true h refl (size-most h fits) in
    let more : to_z w64 (of_z w64 c.share_of-sum.result) ≡ share h =
    to_z-of_z w64 c.share_of-sum.result (search rules)
    ∙ (c.share_of-sum.ensures
    ∙ (ap (λ (x : ℤ). share (to_z w64 (of_z w64 x))) (to_z-of_z w32 h fits) ∙ ap share (to_z-of_z w64 h (sfits_widen tt fits))))
    in
    let whole : SFits w64 (sum +ℤ share h) =
    size_fits (sum +ℤ share h) (omega (arith, turn.most, turn.within, c.requires.0, length-take-le c.args.n c.args.values.now c.requires.1))
    in
    rw (more, to_z-of_z w64 (sum +ℤ share h) whole) turn
