-- The void is judged before any division; the quotient of the size gets the cell's sign.
use Rattle.std.proofs.Common.{◌≡◌, ◌/◌, ◌<◌, ◌^◌, false, true, ap, ◌∙◌, pos, nat_abs, arith, rules}
use lib.Signed.{lt_z}
use mir.Facts.{to_z-of_z, to_z_pos}
use mir.Syntax.{w64}
use Rattle.laws.specs.Sign.{same_z, signed}
use Rattle.laws.proofs.Signs.{negated_fits, negated}
use Rattle.ground.specs.Posts.{void}
use Rattle.columns.proofs.Sendable.{post-void, quotient-small, post-below, post-above}
use Rattle.columns.proofs.post_of.Goals as goal

pub returns-then-is_void : goal.returns-then-is_void
returns-then-is_void c =
    let v : same_z c.args.cell void ≡ true = search rules in
    post-void c.args.z c.args.cell v

pub returns-then-cell-lt0 : goal.returns-then-cell-lt0
returns-then-cell-lt0 c =
    let v : same_z c.args.cell void ≡ false = search rules in
    let t : lt_z c.args.cell (pos 0) ≡ true = search rules in
    let q : c.quotient-n.result ≡ nat_abs c.args.cell / c.args.z = search rules in
    let small : c.quotient-n.result < 2 ^ 63 = omega (arith, quotient-small c.args.cell c.ranges.cell c.args.z) in
    to_z-of_z (negated_fits c.quotient-n.result small) ∙ negated c.quotient-n.result small ∙ ap (signed true) q
    ∙ post-below c.args.z c.args.cell v t

pub returns-else-cell-lt0 : goal.returns-else-cell-lt0
returns-else-cell-lt0 c =
    let v : same_z c.args.cell void ≡ false = search rules in
    let t : lt_z c.args.cell (pos 0) ≡ false = search rules in
    let q : c.quotient-n.result ≡ nat_abs c.args.cell / c.args.z = search rules in
    let small : c.quotient-n.result < 2 ^ 63 = omega (arith, quotient-small c.args.cell c.ranges.cell c.args.z) in
    to_z_pos w64 small ∙ ap pos q ∙ post-above c.args.z c.args.cell v t
