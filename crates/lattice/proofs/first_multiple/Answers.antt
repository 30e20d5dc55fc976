-- At or above zero the size is rounded up, and has room.
use Rattle.std.proofs.Common.{arith, ◌≡◌, ◌∙◌, ap, pos, false, sym}
use Rattle.std.specs.Int.{div_ceil}
use lib.IntN.{nat_abs}
use lib.Signed.{lt_z}
use mir.Facts.{to_z-of_z, to_z_pos}
use mir.Syntax.{w64}
use Rattle.lattice.specs.Lattice.{first_multiple}
use Rattle.lattice.proofs.Cases.{real-small}
use Rattle.lattice.proofs.Multiples.{first-above, first-small}
use Rattle.lattice.proofs.first_multiple.Goals as goal

pub returns-else-v-lt0 : goal.returns-else-v-lt0
returns-else-v-lt0 c =
    let v = c.args.v in
    let s = c.args.spacing in
    let back = to_z-of_z c.ranges.v in
    let plus : lt_z v (pos 0) ≡ false = sym (ap (λ z. lt_z z (pos 0)) back) ∙ c.if-v-lt0.false in
    let e : pos c.div_ceil.result ≡ first_multiple v s =
    ap pos (c.div_ceil.ensures ∙ ap (λ n. div_ceil n s) (c.unsigned_abs-size.ensures.value ∙ ap nat_abs back)) ∙ first-above s c.requires.1 v plus
    in
    to_z_pos w64 (omega (arith, ap nat_abs e, first-small s c.requires.1 v, real-small v c.requires.0)) ∙ e
