-- Posts painted one behind the other; FieldLaws has one more.
use Rattle.std.proofs.Common.{◌≡◌, ◌<◌, [], ◌∷◌, ap, ◌∙◌, length, get_or, pos, ℤ, to_z, of_z, w32, w64, rules, arith}
use Rattle.written.specs.Cells.{post_of}
use Rattle.written.specs.Painted.Field.{integer}
use Rattle.paint.proofs.FieldLaws.{paint-none, paints-length, post-painted, posts-all, named}
use Rattle.paint.proofs.write_posts.Goals as goal

pub loop-cell-init : goal.loop-cell-init
loop-cell-init c = (omega arith, paint-none _ _ (omega (arith, c.requires)))

pub put_whole-end-requires : goal.put_whole-end-requires
put_whole-end-requires c =
    let v = c.loop-cell.invariant in
    omega (arith, v.0, paints-length v.1, c.requires, c.loop-cell-test.true)

pub loop-cell-preserved : goal.loop-cell-preserved
loop-cell-preserved c =
    let v = c.loop-cell.invariant in
    let i = c.loop-cell.cell-index in
    let h : i < length c.args.cells.now = omega arith in
    let d = get_or c.args.cells.now i (pos 0) in
    let p : to_z w64 (of_z w64 c.post_of.result) ≡ c.post_of.result = search rules in
    let q : to_z w32 (of_z w32 d) ≡ d = search rules in
    let post = p ∙ c.post_of.ensures ∙ ap (post_of c.args.z) q in
    let put = named (ap (λ (v : ℤ). integer v ∷ []) post) c.put_whole-end.ensures in
    (omega (arith, v.0, put.place), post-painted c.args.z c.args.cells.now i (pos 0) h v.1 put)

pub returns : goal.returns
returns c = posts-all c.args.z c.args.cells.now c.loop-cell.cell-index (omega arith) c.loop-cell.invariant.1
