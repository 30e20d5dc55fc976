-- Four integers one behind the other: each begins where the one before it ends.
use Rattle.std.proofs.Common.{◌≡◌, ◌∷◌, [], ap, pos, ℤ, w64, rules, to_z}
use Rattle.std.proofs.Math.Facts.{to_z_pos}
use Rattle.written.specs.Painted.Field.{integer}
use Rattle.paint.proofs.FieldLaws.{named, behind}
use Rattle.paint.proofs.write_counts.Goals as goal

pub returns : goal.returns
returns c =
    let n : to_z w64 c.args.number ≡ pos c.args.number = to_z_pos w64 (search rules) in
    let m : to_z w64 c.args.posts ≡ pos c.args.posts = to_z_pos w64 (search rules) in
    behind
    (behind
    (behind c.put_whole-number_at.ensures (named (ap (λ (v : ℤ). integer v ∷ []) n) c.put_whole-posts_at.ensures))
    (named (ap (λ (v : ℤ). integer v ∷ []) m) c.put_whole-last_at.ensures))
    c.put_whole.ensures
