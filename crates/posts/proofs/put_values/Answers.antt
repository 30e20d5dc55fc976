-- One turn is `place-more`.
use Rattle.std.proofs.Common.{◌∙◌, ◌+◌, ap, List, ℤ, pos, get_or, slice_set, arith, rules}
use Rattle.std.proofs.lemmas.Int.{to_z-of_z}
use mir.Syntax.{w32}
use Rattle.laws.proofs.Cells.{place-more}
use Rattle.posts.proofs.put_values.Goals as goal

pub loop-i-preserved : goal.loop-i-preserved
loop-i-preserved c =
    let v = get_or c.args.values.now c.loop-i.i (pos 0) in
    let at = c.args.at + c.loop-i.i in (
      omega arith,
      ap (λ (x : ℤ). slice_set c.loop-i.grid at x) (to_z-of_z w32 v (search rules))
          ∙ ap (λ (x : List ℤ). slice_set x at v) c.loop-i.invariant.1
          ∙ place-more c.args.grid.now c.args.at c.args.values.now c.loop-i.i (pos 0) (omega arith),
    )
