-- At each turn the posts of the cells so far stand.
use Rattle.std.proofs.Common.{◌≡◌, ◌+◌, ◌*◌, take}
use Rattle.paint.specs.Fields.{post_fields}
use Rattle.paint.specs.FieldSteps.{Paints}
use Rattle.paint.proofs.write_posts.Given as goal

abbrev pub invariant-loop-cell : goal.invariant-loop-cell
invariant-loop-cell l =
    (l.end ≡ l.at + 6 * l.cell-index) × Paints l.fn.block l.at (post_fields l.z (take l.cell-index l.cells)) l.block l.end
