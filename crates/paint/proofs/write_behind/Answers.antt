-- The cells from the block's first on, as many as it has room for: PartLaws.
use Rattle.std.proofs.Common.{min, ◌≡◌, ◌∙◌, ◌+◌, ◌*◌, ◌-◌, List, ℤ, length, drop, ap, arith, length-drop}
use Rattle.paint.specs.Fields.{further_after}
use Rattle.paint.proofs.PartLaws.{take-fewer}
use Rattle.paint.proofs.write_behind.Goals as goal

pub returns : goal.returns
returns c =
    let a = c.args in
    let m = c.min.result in
    let r = 146 + 170 * (a.k - 1) in
    let rest = drop r a.cells.now in
    let many : r + m - r ≡ min (length rest) 170 = omega (arith, c.min.ensures, length-drop r a.cells.now) in
    c.write_further.ensures
    ∙ ap (λ (l : List ℤ). further_after a.z l a.block.now) (take-fewer 170 (r + m - r) rest many)
