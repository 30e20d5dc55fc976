-- The extremes of all the cells, and the first of them lent: PartLaws.
use Rattle.std.proofs.Common.{min, ◌≡◌, ◌∙◌, ◌-◌, length, rules, arith, w64, to_z, of_z}
use Rattle.paint.specs.Fields.{first_after}
use Rattle.paint.proofs.PartLaws.{take-fewer}
use Rattle.paint.proofs.write_opening.Goals as goal

pub returns : goal.returns
returns c =
    let cells = c.args.cells.now in
    let s = c.args.stake in
    let n = c.min-here.result in
    let many : n - 0 ≡ min (length cells) 146 = omega (arith, c.min-here.ensures) in
    let r = c.extremes_of-extremes.result in
    let px : to_z w64 (of_z w64 s.x) ≡ s.x = search rules in
    let py : to_z w64 (of_z w64 s.y) ≡ s.y = search rules in
    let l : to_z w64 (of_z w64 r.least) ≡ r.least = search rules in
    let g : to_z w64 (of_z w64 r.greatest) ≡ r.greatest = search rules in
    let pl = l ∙ c.extremes_of-extremes.ensures.0 in
    let pg = g ∙ c.extremes_of-extremes.ensures.1 in
    c.write_first.ensures
    ∙ (λ j. first_after s.number (length cells) (px j) (py j) (pl j) (pg j) s.z (take-fewer 146 (n - 0) cells many j) c.args.block.now)
