-- Each number as it stands in the table: it fits, so its bits are read back as they were.
use Rattle.std.proofs.Common.{◌≡◌, to_z, of_z, rules}
use mir.Syntax.{w64}
use Rattle.title.specs.ZeroSteps.{stretches_by}
use Rattle.title.proofs.stretches.Goals as goal

pub returns : goal.returns
unfolding stretches_by
returns c =
    let h = c.args.h in
    let swx : to_z w64 (of_z w64 h.sw.x) ≡ h.sw.x = search rules in
    let swy : to_z w64 (of_z w64 h.sw.y) ≡ h.sw.y = search rules in
    let nwx : to_z w64 (of_z w64 h.nw.x) ≡ h.nw.x = search rules in
    let nwy : to_z w64 (of_z w64 h.nw.y) ≡ h.nw.y = search rules in
    let nex : to_z w64 (of_z w64 h.ne.x) ≡ h.ne.x = search rules in
    let ney : to_z w64 (of_z w64 h.ne.y) ≡ h.ne.y = search rules in
    let sex : to_z w64 (of_z w64 h.se.x) ≡ h.se.x = search rules in
    let sey : to_z w64 (of_z w64 h.se.y) ≡ h.se.y = search rules in
    let least : to_z w64 (of_z w64 c.args.least) ≡ c.args.least = search rules in
    let greatest : to_z w64 (of_z w64 c.args.greatest) ≡ c.args.greatest = search rules in
    cc
