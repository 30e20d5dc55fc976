-- Each turn's laws stand in Cells.
use Rattle.std.proofs.Common.{arith, FitsSigned, w32, rules, ◌∙◌, to_z, of_z}
use Rattle.std.proofs.lemmas.Int.{to_z-of_z}
use Rattle.sender.proofs.Cells.{decoding-turn, decoding-end}
use Rattle.sender.proofs.input.decode.Goals as goal

pub loop-i-preserved : goal.loop-i-preserved
loop-i-preserved c =
    let fits : FitsSigned w32 c.cell_at.result = search rules in
    decoding-turn c.loop-i.invariant (omega arith) c.requires (to_z w32 (of_z w32 c.cell_at.result))
    (to_z-of_z _ _ fits ∙ c.cell_at.ensures)

pub returns : goal.returns
returns c = decoding-end c.loop-i.invariant (omega arith) c.requires
