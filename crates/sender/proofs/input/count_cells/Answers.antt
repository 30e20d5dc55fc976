-- The bytes are whole fours, and few enough.
use Rattle.std.proofs.Common.{sym, arith}
use Rattle.sender.proofs.Cells.{all-fours, good-count}
use Rattle.sender.proofs.input.count_cells.Goals as goal

pub returns : goal.returns
returns c =
    let text = c.args.text.now in
    (sym (good-count text (omega arith) (omega arith)), (all-fours text (omega arith), omega arith))
