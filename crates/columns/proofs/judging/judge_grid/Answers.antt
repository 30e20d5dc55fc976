-- A sheet has at most 2048 columns and rows.
use Rattle.std.proofs.Common.{arith}
use Rattle.columns.proofs.GridJudged.{cells-most}
use Rattle.columns.proofs.judging.judge_grid.Goals as goal

pub overflow_mul-cells : goal.overflow_mul-cells
overflow_mul-cells c =
    omega (arith, cells-most c.args.h c.requires c.columns.result c.rows.result c.columns.ensures c.rows.ensures)
