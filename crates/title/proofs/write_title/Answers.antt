-- The extremes of all the sheet's cells, told on: no product is too large where the grid has as many.
use Rattle.std.proofs.Common.{◌≡◌, ◌*◌, ◌-◌, ℕ, ◌∙◌, true, false, ap, ap₂, take, length, leb, leb-true, arith, rules}
use Rattle.frame.specs.Frame.{cells_of}
use Rattle.ground.specs.Extremes.{least_stated, greatest_stated}
use Rattle.written.specs.Blocks.{sheet_cells}
use Rattle.title.specs.Title.{zero_after, title_after}
use Rattle.title.proofs.write_title.Goals as goal

pub returns-then-not-has_room : goal.returns-then-not-has_room
unfolding title_after
returns-then-not-has_room c =
    let t : leb (cells_of c.args.h) (length c.args.grid.now) ≡ false = search rules in
    rw t

pub overflow_mul-cells : goal.overflow_mul-cells
overflow_mul-cells c =
    let t : leb (cells_of c.args.h) (length c.args.grid.now) ≡ true = search rules in
    let many : c.columns-columns.result * c.rows.result ≡ cells_of c.args.h = ap₂ ◌*◌ c.columns-columns.ensures c.rows.ensures in
    omega (arith, many, leb-true (cells_of c.args.h) (length c.args.grid.now) t)

pub returns : goal.returns
unfolding title_after
returns c =
    let a = c.args in
    let t : leb (cells_of a.h) (length a.grid.now) ≡ true = search rules in
    let many : c.columns-columns.result * c.rows.result ≡ cells_of a.h = ap₂ ◌*◌ c.columns-columns.ensures c.rows.ensures in
    let part : c.columns-columns.result * c.rows.result - 0 ≡ cells_of a.h = omega (arith, many) in
    let cells = ap (λ (k : ℕ). take k a.grid.now) part in
    let least : c.extremes_of-extremes.result.least ≡ least_stated (sheet_cells a.h a.grid.now)
    = c.extremes_of-extremes.ensures.0 ∙ ap least_stated cells in
    let greatest : c.extremes_of-extremes.result.greatest ≡ greatest_stated (sheet_cells a.h a.grid.now)
    = c.extremes_of-extremes.ensures.1 ∙ ap greatest_stated cells in
    let zero : c.write_zero.new.block
    ≡ zero_after a.template.now a.h c.extremes_of-extremes.result.least c.extremes_of-extremes.result.greatest c.columns-columns.result a.block.now
    = search rules in
    rw t
    (zero ∙ (λ j. zero_after a.template.now a.h (least j) (greatest j) (c.columns-columns.ensures j) a.block.now))
