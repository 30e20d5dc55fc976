-- The profile's cells lent as they stand in the grid: BlockCells has the block.
use Rattle.std.proofs.Common.{ℕ, ◌≡◌, ◌+◌, ◌*◌, ◌∙◌, ap, arith}
use Rattle.frame.specs.Frame.{rows_of}
use Rattle.frame.specs.declared.Header.{Header}
use Rattle.paint.specs.Parts.{part_after}
use Rattle.send.proofs.BlockCells.{row_below, from-most, posts-room, all-cells, part-block}
use Rattle.send.proofs.one_block.write_profile_block.Goals as goal

from-is : (h : Header) (column row rows : ℕ) → rows ≡ rows_of h → column * rows + row ≡ column * rows_of h + row
from-is h column row rows e = ap (λ (n : ℕ). column * n + row) e

pub overflow_add-from : goal.overflow_add-from
overflow_add-from c =
    omega (arith, from-most c.requires, from-is c.args.h c.args.p.column c.args.p.row c.rows.result c.rows.ensures)

pub stake_of-requires : goal.stake_of-requires
stake_of-requires c = (c.requires.sheet.obeys, (c.requires.inside, row_below c.requires))

pub overflow_add-from-2 : goal.overflow_add-from-2
overflow_add-from-2 c =
    omega (arith, from-most c.requires, from-is c.args.h c.args.p.column c.args.p.row c.rows.result c.rows.ensures)

pub offset_bounds-grid-from : goal.offset_bounds-grid-from
offset_bounds-grid-from c =
    omega (arith, from-most c.requires, from-is c.args.h c.args.p.column c.args.p.row c.rows.result c.rows.ensures)

pub slice_bounds-write_part-end : goal.slice_bounds-write_part-end
slice_bounds-write_part-end c =
    omega (arith, posts-room c.requires, from-is c.args.h c.args.p.column c.args.p.row c.rows.result c.rows.ensures)

pub returns : goal.returns
returns c =
    let p = c.args.p in
    let from = p.column * c.rows.result + p.row in
    let cells = all-cells c.requires from (from-is c.args.h p.column p.row c.rows.result c.rows.ensures) in
    c.write_part.ensures
    ∙ (λ j. part_after (c.stake_of.ensures j) (cells j) c.args.k c.args.block.now)
    ∙ part-block c.requires
