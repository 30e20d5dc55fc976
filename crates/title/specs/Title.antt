-- Block 0 painted: each piece of it as a field. For any block and template.
use Rattle.std.specs.Prelude.{List, map, ℕ, ℤ, pos, length, cond, eqb, leb}
use Rattle.laws.specs.Sign.{◌and◌}
use Rattle.field.specs.Field.{stretch}
use Rattle.frame.specs.declared.Header.{Header}
use Rattle.frame.specs.Frame.{cells_of, columns_of}
use Rattle.ground.specs.Extremes.{least_stated, greatest_stated}
use Rattle.written.specs.Blocks.{Piece, pieces_by, sheet_cells}
use Rattle.written.specs.Blocks.Piece.{keeps, whole_sent, real_sent, spacing}
use Rattle.written.specs.Painted.{Field, painted}
use Rattle.written.specs.Painted.Field.{text, integer, decimal, step}

abbrev pub field_of : List ℕ → Piece → Field
field_of template (keeps first width) = text (stretch first width template)
field_of template (whole_sent n) = integer (pos n)
field_of template (real_sent z) = decimal z
field_of template (spacing v) = step (pos v)

abbrev pub zero_fields : List ℕ → Header → ℤ → ℤ → ℕ → List Field
zero_fields template h least greatest columns = map (field_of template) (pieces_by h least greatest columns)

-- where template or block is no block, it stays as it was
unfoldable pub zero_after : List ℕ → Header → ℤ → ℤ → ℕ → List ℕ → List ℕ
zero_after template h least greatest columns block =
    cond (eqb (length template) 1024 and eqb (length block) 1024) (painted (zero_fields template h least greatest columns) block) block

-- with the columns and the extremes of a sheet; where the grid has not its cells, the block stays as it was
unfoldable pub title_after : List ℕ → Header → List ℤ → List ℕ → List ℕ
title_after template h grid block =
    cond (leb (cells_of h) (length grid))
    (zero_after template h (least_stated (sheet_cells h grid)) (greatest_stated (sheet_cells h grid)) (columns_of h) block)
    block
