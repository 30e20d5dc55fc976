-- The blocks of a sheet's columns, counted and found. For any header and grid: where the grid does not fit, all that is answered is zero.
use Rattle.std.specs.Prelude.{Bool, cond, List, ℕ, suc, ◌*◌, leb, ltb, ℤ, length}
use Rattle.laws.specs.Sign.{◌and◌}
use Rattle.frame.specs.declared.Header.{Header}
use Rattle.frame.specs.Frame.{columns_of, rows_of}
use Rattle.written.specs.Cells.{column_at, first_row, profile_cells, start_at, column_for, block_count}
use Rattle.columns.specs.declared.Column.{Column}
use Rattle.census.specs.declared.Found.{Found}

-- no more columns and rows than record A allows, in a grid that has the cells
abbrev pub fits : ℕ → ℕ → List ℤ → Bool
fits columns rows grid = leb columns 2048 and leb rows 2048 and leb (columns * rows) (length grid)

-- how many blocks there are
abbrev pub counted : Header → List ℤ → ℕ
counted h grid = cond (fits (columns_of h) (rows_of h) grid) (block_count h grid) 0

-- ---- a column's profile

abbrev pub profile_of : List ℤ → Column
profile_of column = record { row = first_row column; posts = length (profile_cells column) }

abbrev pub column_by : Header → List ℤ → ℕ → Column
column_by h grid c = cond (fits (suc c) (rows_of h) grid) (profile_of (column_at (rows_of h) grid c)) (record { row = 0; posts = 0 })

-- ---- the column that has a block

abbrev pub found_at : ℕ → List ℤ → ℕ → Found
found_at rows grid c =
    let p = profile_of (column_at rows grid c) in
    record { column = c; start = start_at rows grid c; row = p.row; posts = p.posts }

abbrev pub no_column : Found
no_column = record { column = 0; start = 0; row = 0; posts = 0 }

-- among the first so many
unfoldable pub searched : ℕ → ℕ → List ℤ → ℕ → Found
searched columns rows grid number =
    cond (ltb number (start_at rows grid columns)) (found_at rows grid (column_for rows grid columns number)) no_column

-- block 0 has none
abbrev pub found_by : Header → List ℤ → ℕ → Found
found_by h grid number =
    cond (ltb 0 number and fits (columns_of h) (rows_of h) grid) (searched (columns_of h) (rows_of h) grid number) no_column
