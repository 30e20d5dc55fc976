-- Document 01, "Writing": the bytes of each block.
use Rattle.std.specs.Prelude.{ℕ, suc, ◌-◌, zero, ◌+◌, ◌*◌, ℤ, pos, ◌+ℤ◌, ◌*ℤ◌, List, [], ◌∷◌, ◌++◌, map, take, length, replicate, drop, cond, eqb}
use Rattle.laws.specs.Lists.{joined}
use Rattle.lattice.specs.Lattice.{lattice_of}
use Rattle.field.specs.Field.{stretch}
use Rattle.frame.specs.declared.Corner.{Corner}
use Rattle.frame.specs.declared.Header.{Header}
use Rattle.frame.specs.Frame.{cells_of, columns_of, west, east, south, north, z_of}
use Rattle.ground.specs.Extremes.{least_stated, greatest_stated}
use Rattle.spell.specs.Spell.{integer_text, real_text}
use Rattle.written.specs.Cells.{column_cells, first_row, cells_sent, post_of, start_sent, column_with}

-- ---- block 0

-- a stretch of block 0: kept from the template, from its first byte, or a number written anew
pub data Piece : Type 0 where
  keeps : ℕ → ℕ → Piece
  whole_sent : ℕ → Piece
  real_sent : ℤ → Piece
  spacing : ℕ → Piece

-- "Integers: ..", "Reals: .. 15 digits (6 in the spacings) .. D (E in the spacings)"
abbrev pub piece_text : List ℕ → Piece → List ℕ
piece_text template (keeps first width) = stretch first width template
piece_text template (whole_sent n) = integer_text 6 (pos n)
piece_text template (real_sent z) = real_text 15 68 24 z
piece_text template (spacing v) = real_text 6 69 12 (pos v)

abbrev pub corner_pieces : Corner → List Piece
corner_pieces c = real_sent c.x ∷ real_sent c.y ∷ []

-- the cells of the sheet
abbrev pub sheet_cells : Header → List ℤ → List ℤ
sheet_cells h grid = take (cells_of h) grid

-- block 0, piece by piece in the order of record A's table: its numbers spelled anew, by the extremes and the columns, accuracy 0;
-- its texts and the bytes 169-528 and 865-1024 as the template has them
unfoldable pub pieces_by : Header → ℤ → ℤ → ℕ → List Piece
pieces_by h least greatest columns =
    keeps 1 144
    ∷ whole_sent h.level
    ∷ whole_sent 1
    ∷ whole_sent h.system
    ∷ whole_sent h.zone
    ∷ keeps 169 360
    ∷ whole_sent h.ground
    ∷ whole_sent h.vertical
    ∷ whole_sent 4
    ∷ (corner_pieces h.sw
    ++ (corner_pieces h.nw
    ++ (corner_pieces h.ne
    ++ (corner_pieces h.se
    ++ (real_sent least
    ∷ real_sent greatest
    ∷ real_sent (pos 0)
    ∷ whole_sent 0
    ∷ spacing h.xstep
    ∷ spacing h.ystep
    ∷ spacing h.zstep
    ∷ whole_sent 1
    ∷ whole_sent columns
    ∷ keeps 865 160
    ∷ [])))))

abbrev pub pieces_a : Header → List ℤ → List Piece
pieces_a h grid = pieces_by h (least_stated (sheet_cells h grid)) (greatest_stated (sheet_cells h grid)) (columns_of h)

unfoldable pub block_zero : List ℕ → Header → List ℤ → List ℕ
block_zero template h grid = joined (map (piece_text template) (pieces_a h grid))

-- ---- the blocks of a profile

-- the place of its southern post, and its stated extremes
abbrev pub x_sent : Header → ℕ → ℤ
x_sent h c = ((lattice_of (west h) (east h) h.xstep).first +ℤ pos c) *ℤ pos h.xstep

abbrev pub y_of_row : Header → ℕ → ℤ
y_of_row h row = ((lattice_of (south h) (north h) h.ystep).first +ℤ pos row) *ℤ pos h.ystep

abbrev pub y_sent : Header → List ℤ → ℕ → ℤ
y_sent h grid c = y_of_row h (first_row (column_cells h grid c))

-- "datum zero"; the nine fields at the head of record B
abbrev pub head_text : Header → List ℤ → ℕ → List ℕ
head_text h grid c =
    integer_text 6 (pos 1)
    ++ (integer_text 6 (pos (suc c))
    ++ (integer_text 6 (pos (length (cells_sent h grid c)))
    ++ (integer_text 6 (pos 1)
    ++ (real_text 15 68 24 (x_sent h c)
    ++ (real_text 15 68 24 (y_sent h grid c)
    ++ (real_text 15 68 24 (pos 0)
    ++ (real_text 15 68 24 (least_stated (cells_sent h grid c)) ++ real_text 15 68 24 (greatest_stated (cells_sent h grid c)))))))))

unfoldable pub posts_text : ℕ → List ℤ → List ℕ
posts_text z [] = []
posts_text z (cell ∷ cells) = integer_text 6 (post_of z cell) ++ posts_text z cells

-- blank to the block's end
abbrev pub filled_up : List ℕ → List ℕ
filled_up text = text ++ replicate (1024 - length text) 32

-- the profile's k-th block, counted from 0
unfoldable pub profile_block : Header → List ℤ → ℕ → ℕ → List ℕ
profile_block h grid c zero = filled_up (head_text h grid c ++ posts_text (z_of h) (take 146 (cells_sent h grid c)))
profile_block h grid c (suc k) = filled_up (posts_text (z_of h) (take 170 (drop (146 + 170 * k) (cells_sent h grid c))))

-- any block of the sheet
unfoldable pub block_sent : List ℕ → Header → List ℤ → ℕ → List ℕ
block_sent template h grid number =
    let c = column_with h grid (columns_of h) number in
    cond (eqb number 0) (block_zero template h grid) (profile_block h grid c (number - start_sent h grid c))
