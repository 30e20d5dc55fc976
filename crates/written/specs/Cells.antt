-- Document 01, "Writing": the cells that can be sent, and each column as one profile.
use Rattle.std.specs.Prelude.{Bool, true, cond, false, ℕ, suc, ◌/◌, ◌%◌, ◌*◌, zero, ◌+◌, ℤ, pos, negsuc, nat_abs, leb, eqb, List, [], ◌∷◌, take, drop, length}
use Rattle.laws.specs.Sign.{◌and◌, same_z}
use Rattle.lattice.specs.Lattice.{multiple_of}
use Rattle.frame.specs.Frame.{rows_of, columns_of}
use Rattle.frame.specs.declared.Header.{Header}
use Rattle.ground.specs.Posts.{void, void_post, blocks_for}

-- ---- cells and posts; z is the z spacing in hundredths

-- "with quotient -32766 to 32767"
abbrev pub quotient_fits : ℕ → ℤ → Bool
quotient_fits z (pos n) = leb (n / z) 32767
quotient_fits z (negsuc n) = leb (suc n / z) 32766

-- "neither void nor a multiple of the z spacing with quotient .." is what cannot be sent
unfoldable pub can_send : ℕ → ℤ → Bool
can_send z cell = cond (same_z cell void) true (eqb (nat_abs cell % z) 0 and quotient_fits z cell)

-- "first cell of the sheet, in cell order": how many can be sent before the first that cannot
unfoldable pub sendable : ℕ → List ℤ → ℕ
sendable z [] = 0
sendable z (c ∷ cs) = cond (can_send z c) (suc (sendable z cs)) 0

-- "voids between as -32767"
unfoldable pub post_of : ℕ → ℤ → ℤ
post_of z cell = cond (same_z cell void) void_post (multiple_of cell z)

-- ---- columns

abbrev pub column_at : ℕ → List ℤ → ℕ → List ℤ
column_at rows grid c = take rows (drop (c * rows) grid)

abbrev pub column_cells : Header → List ℤ → ℕ → List ℤ
column_cells h grid c = column_at (rows_of h) grid c

-- how many voids stand before the first filled cell
unfoldable pub voids_before : List ℤ → ℕ
voids_before [] = 0
voids_before (c ∷ cs) = cond (same_z c void) (suc (voids_before cs)) 0

-- up to the last filled cell
abbrev pub is_none : List ℤ → Bool
is_none [] = true
is_none (c ∷ cs) = false

unfoldable pub up_to_last : List ℤ → List ℤ
up_to_last [] = []
up_to_last (c ∷ cs) = cond (same_z c void and is_none (up_to_last cs)) [] (c ∷ up_to_last cs)

-- "Each column is one profile": between its outermost filled rows; without any, a single void at row 0
unfoldable pub first_row : List ℤ → ℕ
first_row column = cond (is_none (up_to_last column)) 0 (voids_before column)

unfoldable pub profile_cells : List ℤ → List ℤ
profile_cells column = cond (is_none (up_to_last column)) (void ∷ []) (drop (voids_before column) (up_to_last column))

-- ---- blocks

-- the cells of column c's profile
abbrev pub cells_sent : Header → List ℤ → ℕ → List ℤ
cells_sent h grid c = profile_cells (column_cells h grid c)

-- the first block of column c's profile, and with c the columns, how many blocks there are
unfoldable pub start_at : ℕ → List ℤ → ℕ → ℕ
start_at rows grid zero = 1
start_at rows grid (suc c) = start_at rows grid c + blocks_for (length (profile_cells (column_at rows grid c)))

abbrev pub start_sent : Header → List ℤ → ℕ → ℕ
start_sent h grid c = start_at (rows_of h) grid c

abbrev pub block_count : Header → List ℤ → ℕ
block_count h grid = start_sent h grid (columns_of h)

-- the column whose profile has a block: of the first n, the last that starts not behind it
unfoldable pub column_for : ℕ → List ℤ → ℕ → ℕ → ℕ
column_for rows grid zero number = 0
column_for rows grid (suc c) number = cond (leb (start_at rows grid (suc c)) number) (suc c) (column_for rows grid c number)

abbrev pub column_with : Header → List ℤ → ℕ → ℕ → ℕ
column_with h grid n number = column_for (rows_of h) grid n number
