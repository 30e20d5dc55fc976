-- What a walk along the columns keeps: sums stay small, and the first column that does not end before a block has it. And what is
-- answered of a sheet that obeys record A, in a grid that has its cells.
use mathlib.Core.Bool.{true}
use mathlib.Core.List.{List}
use mathlib.Core.Path.{◌≡◌}
use Prim.Native.Nat.{ℕ, ◌≤◌, ◌+◌, zero, suc, ◌*◌, ◌<◌}
use native.Mathlib.Nat.{suc-mul, mul-le-mul_right}
use native.Mathlib.Numerals.{add-one}
use native.Mathlib.Omega.{arith}
use borrow.Author.Tests.{leb-true, le-leb, lt-ltb, le-ltb}
use lib.Dec.{leb, ltb}
use lib.IntN.{ℤ}
use lib.ListN.{length, drop, length-take, length-drop}
use Rattle.laws.proofs.Tests.{split, and_both}
use Rattle.frame.specs.Frame.{columns_of, rows_of, cells_of}
use Rattle.frame.specs.declared.Header.{Header}
use Rattle.heading.specs.Heading.{header_obeys}
use Rattle.heading.proofs.HeadingFacts.{header-facts}
use Rattle.ground.specs.Posts.{blocks_for}
use Rattle.written.specs.Cells.{column_at, profile_cells, start_at, first_row, column_for, column_with, block_count}
use Rattle.written.proofs.SheetSent.{start-next, start-order, first-start, column-with}
use Rattle.written.proofs.ColumnsSent.{cells-most}
use Rattle.census.specs.Census.{fits, counted, profile_of, column_by, found_at, no_column, searched, found_by}
use Rattle.census.specs.declared.Found.{Found}

-- ---- sizes that fit

pub record Sizes (columns rows : ℕ) (grid : List ℤ) : Type 0 where
  pub columns-most : columns ≤ 2048
  pub rows-most : rows ≤ 2048
  pub cells-there : columns * rows ≤ length grid

pub sizes : (columns rows : ℕ) (grid : List ℤ) → fits columns rows grid ≡ true → Sizes columns rows grid
sizes columns rows grid t =
    let a = split (leb columns 2048) _ t in
    let b = split (leb rows 2048) _ a.1 in
    record {
      columns-most = leb-true columns 2048 a.0;
      rows-most = leb-true rows 2048 b.0;
      cells-there = leb-true (columns * rows) (length grid) b.1;
    }

-- ---- the blocks of the columns

blocks-most : (posts : ℕ) → posts ≤ 2049 → blocks_for posts ≤ 13
blocks-most posts h = omega arith

pub start-more : (rows : ℕ) (grid : List ℤ) (c start posts : ℕ) → start ≡ start_at rows grid c
    → posts ≡ length (profile_cells (column_at rows grid c)) → start + blocks_for posts ≡ start_at rows grid (c + 1)
start-more rows grid c start posts e f = rw (add-one c, start-next rows grid c, e, f)

module _ {columns rows : ℕ} {grid : List ℤ} (s : Sizes columns rows grid) where
  module _ (c : ℕ) (h : c < columns) where
    pub column-room : c * rows + rows ≤ length grid
    column-room = omega (arith, mul-le-mul_right rows h, suc-mul c rows, s.cells-there)

    column-long : length (column_at rows grid c) ≡ rows
    column-long = omega (arith, length-take rows (drop (c * rows) grid), length-drop (c * rows) grid, column-room)

    posts-most : length (profile_cells (column_at rows grid c)) ≤ 2049
    posts-most = omega (arith, cells-most (column_at rows grid c), column-long, s.rows-most)

  pub start-most : (c : ℕ) → c ≤ columns → start_at rows grid c ≤ 1 + 13 * c
  start-most zero h = omega (arith, first-start rows grid)
  start-most (suc c) h =
      omega
      (arith, start-most c (omega arith), start-next rows grid c, blocks-most (length (profile_cells (column_at rows grid c))) (posts-most c h))

  -- the code's sums stay small
  pub next-most : (c start posts : ℕ) → c < columns → start ≡ start_at rows grid c → posts ≡ length (profile_cells (column_at rows grid c))
      → start + blocks_for posts ≤ 26637
  next-most c start posts h e f =
      omega
      (arith, start-most c (omega arith), e, s.columns-most, blocks-most posts (rw f (posts-most c h)))

-- ---- the column that has a block

module _ (columns rows : ℕ) (grid : List ℤ) (number : ℕ) where
  -- the first that does not end before it
  pub found : (c start row posts : ℕ) → c < columns → start ≡ start_at rows grid c → row ≡ first_row (column_at rows grid c)
      → posts ≡ length (profile_cells (column_at rows grid c)) → start ≤ number → number < start + blocks_for posts
      → ◌≡◌ {A = Found} (record { column = c; start = start; row = row; posts = posts }) (searched columns rows grid number)
  unfolding searched
  found c start row posts h e f g from to =
      let next : number < start_at rows grid (suc c) = rw (start-next rows grid c, ← e, ← g) to in
      let below : ltb number (start_at rows grid columns) ≡ true
      = lt-ltb number (start_at rows grid columns) (omega (arith, next, start-order rows grid (suc c) columns h)) in
      let here : column_for rows grid columns number ≡ c = column-with rows grid columns c number h (rw e at from) next in
      rw (below, here) (λ i. record { column = c; start = e i; row = f i; posts = g i })

  -- they all do
  pub none_found : start_at rows grid columns ≤ number → no_column ≡ searched columns rows grid number
  unfolding searched
  none_found h = rw (le-ltb number (start_at rows grid columns) h)

-- ---- a sheet that obeys record A, in a grid that has its cells

module _ (h : Header) (grid : List ℤ) (obeys : header_obeys h ≡ true) (room : cells_of h ≤ length grid) where
  pub sheet-sizes : Sizes (columns_of h) (rows_of h) grid
  sheet-sizes =
      let f = header-facts h obeys in
      record { columns-most = f.columns.1; rows-most = f.rows.1; cells-there = room }

  sheet-fits : fits (columns_of h) (rows_of h) grid ≡ true
  sheet-fits =
      let s = sheet-sizes in
      and_both (le-leb (columns_of h) 2048 s.columns-most)
      (and_both (le-leb (rows_of h) 2048 s.rows-most) (le-leb (cells_of h) (length grid) s.cells-there))

  pub sheet-counted : counted h grid ≡ block_count h grid
  sheet-counted = rw sheet-fits

  pub sheet-column : (c : ℕ) → c < columns_of h → column_by h grid c ≡ profile_of (column_at (rows_of h) grid c)
  sheet-column c k =
      let s = sheet-sizes in
      let t : fits (suc c) (rows_of h) grid ≡ true
      = and_both (le-leb (suc c) 2048 (omega (arith, k, s.columns-most)))
      (and_both (le-leb (rows_of h) 2048 s.rows-most)
      (le-leb (suc c * rows_of h) (length grid) (omega (arith, suc-mul c (rows_of h), column-room s c k)))) in
      rw t

  pub sheet-found : (number : ℕ) → 1 ≤ number → number < block_count h grid
      → found_by h grid number ≡ found_at (rows_of h) grid (column_with h grid (columns_of h) number)
  unfolding searched
  sheet-found number some below =
      rw (lt-ltb 0 number some, sheet-fits, lt-ltb number (block_count h grid) below)
