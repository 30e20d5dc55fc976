-- The sheet by its columns, and the column of each block. Carried by: a column is rows cells of the grid, and starts rise.
use mathlib.Core.Bool.{true, false}
use mathlib.Core.List.{List, ◌++◌, map}
use mathlib.Core.Path.{◌≡◌, sym, ◌∙◌, ap, refl, ap₂}
use Prim.Native.Nat.{ℕ, zero, suc, ◌+◌, ◌*◌, ◌≤◌, ◌<◌, ◌-◌}
use native.Mathlib.Nat.{suc-mul, mul-le-mul_right, add-zero}
use native.Mathlib.Omega.{arith}
use lib.Arith.{digits_lt}
use lib.IntN.{ℤ, pos, ◌*ℤ◌}
use lib.ListN.{length, take, drop, get_or, length-drop}
use lib.Seq.{get_or-take, get_or-drop, take-add, drop-drop, length-take-le}
use borrow.Author.Tests.{eqb-true, eqb-false, leb-true, leb-false, le-leb, lt-leb, ltb-true, ltb-false}
use lib.Dec.{leb, ltb, eqb}
use Rattle.laws.specs.Lists.{from, below, joined}
use Rattle.laws.proofs.Tests.{by-test}
use Rattle.frame.specs.Frame.{columns_of, rows_of, cells_of}
use Rattle.frame.specs.declared.Header.{Header}
use Rattle.ground.specs.Posts.{void, blocks_for}
use Rattle.ground.specs.Extremes.{filled_only, least_of, greatest_of, least_stated, greatest_stated}
use Rattle.ground.proofs.Weights.{filled-parts}
use Rattle.written.specs.Cells.{can_send, sendable, column_cells, cells_sent, column_at, profile_cells, start_at, column_for}
use Rattle.written.specs.Blocks.{sheet_cells}
use Rattle.written.proofs.ColumnsSent.{each-sends, all-send, filled-sent}

-- ---- the cells of a column

module _ (h : Header) (grid : List ℤ) where
  -- n columns from column c on
  columns-joined : (c n : ℕ)
      → take (n * rows_of h) (drop (c * rows_of h) grid) ≡ joined (map (column_cells h grid) (from c n))
  columns-joined c zero = let e : 0 * rows_of h ≡ 0 = omega arith in rw e
  columns-joined c (suc n) =
      let m = rows_of h in
      let e : suc n * m ≡ m + n * m = omega (arith, suc-mul n m) in
      let next : c * m + m ≡ suc c * m = omega (arith, suc-mul c m) in
      ap (λ (k : ℕ). take k (drop (c * m) grid)) e
      ∙ take-add m (n * m) (drop (c * m) grid)
      ∙ ap (λ (l : List ℤ). column_cells h grid c ++ take (n * m) l) (drop-drop m (c * m) grid)
      ∙ ap (λ (k : ℕ). column_cells h grid c ++ take (n * m) (drop k grid)) next
      ∙ ap (λ (l : List ℤ). column_cells h grid c ++ l) (columns-joined (suc c) n)

  -- the sheet is its columns, one behind the other
  pub sheet-columns : sheet_cells h grid ≡ joined (map (column_cells h grid) (below (columns_of h)))
  sheet-columns =
      let e : 0 ≡ 0 * rows_of h = omega arith in
      ap (λ (k : ℕ). take (cells_of h) (drop k grid)) e ∙ columns-joined 0 (columns_of h)

  module _ (room : cells_of h ≤ length grid) (c : ℕ) (here : c < columns_of h) where
    column-room : c * rows_of h + rows_of h ≤ length grid
    column-room = omega (arith, mul-le-mul_right (rows_of h) here, suc-mul c (rows_of h), room)

    pub column-length : length (column_cells h grid c) ≡ rows_of h
    column-length =
        length-take-le (rows_of h) (drop (c * rows_of h) grid) (omega (arith, length-drop (c * rows_of h) grid, column-room))

  pub column-cell : (c r : ℕ) → r < rows_of h → get_or (column_cells h grid c) r void ≡ get_or grid (c * rows_of h + r) void
  column-cell c r k =
      get_or-take (rows_of h) (drop (c * rows_of h) grid) r void k ∙ get_or-drop (c * rows_of h) grid r void

  pub sheet-cell : (i : ℕ) → i < cells_of h → get_or (sheet_cells h grid) i void ≡ get_or grid i void
  sheet-cell i k = get_or-take (cells_of h) grid i void k

  module _ (room : cells_of h ≤ length grid) where
    pub sheet-length : length (sheet_cells h grid) ≡ cells_of h
    sheet-length = length-take-le (cells_of h) grid room

    module _ (z : ℕ) (all : sendable z (sheet_cells h grid) ≡ cells_of h) where
      -- each cell of the sheet can be sent
      pub cell-sends : (i : ℕ) → i < cells_of h → can_send z (get_or grid i void) ≡ true
      cell-sends i k =
          ap (can_send z) (sym (sheet-cell i k))
          ∙ each-sends z (sheet_cells h grid) (all ∙ sym sheet-length) i (omega (arith, k, sheet-length))

      pub column-sendable : (c : ℕ) → c < columns_of h → sendable z (column_cells h grid c) ≡ rows_of h
      column-sendable c here =
          let long = column-length room c here in
          all-send z (column_cells h grid c)
          (λ r k.
          let row : r < rows_of h = omega (arith, k, long) in
          ap (can_send z) (column-cell c r row) ∙ cell-sends (c * rows_of h + r) (digits_lt here row))
          ∙ long

-- ---- what is filled

filled-joined : (f g : ℕ → List ℤ) → ((i : ℕ) → filled_only (f i) ≡ filled_only (g i))
    → (a n : ℕ) → filled_only (joined (map f (from a n))) ≡ filled_only (joined (map g (from a n)))
filled-joined f g h a zero = refl
filled-joined f g h a (suc n) =
    filled-parts (f a) (joined (map f (from (suc a) n)))
    ∙ ap₂ (λ (xs ys : List ℤ). xs ++ ys) (h a) (filled-joined f g h (suc a) n)
    ∙ sym (filled-parts (g a) (joined (map g (from (suc a) n))))

module _ (h : Header) (grid : List ℤ) where
  -- the profiles sent hold all that is filled in the sheet, in its order
  pub filled-sheet : filled_only (joined (map (cells_sent h grid) (below (columns_of h)))) ≡ filled_only (sheet_cells h grid)
  filled-sheet =
      filled-joined (cells_sent h grid) (column_cells h grid) (λ c. filled-sent (column_cells h grid c)) 0 (columns_of h)
      ∙ ap filled_only (sym (sheet-columns h grid))

  pub least-sheet : least_stated (joined (map (cells_sent h grid) (below (columns_of h)))) ≡ least_stated (sheet_cells h grid)
  least-sheet = ap (λ (l : List ℤ). least_of l *ℤ pos 10000000) filled-sheet

  pub greatest-sheet : greatest_stated (joined (map (cells_sent h grid) (below (columns_of h)))) ≡ greatest_stated (sheet_cells h grid)
  greatest-sheet = ap (λ (l : List ℤ). greatest_of l *ℤ pos 10000000) filled-sheet

-- ---- where the columns' profiles start

module _ (rows : ℕ) (grid : List ℤ) where
  pub first-start : start_at rows grid 0 ≡ 1
  unfolding start_at
  first-start = refl

  pub start-next : (c : ℕ) → start_at rows grid (suc c) ≡ start_at rows grid c + blocks_for (length (profile_cells (column_at rows grid c)))
  unfolding start_at
  start-next c = refl

  pub start-before : (c : ℕ) → start_at rows grid c < start_at rows grid (suc c)
  start-before c = omega (arith, start-next c)

  start-rises : (c d : ℕ) → start_at rows grid c + d ≤ start_at rows grid (c + d)
  start-rises c zero = rw (add-zero c) (omega arith)
  start-rises c (suc d) =
      let e : c + suc d ≡ suc (c + d) = omega arith in
      rw e (omega (arith, start-rises c d, start-before (c + d)))

  pub start-order : (i j : ℕ) → i ≤ j → start_at rows grid i + (j - i) ≤ start_at rows grid j
  start-order i j k =
      let e : i + (j - i) ≡ j = omega (arith, k) in
      let r = start-rises i (j - i) in rw e at r

  pub start-from : (c : ℕ) → 1 + c ≤ start_at rows grid c
  start-from c = omega (arith, start-order 0 c (omega arith), first-start)

  -- ---- the column that a block belongs to

  with-here : (n number : ℕ) → leb (start_at rows grid (suc n)) number ≡ true → column_for rows grid (suc n) number ≡ suc n
  unfolding column_for
  with-here n number e = rw e

  with-before : (n number : ℕ) → leb (start_at rows grid (suc n)) number ≡ false
      → column_for rows grid (suc n) number ≡ column_for rows grid n number
  unfolding column_for
  with-before n number e = rw e

  with_none : (number : ℕ) → column_for rows grid 0 number ≡ 0
  unfolding column_for
  with_none number = refl

  column-among : (n c number : ℕ) → c ≤ n → start_at rows grid c ≤ number → number < start_at rows grid (suc c)
      → column_for rows grid n number ≡ c
  column-among zero c number le from to = with_none number ∙ (omega (arith, le))
  column-among (suc n) c number le from to =
      by-test (eqb c (suc n))
      (λ e.
      let same = eqb-true c (suc n) e in
      let reached : start_at rows grid (suc n) ≤ number = rw same at from in
      with-here n number (le-leb (start_at rows grid (suc n)) number reached) ∙ sym same)
      (λ e.
      let less : c ≤ n = omega (arith, le, eqb-false c (suc n) e) in
      let past = start-order (suc c) (suc n) (omega (arith, less)) in
      with-before n number (lt-leb (start_at rows grid (suc n)) number (omega (arith, to, past)))
      ∙ column-among n c number less from to)

  -- a block from one column's start to the next's belongs to that column
  pub column-with : (n c number : ℕ) → c < n → start_at rows grid c ≤ number → number < start_at rows grid (suc c)
      → column_for rows grid n number ≡ c
  column-with n c number lt from to = column-among n c number (omega (arith, lt)) from to

  with-most : (n number : ℕ) → column_for rows grid n number ≤ n
  with-most zero number = omega (arith, with_none number)
  with-most (suc n) number =
      by-test (leb (start_at rows grid (suc n)) number) (λ e. omega (arith, with-here n number e))
      (λ e. omega (arith, with-before n number e, with-most n number))

  pub with-start : (n number : ℕ) → 1 ≤ number → start_at rows grid (column_for rows grid n number) ≤ number
  with-start zero number some = rw (with_none number) (omega (arith, some, first-start))
  with-start (suc n) number some =
      by-test (leb (start_at rows grid (suc n)) number)
      (λ e. rw (with-here n number e) (leb-true (start_at rows grid (suc n)) number e))
      (λ e. rw (with-before n number e) (with-start n number some))

  -- and ends before the next column's start
  with-next : (n number : ℕ) → number < start_at rows grid (suc n) → number < start_at rows grid (suc (column_for rows grid n number))
  with-next zero number to = rw (with_none number) to
  with-next (suc n) number to =
      by-test (leb (start_at rows grid (suc n)) number) (λ e. rw (with-here n number e) to)
      (λ e. rw (with-before n number e) (with-next n number (leb-false (start_at rows grid (suc n)) number e)))

  pub with-end : (n number : ℕ) → number < start_at rows grid n → number < start_at rows grid (suc (column_for rows grid n number))
  with-end n number within = with-next n number (omega (arith, within, start-before n))

  -- a block behind block 0 and before the end belongs to one of the columns
  pub with-below : (n number : ℕ) → 1 ≤ number → number < start_at rows grid n → column_for rows grid n number < n
  with-below n number some within =
      by-test (ltb (column_for rows grid n number) n) (ltb-true (column_for rows grid n number) n)
      (λ t.
      let all : column_for rows grid n number ≡ n = omega (arith, ltb-false (column_for rows grid n number) n t, with-most n number) in
      let reached = with-start n number some in
      let past : start_at rows grid n ≤ number = rw all at reached in
      absurd (omega (arith, past, within)))
