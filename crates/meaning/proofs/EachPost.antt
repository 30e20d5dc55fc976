-- Each post has a cell of its own, the rest of the sheet is void, and past it all is as lent. Taking a cell's number apart carries it.
use mathlib.Core.List.{map, List, ◌++◌}
use mathlib.Core.Path.{◌≡◌, sym, ◌∙◌, ap, ap₂}
use Prim.Native.Nat.{ℕ, zero, suc, ◌+◌, ◌<◌, ◌-◌, ◌≤◌, ◌*◌, ◌/◌, ◌%◌}
use native.Mathlib.Nat.{add-zero, div-add-mod'}
use native.Mathlib.Omega.{arith}
use lib.ListN.{get_or, length, drop, length-map, length-append, length-drop, get_or-append}
use mathlib.Core.Bool.{true}
use borrow.Author.Tests.{leb-true, ltb-true, le-leb, lt-ltb, ltb-false, ne_eqb, eq-eqb, eqb-false}
use lib.Dec.{leb, ltb, eqb}
use lib.IntN.{ℤ}
use lib.Seq.{get_or-append-add, get_or-drop, drop_at}
use lib.Arith.{digits_lt, digits_div, digits_mod}
use Rattle.ground.specs.Blocks.{blocks_in}
use Rattle.laws.specs.Lists.{from, below}
use Rattle.laws.proofs.Tests.{and_first, and_second, by-test}
use Rattle.laws.proofs.Lists.{from-length}
use Rattle.ground.specs.Posts.{void}
use Rattle.meaning.specs.Text.{profiles_in, posts_in, column_in, row_in, profile_at, post_stands, value_at, height_in, start_of, head_in, cells_in, cell_in, columns_in, rows_in, cell_of_post}
use Rattle.meaning.specs.Means.{grid_of}
use Rattle.meaning.specs.Rules.{first_breach}
use Rattle.meaning.proofs.Starts.{none_yet}
use Rattle.meaning.proofs.Placed.{PlacedAt, placed_at}

-- one of the values from a on
pub map_at : {A : Type 0} (f : ℕ → A) (a n i : ℕ) (d : A) → i < n → get_or (map f (from a n)) i d ≡ f (a + i)
map_at f a zero i d h = absurd (omega (arith, h))
map_at f a (suc n) zero d h = ap f (sym (add-zero a))
map_at f a (suc n) (suc i) d h =
    let e : suc a + i ≡ a + suc i = omega arith in map_at f (suc a) n i d (omega (arith, h)) ∙ ap f e

-- ---- the post that stands at a column and a row

pub record StandsFor (text : List ℕ) (column row j i : ℕ) : Type 0 where
  pub column-is : column ≡ column_in text 0 + j
  pub row_is : row ≡ row_in text j + i
  pub profile : j < profiles_in text
  pub post : i < posts_in text j

-- the post of a column and a row where one stands
pub stands-for : (text : List ℕ) (column row : ℕ) → post_stands text column row ≡ true
    → StandsFor text column row (profile_at text column) (row - row_in text (profile_at text column))
stands-for text column row t =
    let p = profile_at text column in
    let west = and_first (leb (column_in text 0) column) _ t in
    let a = and_second (leb (column_in text 0) column) _ t in
    let profile = and_first (ltb p (profiles_in text)) _ a in
    let b = and_second (ltb p (profiles_in text)) _ a in
    let south = and_first (leb (row_in text p) row) _ b in
    let c = and_second (leb (row_in text p) row) _ b in
    record {
      column-is = omega (arith, leb-true (column_in text 0) column west);
      row_is = omega (arith, leb-true (row_in text p) row south);
      profile = ltb-true p (profiles_in text) profile;
      post = ltb-true (row - row_in text p) (posts_in text p) c;
    }

pub value-void : (text : List ℕ) (column row : ℕ) → (post_stands text column row ≡ true → ⊥) → value_at text column row ≡ void
value-void text column row empty = by-test (post_stands text column row) (λ e. absurd (empty e)) (λ e. rw e)

-- the value where a post stands is its height
pub value-of-post : (text : List ℕ) (j i : ℕ) → j < profiles_in text → i < posts_in text j
    → value_at text (column_in text 0 + j) (row_in text j + i) ≡ height_in text j i
value-of-post text j i h k =
    let e : column_in text 0 + j - column_in text 0 ≡ j = omega arith in
    let f : row_in text j + i - row_in text j ≡ i = omega arith in
    let west = le-leb (column_in text 0) (column_in text 0 + j) (omega arith) in
    let south = le-leb (row_in text j) (row_in text j + i) (omega arith) in
    rw (e, f, west, lt-ltb j (profiles_in text) h, south, lt-ltb i (posts_in text j) k)

-- a profile with a post has begun
pub begun-with : (text : List ℕ) (j i : ℕ) → i < posts_in text j → start_of text j < blocks_in text
begun-with text j i h =
    by-test (ltb (start_of text j) (blocks_in text)) (ltb-true (start_of text j) (blocks_in text))
    (λ e.
    let none = none_yet text j (ltb-false (start_of text j) (blocks_in text) e) in
    absurd (omega (arith, h, none)))

pub posts-most : (text : List ℕ) (j : ℕ) → posts_in text j ≤ (head_in text j).posts
posts-most text j = omega arith

-- ---- the grid, once block 0 is there

module _ (text : List ℕ) (lent : List ℤ) where
  pub sheet-length : length (map (cell_in text) (below (cells_in text))) ≡ cells_in text
  sheet-length = length-map (below (cells_in text)) (cell_in text) ∙ from-length 0 (cells_in text)

  pub begun-grid : 1 ≤ blocks_in text → grid_of text lent ≡ map (cell_in text) (below (cells_in text)) ++ drop (cells_in text) lent
  begun-grid h = rw (ne_eqb (blocks_in text) 0 (λ e. omega (arith, h, e)))

  pub grid-cell : (c : ℕ) → 1 ≤ blocks_in text → c < cells_in text → get_or (grid_of text lent) c void ≡ cell_in text c
  grid-cell c h k =
      let in-front : c < length (map (cell_in text) (below (cells_in text))) = rw sheet-length k in
      let plus : 0 + c ≡ c = omega arith in
      ap (λ (g : List ℤ). get_or g c void) (begun-grid h)
      ∙ get_or-append (map (cell_in text) (below (cells_in text))) (drop (cells_in text) lent) void c in-front
      ∙ map_at (cell_in text) 0 (cells_in text) c void k
      ∙ ap (cell_in text) plus

  -- Before block 0 is taken, the grid is as lent.
  pub lent-until-block-0 : blocks_in text ≡ 0 → grid_of text lent ≡ lent
  lent-until-block-0 h = rw (eq-eqb (blocks_in text) 0 h)

  -- The cells past the sheet are as lent.
  pub past-the-sheet : 1 ≤ blocks_in text → drop (cells_in text) (grid_of text lent) ≡ drop (cells_in text) lent
  past-the-sheet some =
      ap (drop (cells_in text)) (begun-grid some)
      ∙ drop_at (map (cell_in text) (below (cells_in text))) (drop (cells_in text) lent) (cells_in text) sheet-length

  -- one of them
  pub past-cell : (c : ℕ) → cells_in text ≤ c → get_or (grid_of text lent) c void ≡ get_or lent c void
  past-cell c h =
      by-test (eqb (blocks_in text) 0) (λ e. rw e)
      (λ e.
      let sheet = map (cell_in text) (below (cells_in text)) in
      let at : c ≡ length sheet + (c - cells_in text) = omega (arith, h, sheet-length) in
      let back : cells_in text + (c - cells_in text) ≡ c = omega (arith, h) in
      let grid : grid_of text lent ≡ sheet ++ drop (cells_in text) lent = rw e in
      ap₂ (λ (g : List ℤ) (k : ℕ). get_or g k void) grid at
      ∙ get_or-append-add sheet (drop (cells_in text) lent) (c - cells_in text) void
      ∙ get_or-drop (cells_in text) lent (c - cells_in text) void
      ∙ ap (λ (k : ℕ). get_or lent k void) back)

  -- The grid is as long as the one lent, where the sheet has room in that.
  pub grid-length : cells_in text ≤ length lent → length (grid_of text lent) ≡ length lent
  grid-length h =
      by-test (eqb (blocks_in text) 0) (λ e. rw e)
      (λ e.
      let sheet = map (cell_in text) (below (cells_in text)) in
      let grid : grid_of text lent ≡ sheet ++ drop (cells_in text) lent = rw e in
      let sum = length-append sheet (drop (cells_in text) lent) in
      ap length grid ∙ (omega (arith, h, sum, sheet-length, length-drop (cells_in text) lent)))

  -- So long as the sheet, if there is one, has room in what is lent, no cell is added or lost.
  pub length-kept : (1 ≤ blocks_in text → cells_in text ≤ length lent) → length (grid_of text lent) ≡ length lent
  length-kept room =
      by-test (eqb (blocks_in text) 0) (λ e. rw e)
      (λ e. grid-length (room (let n = eqb-false (blocks_in text) 0 e in omega (arith, n))))

-- ---- posts and cells

module _ (family : ℕ) (text : List ℕ) (kept : (first_breach family text).kind ≡ 0) where
  post-placed : (j i : ℕ) → j < profiles_in text → i < posts_in text j → PlacedAt text j
  post-placed j i h k = placed_at family text kept j h (begun-with text j i k)

  post-row : (j i : ℕ) → j < profiles_in text → i < posts_in text j → row_in text j + i < rows_in text
  post-row j i h k = let p = post-placed j i h k in omega (arith, p.row_room, posts-most text j, k)

  post-column : (j i : ℕ) → j < profiles_in text → i < posts_in text j → column_in text j < columns_in text
  post-column j i h k = let p = post-placed j i h k in omega (arith, p.column, p.room, h)

  cell-column : (j i : ℕ) → j < profiles_in text → i < posts_in text j → cell_of_post text j i / rows_in text ≡ column_in text j
  cell-column j i h k = digits_div (column_in text j) (post-row j i h k)

  cell_row : (j i : ℕ) → j < profiles_in text → i < posts_in text j → cell_of_post text j i % rows_in text ≡ row_in text j + i
  cell_row j i h k = digits_mod (column_in text j) (post-row j i h k)

  -- Every post of the text stands for a cell of the sheet.
  pub post-in-sheet : (j i : ℕ) → j < profiles_in text → i < posts_in text j → cell_of_post text j i < cells_in text
  post-in-sheet j i h k = digits_lt (post-column j i h k) (post-row j i h k)

  -- The cell that a post stands for holds its height.
  pub post-in-its-cell : (lent : List ℤ) (j i : ℕ) → j < profiles_in text → i < posts_in text j
      → get_or (grid_of text lent) (cell_of_post text j i) void ≡ height_in text j i
  post-in-its-cell lent j i h k =
      let some : 1 ≤ blocks_in text = omega (arith, begun-with text j i k) in
      grid-cell text lent (cell_of_post text j i) some (post-in-sheet j i h k)
      ∙ ap₂ (value_at text) (cell-column j i h k ∙ (post-placed j i h k).column) (cell_row j i h k)
      ∙ value-of-post text j i h k

  -- No two posts stand for one cell.
  pub no-two-posts : (j i j' i' : ℕ) → j < profiles_in text → i < posts_in text j → j' < profiles_in text → i' < posts_in text j'
      → cell_of_post text j i ≡ cell_of_post text j' i' → (j ≡ j') × (i ≡ i')
  no-two-posts j i j' i' h k h' k' e =
      let columns : column_in text j ≡ column_in text j' =
      sym (cell-column j i h k) ∙ ap (λ (c : ℕ). c / rows_in text) e ∙ cell-column j' i' h' k'
      in
      let rows : row_in text j + i ≡ row_in text j' + i' =
      sym (cell_row j i h k) ∙ ap (λ (c : ℕ). c % rows_in text) e ∙ cell_row j' i' h' k'
      in
      let p = post-placed j i h k in
      let p' = post-placed j' i' h' k' in
      let same : j ≡ j' = omega (arith, columns, p.column, p'.column) in
      let south : row_in text j ≡ row_in text j' = ap (row_in text) same in
      (same, omega (arith, rows, south))

  -- A cell of the sheet that no post stands for is void.
  pub other-cells-void : (lent : List ℤ) (c : ℕ) → 1 ≤ blocks_in text → c < cells_in text
      → ((j i : ℕ) → j < profiles_in text → i < posts_in text j → cell_of_post text j i ≡ c → ⊥)
      → get_or (grid_of text lent) c void ≡ void
  other-cells-void lent c some h empty =
      grid-cell text lent c some h
      ∙ value-void text (c / rows_in text) (c % rows_in text)
      (λ t.
      let j = profile_at text (c / rows_in text) in
      let i = c % rows_in text - row_in text j in
      let s = stands-for text (c / rows_in text) (c % rows_in text) t in
      let p = post-placed j i s.profile s.post in
      let column : column_in text j ≡ c / rows_in text = p.column ∙ sym s.column-is in
      let cell : cell_of_post text j i ≡ c =
      ap₂ (λ (x y : ℕ). x * rows_in text + y) column (sym s.row_is) ∙ div-add-mod' c (rows_in text)
      in
      empty j i s.profile s.post cell)
