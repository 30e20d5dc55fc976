-- The cells of the sheet weigh what the posts of the text do, by any weight of a filled height: as many are filled, and they have the same
-- sum. A column's cells are its profile's posts, and the columns are the sheet.
use mathlib.Core.List.{map, List}
use mathlib.Core.Path.{◌≡◌, sym, ◌∙◌, ap, ap₂, refl}
use Prim.Native.Nat.{ℕ, zero, suc, ◌+◌, ◌<◌, ◌-◌, ◌≤◌, ◌*◌}
use native.Mathlib.Nat.{add-zero, suc-mul}
use native.Mathlib.Omega.{arith}
use lib.ListN.{drop, take}
use mathlib.Core.Bool.{true, false}
use borrow.Author.Tests.{ltb-true, ltb-false}
use lib.Dec.{ltb}
use lib.IntN.{ℤ}
use lib.Seq.{take_at}
use lib.Arith.{digits_div, digits_mod}
use Rattle.laws.specs.Lists.{from, below, joined}
use Rattle.laws.proofs.Integers.{above, below as under}
use Rattle.laws.proofs.Tests.{by-test}
use Rattle.ground.specs.Blocks.{blocks_in}
use Rattle.ground.specs.Posts.{filled_in}
use Rattle.ground.specs.Extremes.{filled_only, sum_of}
use Rattle.ground.proofs.Weights.{weight, weighed, weighed-append, filled-weighed, same_sum}
use Rattle.meaning.specs.Text.{profiles_in, posts_in, column_in, row_in, profile_at, post_stands, value_at, height_in, start_of, cells_in, cell_in, columns_in, rows_in, heights_in, all_heights}
use Rattle.meaning.specs.Means.{grid_of}
use Rattle.meaning.specs.Rules.{first_breach}
use Rattle.meaning.proofs.Starts.{none_yet, start-order}
use Rattle.meaning.proofs.Placed.{placed_at, some-profiles}
use Rattle.meaning.proofs.EachPost.{stands-for, value-void, value-of-post, posts-most, sheet-length, begun-grid}

-- ---- terms added up

-- f a + f (a + 1) + .., n terms
abbrev total : (ℕ → ℕ) → ℕ → ℕ → ℕ
total f a zero = 0
total f a (suc n) = f a + total f (suc a) n

total-parts : (f : ℕ → ℕ) (a m n : ℕ) → total f a (m + n) ≡ total f a m + total f (a + m) n
total-parts f a zero n =
    let e : 0 + n ≡ n = omega arith in
    rw (e, add-zero a) (omega arith)
total-parts f a (suc m) n =
    let e : suc m + n ≡ suc (m + n) = omega arith in
    let k : a + suc m ≡ suc a + m = omega arith in
    rw (e, k) (omega (arith, total-parts f (suc a) m n))

total-same : (f g : ℕ → ℕ) (a b n : ℕ) → ((i : ℕ) → i < n → f (a + i) ≡ g (b + i)) → total f a n ≡ total g b n
total-same f g a b zero h = refl
total-same f g a b (suc n) h =
    let x : f a ≡ g b = ap f (sym (add-zero a)) ∙ h 0 (omega arith) ∙ ap g (add-zero b) in
    let rest =
    total-same f g (suc a) (suc b) n
    (λ i p.
    let u : suc a + i ≡ a + suc i = omega arith in
    let v : suc b + i ≡ b + suc i = omega arith in
    ap f u ∙ h (suc i) (omega (arith, p)) ∙ ap g (sym v))
    in
    omega (arith, x, rest)

total-none : (f : ℕ → ℕ) (a n : ℕ) → ((i : ℕ) → a ≤ i → i < a + n → f i ≡ 0) → total f a n ≡ 0
total-none f a zero h = refl
total-none f a (suc n) h =
    let x = h a (omega arith) (omega arith) in
    let rest = total-none f (suc a) n (λ i p q. h i (omega (arith, p)) (omega (arith, q))) in
    omega (arith, x, rest)

-- a sum by rows of m terms
total-rows : (f : ℕ → ℕ) (g : ℕ → ℕ → ℕ) (m k n : ℕ) → ((c r : ℕ) → r < m → f (c * m + r) ≡ g c r)
    → total f (k * m) (n * m) ≡ total (λ c. total (g c) 0 m) k n
total-rows f g m k zero h = let e : 0 * m ≡ 0 = omega arith in rw e
total-rows f g m k (suc n) h =
    let e : suc n * m ≡ m + n * m = omega (arith, suc-mul n m) in
    let parts = total-parts f (k * m) m (n * m) in
    let first = total-same f (g k) (k * m) 0 m (λ r p. h k r p ∙ ap (g k) (omega arith)) in
    let next : k * m + m ≡ suc k * m = omega (arith, suc-mul k m) in
    let rest = total-rows f g m (suc k) n h in
    rw e (parts ∙ ap₂ ◌+◌ first (ap (λ (x : ℕ). total f x (n * m)) next ∙ rest))

-- ---- by any weight

module _ (w : ℤ → ℕ) where
  weighed-map : (f : ℕ → ℤ) (a n : ℕ) → weighed w (map f (from a n)) ≡ total (λ i. weight w (f i)) a n
  weighed-map f a zero = refl
  weighed-map f a (suc n) = omega (arith, weighed-map f (suc a) n)

  weighed-joined : (f : ℕ → List ℤ) (a n : ℕ) → weighed w (joined (map f (from a n))) ≡ total (λ i. weighed w (f i)) a n
  weighed-joined f a zero = refl
  weighed-joined f a (suc n) =
      omega (arith, weighed-append w (f a) (joined (map f (from (suc a) n))), weighed-joined f (suc a) n)

  -- what the cells of a column weigh
  abbrev weighed_column : List ℕ → ℕ → ℕ
  weighed_column text column = total (λ row. weight w (value_at text column row)) 0 (rows_in text)

  -- a cell that no post stands for weighs nothing
  weightless : (text : List ℕ) (column row : ℕ) → (post_stands text column row ≡ true → ⊥) → weight w (value_at text column row) ≡ 0
  weightless text column row empty = ap (weight w) (value-void text column row empty)

  -- the same at the column of profile j, by its rows
  weightless-row : (text : List ℕ) (j row : ℕ) → ((i : ℕ) → i < posts_in text j → row ≡ row_in text j + i → ⊥)
      → weight w (value_at text (column_in text 0 + j) row) ≡ 0
  weightless-row text j row empty =
      weightless text (column_in text 0 + j) row
      (λ t.
      let p = profile_at text (column_in text 0 + j) in
      let s = stands-for text (column_in text 0 + j) row t in
      let same : p ≡ j = omega arith in
      let south : row_in text p ≡ row_in text j = ap (row_in text) same in
      let posts : posts_in text p ≡ posts_in text j = ap (posts_in text) same in
      empty (row - row_in text p) (omega (arith, s.post, posts)) (omega (arith, s.row_is, south)))

  -- a column west of all profiles, or east of them, weighs nothing
  weightless-column : (text : List ℕ) (column : ℕ) → ((j : ℕ) → j < profiles_in text → column ≡ column_in text 0 + j → ⊥)
      → weighed_column text column ≡ 0
  weightless-column text column empty =
      total-none (λ row. weight w (value_at text column row)) 0 (rows_in text)
      (λ row p q.
      weightless text column row
      (λ t.
      let s = stands-for text column row t in
      empty (profile_at text column) s.profile s.column-is))

  -- a profile of which the text has no post
  weightless-profile : (text : List ℕ) (j : ℕ) → posts_in text j ≡ 0 → weighed w (heights_in text j) ≡ 0
  weightless-profile text j none = weighed-map (height_in text j) 0 (posts_in text j) ∙ ap (total (λ i. weight w (height_in text j i)) 0) none

  module _ (family : ℕ) (text : List ℕ) (kept : (first_breach family text).kind ≡ 0) where
    -- the cells of its column weigh what the posts of the profile do
    profile-column : (j : ℕ) → j < profiles_in text → weighed_column text (column_in text 0 + j) ≡ weighed w (heights_in text j)
    profile-column j h = by-test (ltb (start_of text j) (blocks_in text)) begun unbegun
      where
        cells : ℕ → ℕ
        cells row = weight w (value_at text (column_in text 0 + j) row)

        unbegun : ltb (start_of text j) (blocks_in text) ≡ false → total cells 0 (rows_in text) ≡ weighed w (heights_in text j)
        unbegun e =
            let none = none_yet text j (ltb-false (start_of text j) (blocks_in text) e) in
            let void = total-none cells 0 (rows_in text) (λ row p q. weightless-row text j row (λ i k r. omega (arith, k, none))) in
            void ∙ sym (weightless-profile text j none)

        begun : ltb (start_of text j) (blocks_in text) ≡ true → total cells 0 (rows_in text) ≡ weighed w (heights_in text j)
        begun e =
            let p = placed_at family text kept j h (ltb-true (start_of text j) (blocks_in text) e) in
            let row = row_in text j in
            let posts = posts_in text j in
            let rest = rows_in text - (row + posts) in
            let all : rows_in text ≡ row + (posts + rest) = omega (arith, p.row_room, posts-most text j) in
            let south = total-none cells 0 row (λ r a b. weightless-row text j r (λ i k q. omega (arith, b, q))) in
            let north = total-none cells (0 + row + posts) rest (λ r a b. weightless-row text j r (λ i k q. omega (arith, a, k, q))) in
            let heights =
            total-same cells (λ i. weight w (height_in text j i)) (0 + row) 0 posts
            (λ i k.
            let u : 0 + row + i ≡ row + i = omega arith in
            let v : 0 + i ≡ i = omega arith in
            ap cells u ∙ ap (weight w) (value-of-post text j i h k) ∙ ap (λ (x : ℕ). weight w (height_in text j x)) (sym v))
            in
            ap (total cells 0) all
            ∙ (omega (arith, total-parts cells 0 row (posts + rest), total-parts cells (0 + row) posts rest, south, north, heights))
            ∙ sym (weighed-map (height_in text j) 0 posts)

    columns-weigh : total (weighed_column text) 0 (columns_in text) ≡ total (λ j. weighed w (heights_in text j)) 0 (profiles_in text)
    columns-weigh = by-test (ltb (start_of text 0) (blocks_in text)) begun unbegun
      where
        heights : ℕ → ℕ
        heights j = weighed w (heights_in text j)

        unbegun : ltb (start_of text 0) (blocks_in text) ≡ false
            → total (weighed_column text) 0 (columns_in text) ≡ total heights 0 (profiles_in text)
        unbegun e =
            let none : (j : ℕ) → posts_in text j ≡ 0 =
            λ j. none_yet text j (omega (arith, ltb-false (start_of text 0) (blocks_in text) e, start-order text 0 j (omega arith)))
            in
            let left =
            total-none (weighed_column text) 0 (columns_in text)
            (λ c a b.
            total-none (λ row. weight w (value_at text c row)) 0 (rows_in text)
            (λ row p q.
            weightless text c row
            (λ t. let s = stands-for text c row t in omega (arith, s.post, none (profile_at text c)))))
            in
            left ∙ sym (total-none heights 0 (profiles_in text) (λ j a b. weightless-profile text j (none j)))

        begun : ltb (start_of text 0) (blocks_in text) ≡ true
            → total (weighed_column text) 0 (columns_in text) ≡ total heights 0 (profiles_in text)
        begun e =
            let p = placed_at family text kept 0 (some-profiles family text kept) (ltb-true (start_of text 0) (blocks_in text) e) in
            let west = column_in text 0 in
            let n = profiles_in text in
            let rest = columns_in text - (west + n) in
            let all : columns_in text ≡ west + (n + rest) = omega (arith, p.room) in
            let before = total-none (weighed_column text) 0 west (λ c a b. weightless-column text c (λ j k q. omega (arith, b, q))) in
            let behind = total-none (weighed_column text) (0 + west + n) rest (λ c a b. weightless-column text c (λ j k q. omega (arith, a, k, q))) in
            let profiles =
            total-same (weighed_column text) heights (0 + west) 0 n
            (λ j k.
            let u : 0 + west + j ≡ west + j = omega arith in
            let v : 0 + j ≡ j = omega arith in
            ap (weighed_column text) u ∙ profile-column j k ∙ ap heights (sym v))
            in
            ap (total (weighed_column text) 0) all
            ∙ (omega (arith, total-parts (weighed_column text) 0 west (n + rest), total-parts (weighed_column text) (0 + west) n rest, before, behind, profiles))

    -- The cells of the sheet weigh what the posts of the text do.
    pub weighed-as-posts : (lent : List ℤ) → 1 ≤ blocks_in text
        → weighed w (take (cells_in text) (grid_of text lent)) ≡ weighed w (all_heights text)
    weighed-as-posts lent some =
        let sheet = map (cell_in text) (below (cells_in text)) in
        let front : take (cells_in text) (grid_of text lent) ≡ sheet =
        ap (take (cells_in text)) (begun-grid text lent some)
        ∙ take_at sheet (drop (cells_in text) lent) (cells_in text) (sheet-length text lent)
        in
        let rows =
        total-rows (λ c. weight w (cell_in text c)) (λ c r. weight w (value_at text c r)) (rows_in text) 0 (columns_in text)
        (λ c r k. ap₂ (λ (x y : ℕ). weight w (value_at text x y)) (digits_div c k) (digits_mod c k))
        in
        let from_first : 0 ≡ 0 * rows_in text = omega arith in
        ap (weighed w) front
        ∙ weighed-map (cell_in text) 0 (cells_in text)
        ∙ ap (λ (a : ℕ). total (λ c. weight w (cell_in text c)) a (cells_in text)) from_first
        ∙ rows
        ∙ columns-weigh
        ∙ sym (weighed-joined (heights_in text) 0 (profiles_in text))

-- ---- the count and the sum, by their weights

module _ (family : ℕ) (text : List ℕ) (kept : (first_breach family text).kind ≡ 0) (lent : List ℤ) (some : 1 ≤ blocks_in text) where
  -- the cells of the sheet
  abbrev cells : List ℤ
  cells = take (cells_in text) (grid_of text lent)

  -- As many cells of the sheet are filled as posts of the text are.
  pub filled-as-posts : filled_in cells ≡ filled_in (all_heights text)
  filled-as-posts =
      filled-weighed cells ∙ weighed-as-posts (λ h. 1) family text kept lent some ∙ sym (filled-weighed (all_heights text))

  -- The filled cells of the sheet sum up to what the filled posts of the text do.
  pub sum-as-posts : sum_of (filled_only cells) ≡ sum_of (filled_only (all_heights text))
  sum-as-posts =
      same_sum cells (all_heights text) (weighed-as-posts above family text kept lent some) (weighed-as-posts under family text kept lent some)
