-- The grid after one block more: its heights in its posts' cells, every other cell as it was. That earlier posts keep their cells carries it.
use mathlib.Core.List.{List, map, ◌++◌, ◌∷◌}
use mathlib.Core.Path.{◌≡◌, ◌∙◌, refl, sym, ap₂, ap}
use Prim.Native.Nat.{ℕ, zero, suc, ◌+◌, ◌*◌, ◌-◌, ◌/◌, ◌%◌, ◌≤◌, ◌<◌, min}
use lib.ListN.{length, length-map, replicate, drop, get_or}
use native.Mathlib.Nat.{div-add-mod'}
use native.Mathlib.Omega.{arith}
use borrow.Author.Tests.{ltb-true, ltb-false}
use lib.Dec.{ltb}
use lib.IntN.{ℤ}
use lib.Seq.{sets, ext_get_or, length-sets, get_or-append-add}
use Rattle.ground.specs.Blocks.{blocks_in}
use Rattle.ground.proofs.BlocksJoined.{Extends}
use Rattle.laws.specs.Lists.{below, from, joined}
use Rattle.laws.proofs.Lists.{from-length, map_same}
use Rattle.laws.proofs.Tests.{by-test}
use Rattle.laws.proofs.Cells.{sets-before, sets-after, sets-inside}
use Rattle.frame.specs.Frame.{columns_of, rows_of}
use Rattle.frame.specs.declared.Header.{Header}
use Rattle.profile.specs.declared.record_b.Head.{Head}
use Rattle.ground.specs.Posts.{void}
use Rattle.meaning.specs.Text.{posts_in, height_in, heights_in, profiles_in, rows_in, cells_in, start_of, head_in, room_in, all_heights, number_on, column_in, row_in, cell_of_post, profile_at, post_stands, value_at, cell_in}
use Rattle.meaning.specs.Rules.{first_breach, posts_of_block}
use Rattle.meaning.specs.Means.{grid_of}
use Rattle.meaning.proofs.Starts.{start-order, start-from, none_yet}
use Rattle.meaning.proofs.Joined.{Here, start-same, head-same, header-same, column-same, row_same, height-same, heights-whole, one-block-more, within-blocks, not-over, posts-after, new_heights, heights-grow}
use Rattle.meaning.proofs.SessionGrows.{new-length}
use Rattle.meaning.proofs.Placed.{placed_at}
use Rattle.meaning.proofs.EachPost.{map_at, StandsFor, stands-for, value-void, value-of-post, begun-with, begun-grid, grid-cell, past-cell, grid-length, post-in-sheet, post-in-its-cell}

heights-many : (text : List ℕ) (j : ℕ) → length (heights_in text j) ≡ posts_in text j
heights-many text j = length-map (below (posts_in text j)) (height_in text j) ∙ from-length 0 (posts_in text j)

all_alike : {A : Type 0} (f : ℕ → A) (v : A) (a n : ℕ) → ((i : ℕ) → f i ≡ v) → replicate n v ≡ map f (from a n)
all_alike f v a zero h = refl
all_alike f v a (suc n) h = ap₂ ◌∷◌ (sym (h a)) (all_alike f v (suc a) n h)

module _ (family : ℕ) (text more block : List ℕ) (k : ℕ) (x : Extends text more block k) where
  same-profiles : 1 ≤ k → profiles_in more ≡ profiles_in text
  same-profiles some = ap (λ (h : Header). h.profiles) (header-same text more block k x some)

  same_rows : 1 ≤ k → rows_in more ≡ rows_in text
  same_rows some = ap rows_of (header-same text more block k x some)

  same-cells : 1 ≤ k → cells_in more ≡ cells_in text
  same-cells some = ap (λ (h : Header). columns_of h * rows_of h) (header-same text more block k x some)

  -- ---- a post of the text: it is one of the longer text too, in the same cell and as high

  begun : (j i : ℕ) → i < posts_in text j → start_of text j < k
  begun j i h = omega (arith, begun-with text j i h, x.many)

  post_stays : (j i : ℕ) → i < posts_in text j → i < posts_in more j
  post_stays j i h =
      let lt = begun j i h in
      let m = (head_in more j).posts in
      let q = blocks_in text - start_of text j in
      let p : m ≡ (head_in text j).posts = ap (λ (d : Head). d.posts) (head-same text more block k x j lt) in
      let s = start-same text more block k x j (omega (arith, lt)) in
      let e : blocks_in more - start_of more j ≡ suc q = omega (arith, s, x.many, x.one_more, lt) in
      let a : posts_in more j ≡ min m (room_in q) + posts_of_block m q
      = ap (λ (b : ℕ). min m (room_in b)) e ∙ one-block-more m q in
      let b : posts_in text j ≡ min m (room_in q) = ap (λ (n : ℕ). min n (room_in q)) (sym p) in
      omega (arith, h, a, b)

  column-stays : (j i : ℕ) → i < posts_in text j → column_in more 0 ≡ column_in text 0
  column-stays j i h =
      let lt = begun j i h in
      ap number_on (column-same text more block k x (omega (arith, lt)) 0 (omega (arith, lt, start-from text j)))

  row_stays : (j i : ℕ) → i < posts_in text j → row_in more j ≡ row_in text j
  row_stays j i h = let lt = begun j i h in ap number_on (row_same text more block k x (omega (arith, lt)) j lt)

  height-stays : (j i : ℕ) → i < posts_in text j → height_in more j i ≡ height_in text j i
  height-stays j i h =
      let lt = begun j i h in
      let w = within-blocks (head_in text j).posts (blocks_in text - start_of text j) i (omega (arith, h)) in
      height-same text more block k x (omega (arith, lt)) j i lt (omega (arith, w, x.many))

  value_stays : (column row j i : ℕ) → j < profiles_in text → i < posts_in text j
      → column ≡ column_in text 0 + j → row ≡ row_in text j + i → value_at text column row ≡ value_at more column row
  value_stays column row j i h p at-column at_row =
      let n = same-profiles (omega (arith, begun j i p)) in
      let more-column : column_in more 0 + j ≡ column = omega (arith, at-column, column-stays j i p) in
      let more-row : row_in more j + i ≡ row = omega (arith, at_row, row_stays j i p) in
      ap₂ (value_at text) at-column at_row
      ∙ value-of-post text j i h p
      ∙ sym (height-stays j i p)
      ∙ sym (value-of-post more j i (omega (arith, h, n)) (post_stays j i p))
      ∙ ap₂ (value_at more) more-column more-row

  -- ---- a cell that no new post stands for

  value_same : 1 ≤ k → (column row : ℕ) → ((j i : ℕ) → StandsFor more column row j i → posts_in text j ≤ i → ⊥)
      → value_at text column row ≡ value_at more column row
  value_same some column row old =
      by-test (post_stands more column row)
      (λ e.
      let j = profile_at more column in
      let i = row - row_in more j in
      let s = stands-for more column row e in
      by-test (ltb i (posts_in text j))
      (λ t.
      let p = ltb-true i (posts_in text j) t in
      value_stays column row j i (omega (arith, s.profile, same-profiles some)) p
      (omega (arith, s.column-is, column-stays j i p))
      (omega (arith, s.row_is, row_stays j i p)))
      (λ t. absurd (old j i s (ltb-false i (posts_in text j) t))))
      (λ e.
      by-test (post_stands text column row)
      (λ t.
      let s = stands-for text column row t in
      value_stays column row (profile_at text column) (row - row_in text (profile_at text column)) s.profile s.post s.column-is s.row_is)
      (λ t. rw (t, e)))

  cell_same : 1 ≤ k → (q : ℕ) → ((j i : ℕ) → StandsFor more (q / rows_in more) (q % rows_in more) j i → posts_in text j ≤ i → ⊥)
      → cell_in text q ≡ cell_in more q
  cell_same some q old =
      ap (λ (rows : ℕ). value_at text (q / rows) (q % rows)) (sym (same_rows some))
      ∙ value_same some (q / rows_in more) (q % rows_in more) old

  -- ---- a whole profile has no new post

  whole-profile : 1 ≤ k → (j : ℕ) → start_of text (suc j) ≤ k → posts_in more j ≡ posts_in text j
  whole-profile some j h =
      sym (heights-many more j) ∙ ap length (heights-whole text more block k x some j h) ∙ heights-many text j

  -- ---- a block behind the last profile

  -- It adds no height.
  pub heights-idle : (some : 1 ≤ k) → start_of text (profiles_in text) ≤ k → all_heights more ≡ all_heights text
  heights-idle some over =
      ap (λ (n : ℕ). joined (map (heights_in more) (below n))) (same-profiles some)
      ∙ ap joined
      (map_same (heights_in more) (heights_in text) 0 (profiles_in text)
      (λ j p q.
      heights-whole text more block k x some j
      (omega (arith, start-order text (suc j) (profiles_in text) (omega (arith, q)), over))))

  -- It changes no cell.
  pub grid-idle : (some : 1 ≤ k) → start_of text (profiles_in text) ≤ k → (lent : List ℤ) → grid_of more lent ≡ grid_of text lent
  grid-idle some over lent =
      begun-grid more lent (omega (arith, x.one_more))
      ∙ ap (λ (n : ℕ). map (cell_in more) (below n) ++ drop n lent) (same-cells some)
      ∙ ap (λ (cells : List ℤ). cells ++ drop (cells_in text) lent)
      (map_same (cell_in more) (cell_in text) 0 (cells_in text)
      (λ q a b.
      sym (cell_same some q
      (λ j i s new.
      let n : suc j ≤ profiles_in text = omega (arith, s.profile, same-profiles some) in
      let e = whole-profile some j (omega (arith, start-order text (suc j) (profiles_in text) n, over)) in
      omega (arith, s.post, new, e)))))
      ∙ sym (begun-grid text lent (omega (arith, x.many, some)))

  -- ---- block 0: every cell of the sheet void

  pub grid-begun : blocks_in text ≡ 0 → (lent : List ℤ)
      → replicate (cells_in more) void ++ drop (cells_in more) lent ≡ grid_of more lent
  grid-begun none lent =
      ap (λ (cells : List ℤ). cells ++ drop (cells_in more) lent)
      (all_alike (cell_in more) void 0 (cells_in more)
      (λ q.
      value-void more (q / rows_in more) (q % rows_in more)
      (λ t.
      let s = stands-for more (q / rows_in more) (q % rows_in more) t in
      let j = profile_at more (q / rows_in more) in
      let e = none_yet more j (omega (arith, none, x.many, x.one_more, start-from more j)) in
      omega (arith, s.post, e))))
      ∙ sym (begun-grid more lent (omega (arith, x.one_more)))

  -- ---- a block of profile c

  -- only profile c has a new post
  new-post : 1 ≤ k → (c : ℕ) → Here text k c → (j i : ℕ) → i < posts_in more j → posts_in text j ≤ i → j ≡ c
  new-post some c here j i h new =
      by-test (ltb j c)
      (λ e.
      let same = whole-profile some j (omega (arith, start-order text (suc j) c (ltb-true j c e), here.begins)) in
      absurd (omega (arith, h, new, same)))
      (λ e.
      by-test (ltb c j)
      (λ f.
      let over = not-over text more block k x some c here in
      let none = none_yet more j (omega (arith, over, start-order more (suc c) j (ltb-true c j f), x.one_more)) in
      absurd (omega (arith, h, none)))
      (λ f. omega (arith, ltb-false j c e, ltb-false c j f)))

  -- Its heights, in the cells of its posts, make the grid of the longer text.
  pub grid-grows : (some : 1 ≤ k) (c : ℕ) (here : Here text k c) → (first_breach family more).kind ≡ 0 → (lent : List ℤ)
      → cells_in more ≤ length lent
      → sets (grid_of text lent) (cell_of_post more c (posts_in text c)) (new_heights text more block k x some c here) ≡ grid_of more lent
  grid-grows some c here kept lent room =
      ext_get_or void (sets grid at new) (grid_of more lent) as_long
      (λ q h.
      by-test (ltb q at)
      (λ e.
      let lt = ltb-true q at e in
      sets-before grid at new q void lt ∙ outside q (λ t p is. omega (arith, lt, is)))
      (λ e.
      by-test (ltb q (at + length new))
      (λ f.
      let t = q - at in
      let is : at + t ≡ q = omega (arith, ltb-false q at e) in
      ap (λ (n : ℕ). get_or (sets grid at new) n void) (sym is)
      ∙ inside t (omega (arith, ltb-true q (at + length new) f, ltb-false q at e))
      ∙ ap (λ (n : ℕ). get_or (grid_of more lent) n void) is)
      (λ f.
      let le = ltb-false q (at + length new) f in
      sets-after grid at new q void le ∙ outside q (λ t p is. omega (arith, le, p, is)))))
    where
      new : List ℤ
      new = new_heights text more block k x some c here

      grid : List ℤ
      grid = grid_of text lent

      at : ℕ
      at = cell_of_post more c (posts_in text c)

      c-is : c < profiles_in more
      c-is = omega (arith, here.below-n, same-profiles some)

      new-many : posts_in more c ≡ posts_in text c + length new
      new-many =
          posts-after text more block k x some c here
          ∙ ap (λ (n : ℕ). posts_in text c + n) (sym (new-length family text more block k x some c here))

      as_long : length (sets grid at new) ≡ length (grid_of more lent)
      as_long =
          length-sets grid at new
          ∙ grid-length text lent (omega (arith, room, same-cells some))
          ∙ sym (grid-length more lent room)

      height-is : (t : ℕ) → t < length new → get_or new t void ≡ height_in more c (posts_in text c + t)
      height-is t h =
          let i = posts_in text c + t in
          let z : 0 + i ≡ i = omega arith in
          sym (get_or-append-add (heights_in text c) new t void)
          ∙ ap₂ (λ (l : List ℤ) (n : ℕ). get_or l (n + t) void) (sym (heights-grow text more block k x some c here)) (heights-many text c)
          ∙ map_at (height_in more c) 0 (posts_in more c) i void (omega (arith, h, new-many))
          ∙ ap (height_in more c) z

      inside : (t : ℕ) → t < length new → get_or (sets grid at new) (at + t) void ≡ get_or (grid_of more lent) (at + t) void
      inside t h =
          let i = posts_in text c + t in
          let last = posts_in text c + (length new - 1) in
          let sheet = post-in-sheet family more kept c last c-is (omega (arith, h, new-many)) in
          let long = grid-length text lent (omega (arith, room, same-cells some)) in
          let fits : at + length new ≤ length grid = omega (arith, sheet, long, room, h) in
          let is : cell_of_post more c i ≡ at + t = omega arith in
          sets-inside grid at new t void fits h
          ∙ height-is t h
          ∙ sym (post-in-its-cell family more kept lent c i c-is (omega (arith, h, new-many)))
          ∙ ap (λ (n : ℕ). get_or (grid_of more lent) n void) is

      -- a new post at this cell would be one of those written
      outside : (q : ℕ) → ((t : ℕ) → t < length new → q ≡ at + t → ⊥) → get_or grid q void ≡ get_or (grid_of more lent) q void
      outside q other =
          by-test (ltb q (cells_in more))
          (λ e.
          let lt = ltb-true q (cells_in more) e in
          grid-cell text lent q (omega (arith, x.many, some)) (omega (arith, lt, same-cells some))
          ∙ cell_same some q
          (λ j i s late.
          let same = new-post some c here j i s.post late in
          let p = placed_at family more kept j s.profile (begun-with more j i s.post) in
          let column : column_in more j ≡ q / rows_in more = p.column ∙ sym s.column-is in
          let cell : cell_of_post more j i ≡ q =
          ap₂ (λ (u v : ℕ). u * rows_in more + v) column (sym s.row_is) ∙ div-add-mod' q (rows_in more)
          in
          let cell-c : cell_of_post more c i ≡ cell_of_post more j i = ap (λ (n : ℕ). cell_of_post more n i) (sym same) in
          let posts : posts_in more j ≡ posts_in more c = ap (posts_in more) same in
          let read : posts_in text j ≡ posts_in text c = ap (posts_in text) same in
          let t = i - posts_in text c in
          other t (omega (arith, s.post, posts, late, read, new-many)) (omega (arith, cell, cell-c, late, read)))
          ∙ sym (grid-cell more lent q (omega (arith, x.one_more)) lt))
          (λ e.
          let past = ltb-false q (cells_in more) e in
          past-cell text lent q (omega (arith, past, same-cells some)) ∙ sym (past-cell more lent q past))
