-- A text and the same text with one block more: what the first has, the second has too, profile by profile and post by post.
-- That the earlier blocks are the same carries it.
use Rattle.std.specs.Prelude.{Option}
use mathlib.Core.List.{List, ◌++◌, map, ◌∷◌, []}
use Prim.Native.Nat.{ℕ, ◌/◌, suc, ◌<◌, ◌*◌, ◌≤◌, zero, ◌+◌, ◌-◌, min}
use lib.IntN.{ℤ}
use mathlib.Core.Path.{◌≡◌, ◌∙◌, ap, refl, sym, ap₂}
use native.Mathlib.Omega.{arith}
use borrow.Author.Tests.{ltb-false, lt-ltb, le-ltb, ltb-true}
use lib.Dec.{ltb}
use mathlib.Core.Bool.{true, false}
use Rattle.ground.specs.Blocks.{block_at, blocks_in}
use Rattle.laws.specs.Lists.{below, from, joined}
use Rattle.laws.proofs.Tests.{by-test}
use Rattle.laws.proofs.Lists.{map_same, from-append, map-append, map-shift, joined-until, append-brackets}
use Rattle.number.specs.Integer.{integer}
use Rattle.lattice.specs.Lattice.{lattice_of, place_of}
use Rattle.field.specs.Field.{stretch}
use Rattle.frame.specs.Frame.{west, east, south, north}
use Rattle.frame.specs.declared.Header.{Header}
use Rattle.heading.specs.Heading.{header_of}
use Rattle.profile.specs.declared.record_b.Head.{Head}
use Rattle.profile.specs.RecordB.{head_of}
use Rattle.ground.proofs.BlocksJoined.{Extends}
use Rattle.ground.specs.Posts.{height, blocks_for, posts_of, heights}
use Rattle.meaning.specs.Text.{post_byte, header_in, start_of, head_in, room_in, posts_in, post_block, height_in, heights_in, column_place_in, row_place_in, profiles_in, z_in, all_heights}
use Rattle.meaning.specs.Rules.{posts_of_block, posts_byte}
use Rattle.meaning.proofs.Starts.{next_start, start-order, none_yet}

-- what is looked up, over the header, the profile's head and the block that it depends on
abbrev pub column_by : Header → Head → Option ℕ
column_by h d = place_of (lattice_of (west h) (east h) h.xstep) h.xstep d.x

abbrev pub row_by : Header → Head → Option ℕ
row_by h d = place_of (lattice_of (south h) (north h) h.ystep) h.ystep d.y

abbrev height_by : ℕ → Header → Head → List ℕ → ℤ
height_by i h d b = height (h.zstep / 10000000) d.datum (integer (stretch (post_byte i) 6 b)).value

module _ (text more block : List ℕ) (k : ℕ) (x : Extends text more block k) where
  pub start-same : (j : ℕ) → start_of text j ≤ k → start_of more j ≡ start_of text j
  start-same zero h = refl
  start-same (suc j) h =
      let lt : start_of text j < k = omega (arith, next_start text j, h) in
      let e = start-same j (omega (arith, lt)) in
      let b : block_at more (start_of text j) ≡ block_at text (start_of text j) = x.same (start_of text j) lt in
      rw (e, b)

  pub head-same : (j : ℕ) → start_of text j < k → head_in more j ≡ head_in text j
  head-same j h = rw (start-same j (omega (arith, h))) (ap head_of (x.same (start_of text j) h))

  pub header-same : 1 ≤ k → header_in more ≡ header_in text
  header-same h = ap header_of (x.same 0 h)

  pub column-same : 1 ≤ k → (j : ℕ) → start_of text j < k → column_place_in more j ≡ column_place_in text j
  column-same some j h = ap₂ column_by (header-same some) (head-same j h)

  pub row_same : 1 ≤ k → (j : ℕ) → start_of text j < k → row_place_in more j ≡ row_place_in text j
  row_same some j h = ap₂ row_by (header-same some) (head-same j h)

  pub height-same : 1 ≤ k → (j i : ℕ) → start_of text j < k → start_of text j + post_block i < k → height_in more j i ≡ height_in text j i
  height-same some j i h lt =
      let e : block_at more (start_of more j + post_block i) ≡ block_at text (start_of text j + post_block i)
      = rw (start-same j (omega (arith, h))) (x.same (start_of text j + post_block i) lt) in
      ap₂ (λ (a : Header) (d : Head). height_by i a d (block_at more (start_of more j + post_block i))) (header-same some) (head-same j h)
      ∙ ap (height_by i (header_in text) (head_in text j)) e

  -- ---- whole profiles

  -- a post of a profile stands in one of its blocks
  post-block : (m i : ℕ) → i < m → post_block i < blocks_for m
  post-block m i lt =
      by-test (ltb i 146) (λ e. rw e (omega arith)) (λ e. let h = ltb-false i 146 e in rw e (omega (arith, h, lt)))

  -- all posts are there once all blocks are
  all-posts : (t : List ℕ) (j : ℕ) → start_of t (suc j) ≤ blocks_in t → posts_in t j ≡ (head_in t j).posts
  all-posts t j h =
      let m = (head_in t j).posts in
      let q = blocks_in t - start_of t j in
      let full : blocks_for m ≤ q = omega (arith, h) in
      let r : room_in q ≡ 146 + 170 * (q - 1) = room q (omega (arith, full)) in
      omega (arith, full, r)
    where
      room : (q : ℕ) → 1 ≤ q → room_in q ≡ 146 + 170 * (q - 1)
      room zero h = elim h [ ]
      room (suc q) h = let e : suc q - 1 ≡ q = omega arith in rw e

  pub heights-whole : 1 ≤ k → (j : ℕ) → start_of text (suc j) ≤ k → heights_in more j ≡ heights_in text j
  heights-whole some j h =
      let lt : start_of text j < k = omega (arith, h, next_start text j) in
      let m = (head_in text j).posts in
      let e : start_of more (suc j) ≡ start_of text (suc j) = start-same (suc j) h in
      let a : posts_in more j ≡ m = all-posts more j (omega (arith, e, h, x.one_more)) ∙ ap (λ (d : Head). d.posts) (head-same j lt) in
      let b : posts_in text j ≡ m = all-posts text j (omega (arith, h, x.many)) in
      ap (λ (n : ℕ). map (height_in more j) (below n)) a
      ∙ map_same (height_in more j) (height_in text j) 0 m
      (λ i p q. height-same some j i lt (omega (arith, post-block m i (omega (arith, q)), h)))
      ∙ ap (λ (n : ℕ). map (height_in text j) (below n)) (sym b)

-- ---- the posts of a block, as a block has them and as the text does

posts-from : (block : List ℕ) (byte a n : ℕ)
    → posts_of n (byte + 6 * a) block ≡ map (λ i. (integer (stretch (byte + 6 * i) 6 block)).value) (from a n)
posts-from block byte a zero = refl
posts-from block byte a (suc n) =
    let e : byte + 6 * a + 6 ≡ byte + 6 * suc a = omega arith in
    ap (λ (l : List ℤ). (integer (stretch (byte + 6 * a) 6 block)).value ∷ l)
    (ap (λ (b : ℕ). posts_of n b block) e ∙ posts-from block byte (suc a) n)

map-map : {A B C : Type 0} (f : A → B) (g : B → C) (xs : List A) → map g (map f xs) ≡ map (λ y. g (f y)) xs
map-map f g [] = refl
map-map {A} {B} {C} f g (y ∷ xs) = ap (λ (l : List C). g (f y) ∷ l) (map-map f g xs)

pub heights-from : (z : ℕ) (datum : ℤ) (n byte : ℕ) (block : List ℕ)
    → heights z datum (posts_of n byte block) ≡ map (λ i. height z datum (integer (stretch (byte + 6 * i) 6 block)).value) (below n)
heights-from z datum n byte block =
    let e : byte ≡ byte + 6 * 0 = omega arith in
    ap (λ (b : ℕ). heights z datum (posts_of n b block)) e
    ∙ ap (heights z datum) (posts-from block byte 0 n)
    ∙ map-map (λ i. (integer (stretch (byte + 6 * i) 6 block)).value) (height z datum) (below n)

-- one block more has room for its own posts more
pub one-block-more : (m q : ℕ) → min m (room_in (suc q)) ≡ min m (room_in q) + posts_of_block m q
one-block-more m zero = omega arith
one-block-more m (suc q) = omega arith

-- the posts of a profile's block q stand there, one behind the other
block-of-post : (m q t : ℕ) → t < posts_of_block m q → post_block (min m (room_in q) + t) ≡ q
block-of-post m zero t lt =
    let e : ltb (min m 0 + t) 146 ≡ true = lt-ltb (min m 0 + t) 146 (omega (arith, lt)) in rw e
block-of-post m (suc q) t lt =
    let i = min m (146 + 170 * q) + t in
    let is : i ≡ 146 + 170 * q + t = omega (arith, lt) in
    let e : ltb i 146 ≡ false = le-ltb i 146 (omega (arith, is)) in
    rw e (omega (arith, is, lt))

byte-of-post : (m q t : ℕ) → t < posts_of_block m q → post_byte (min m (room_in q) + t) ≡ posts_byte q + 6 * t
byte-of-post m zero t lt =
    let e : ltb (min m 0 + t) 146 ≡ true = lt-ltb (min m 0 + t) 146 (omega (arith, lt)) in rw e (omega arith)
byte-of-post m (suc q) t lt =
    let i = min m (146 + 170 * q) + t in
    let is : i ≡ 146 + 170 * q + t = omega (arith, lt) in
    let e : ltb i 146 ≡ false = le-ltb i 146 (omega (arith, is)) in
    rw e (omega (arith, is, lt))

-- a post of the first q blocks stands in one of them
pub within-blocks : (m q i : ℕ) → i < min m (room_in q) → post_block i < q
within-blocks m zero i lt = absurd (omega (arith, lt))
within-blocks m (suc q) i lt =
    by-test (ltb i 146) (λ e. rw e (omega arith)) (λ e. let h = ltb-false i 146 e in rw e (omega (arith, h, lt)))

-- ---- the profile that the next block belongs to

-- profile c is the first that is not whole
pub record Here (text : List ℕ) (k c : ℕ) : Type 0 where
  pub below-n : c < profiles_in text
  pub begins : start_of text c ≤ k
  pub ends : k < start_of text (suc c)

module _ (text more block : List ℕ) (k : ℕ) (x : Extends text more block k) (some : 1 ≤ k) (c : ℕ) (here : Here text k c) where
  -- which of its blocks the next one is
  abbrev turn : ℕ
  turn = k - start_of text c

  pub same_start : start_of more c ≡ start_of text c
  same_start = start-same text more block k x c here.begins

  pub not-over : k < start_of more (suc c)
  not-over =
      by-test (ltb (start_of text c) k)
      (λ e.
      let d = head-same text more block k x c (ltb-true (start_of text c) k e) in
      let p : (head_in more c).posts ≡ (head_in text c).posts = ap (λ (h : Head). h.posts) d in
      omega (arith, here.ends, same_start, p))
      (λ e. omega (arith, same_start, ltb-false (start_of text c) k e, here.begins))

  -- the posts read so far, and those of the next block
  pub posts-before : posts_in text c ≡ min (head_in more c).posts (room_in turn)
  posts-before =
      by-test (ltb (start_of text c) k)
      (λ e.
      let d = head-same text more block k x c (ltb-true (start_of text c) k e) in
      let p : (head_in more c).posts ≡ (head_in text c).posts = ap (λ (h : Head). h.posts) d in
      rw (x.many, p))
      (λ e.
      let z : turn ≡ 0 = omega (arith, ltb-false (start_of text c) k e) in
      let y : blocks_in text - start_of text c ≡ 0 = omega (arith, z, x.many) in
      let u : posts_in text c ≡ 0 = none_yet text c (omega (arith, ltb-false (start_of text c) k e, x.many)) in
      rw z (u ∙ (omega arith)))

  pub posts-after : posts_in more c ≡ posts_in text c + posts_of_block (head_in more c).posts turn
  posts-after =
      let m = (head_in more c).posts in
      let e : blocks_in more - start_of more c ≡ suc turn = omega (arith, x.one_more, same_start, here.begins) in
      ap (λ (q : ℕ). min m (room_in q)) e ∙ one-block-more m turn
      ∙ ap (λ (a : ℕ). a + posts_of_block m turn) (sym posts-before)

  -- the heights of the next block's posts
  abbrev pub new_heights : List ℤ
  new_heights = heights (z_in more) (head_in more c).datum (posts_of (posts_of_block (head_in more c).posts turn) (posts_byte turn) block)

  old-heights : map (height_in more c) (below (posts_in text c)) ≡ heights_in text c
  old-heights =
      by-test (ltb (start_of text c) k)
      (λ e.
      let lt = ltb-true (start_of text c) k e in
      map_same (height_in more c) (height_in text c) 0 (posts_in text c)
      (λ i p q.
      let w = within-blocks (head_in text c).posts (blocks_in text - start_of text c) i (omega (arith, q)) in
      height-same text more block k x some c i lt (omega (arith, w, x.many))))
      (λ e.
      let u : posts_in text c ≡ 0 = none_yet text c (omega (arith, ltb-false (start_of text c) k e, x.many)) in
      rw u)

  new-heights : map (height_in more c) (from (posts_in text c) (posts_of_block (head_in more c).posts turn)) ≡ new_heights
  new-heights =
      let m = (head_in more c).posts in
      let n = posts_of_block m turn in
      map-shift (height_in more c) (λ i. height (z_in more) (head_in more c).datum (integer (stretch (posts_byte turn + 6 * i) 6 block)).value)
      (posts_in text c) 0 n
      (λ t lt.
      let e : posts_in text c + t ≡ min m (room_in turn) + t = ap (λ (a : ℕ). a + t) posts-before in
      let b : post_block (posts_in text c + t) ≡ turn = ap post_block e ∙ block-of-post m turn t lt in
      let y : post_byte (posts_in text c + t) ≡ posts_byte turn + 6 * t = ap post_byte e ∙ byte-of-post m turn t lt in
      let w : start_of more c + post_block (posts_in text c + t) ≡ k = omega (arith, b, same_start, here.begins) in
      let v : block_at more (start_of more c + post_block (posts_in text c + t)) ≡ block = ap (block_at more) w ∙ x.next in
      let u : 0 + t ≡ t = omega arith in
      ap₂ (λ (i : ℕ) (l : List ℕ). height (z_in more) (head_in more c).datum (integer (stretch i 6 l)).value) (y ∙ ap (λ (i : ℕ). posts_byte turn + 6 * i) (sym u)) v)
      ∙ sym (heights-from (z_in more) (head_in more c).datum n (posts_byte turn) block)

  pub heights-grow : heights_in more c ≡ heights_in text c ++ new_heights
  heights-grow =
      let n = posts_of_block (head_in more c).posts turn in
      let z : 0 + posts_in text c ≡ posts_in text c = omega arith in
      ap (λ (a : ℕ). map (height_in more c) (below a)) posts-after
      ∙ ap (map (height_in more c)) (from-append 0 (posts_in text c) n)
      ∙ map-append (height_in more c) (below (posts_in text c)) (from (0 + posts_in text c) n)
      ∙ ap₂ (λ (l r : List ℤ). l ++ r) old-heights (ap (λ (a : ℕ). map (height_in more c) (from a n)) z ∙ new-heights)

  same-profiles : profiles_in more ≡ profiles_in text
  same-profiles = ap (λ (h : Header). h.profiles) (header-same text more block k x some)

  pub all-grow : all_heights more ≡ all_heights text ++ new_heights
  all-grow =
      let front : map (heights_in more) (below c) ≡ map (heights_in text) (below c)
      = map_same (heights_in more) (heights_in text) 0 c
      (λ j p q. heights-whole text more block k x some j (omega (arith, start-order text (suc j) c (omega (arith, q)), here.begins))) in
      let e : heights_in more c ≡ heights_in text c ++ new_heights = heights-grow in
      ap (λ (n : ℕ). joined (map (heights_in more) (below n))) same-profiles
      ∙ joined-until (heights_in more) c (profiles_in text) here.below-n
      (λ j lt. none_here more j (omega (arith, x.one_more, not-over, start-order more (suc c) j lt)))
      ∙ ap₂ (λ (l : List (List ℤ)) (r : List ℤ). joined l ++ r) front e
      ∙ sym (append-brackets (joined (map (heights_in text) (below c))) (heights_in text c) new_heights)
      ∙ ap (λ (l : List ℤ). l ++ new_heights)
      (sym (joined-until (heights_in text) c (profiles_in text) here.below-n
      (λ j lt. none_here text j (omega (arith, x.many, here.ends, start-order text (suc c) j lt)))))
    where
      none_here : (t : List ℕ) (j : ℕ) → blocks_in t ≤ start_of t j → heights_in t j ≡ []
      none_here t j h = rw (none_yet t j h)
