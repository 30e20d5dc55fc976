-- Posts as they are sent: each fits its six bytes, so the posts of a block have room in it, and blanks fill it up to 1,024 bytes.
use mathlib.Core.Bool.{true, false}
use mathlib.Core.Path.{◌≡◌, ap, ◌∙◌, refl}
use Prim.Native.Nat.{ℕ, suc, ◌/◌, ◌≤◌, ◌%◌, zero, ◌<◌, ◌+◌, ◌*◌, ◌-◌}
use native.Mathlib.Omega.{arith}
use borrow.Author.Tests.{leb-true, eqb-true}
use lib.IntN.{ℤ, pos, negsuc, nat_abs, pos-ne-negsuc}
use lib.Dec.{eqb}
use lib.ListN.{length, get_or, take, drop, length-take, length-drop, length-append, replicate, length-replicate}
use mathlib.Core.List.{List, ◌∷◌, [], ◌++◌}
use lib.Seq.{get_or-take, get_or-drop}
use native.Mathlib.Nat.{mul-suc}
use Rattle.laws.specs.Sign.{◌and◌, same_z}
use Rattle.laws.proofs.Integers.{size-minus}
use Rattle.laws.proofs.Tests.{and_first, and_second, by-test}
use Rattle.lattice.specs.Lattice.{multiple_of}
use Rattle.frame.specs.declared.Header.{Header}
use Rattle.frame.specs.Frame.{z_of}
use Rattle.ground.specs.Posts.{void_post, void}
use Rattle.spell.specs.Spell.{integer_text, integer_fits}
use Rattle.spell.proofs.Fits.{integer-length, integer-fits}
use Rattle.written.specs.Cells.{quotient_fits, can_send, post_of, sendable, cells_sent}
use Rattle.written.specs.Blocks.{posts_text, head_text, filled_up, profile_block}
use Rattle.written.proofs.ColumnsSent.{each-sends, all-send}

-- ---- one cell and its post

-- "with quotient -32766 to 32767": in a post's range, and never the void's post
pub quotient-small : (z : ℕ) (cell : ℤ) → quotient_fits z cell ≡ true
    → (nat_abs (multiple_of cell z) ≤ 32767) × (multiple_of cell z ≡ void_post → ⊥)
quotient-small z (pos n) t = (leb-true (n / z) 32767 t, λ e. pos-ne-negsuc (n / z) 32766 e)
quotient-small z (negsuc n) t =
    let q : suc n / z ≤ 32766 = leb-true (suc n / z) 32766 t in
    let s : nat_abs (multiple_of (negsuc n) z) ≡ suc n / z = size-minus (pos (suc n / z)) in
    (omega (arith, q, s), λ e. let v : nat_abs (multiple_of (negsuc n) z) ≡ 32767 = ap nat_abs e in omega (arith, q, s, v))

module _ (z : ℕ) (cell : ℤ) (can : can_send z cell ≡ true) where
  -- what can be sent and is no void: a whole multiple, with its quotient in range
  pub filled-can : same_z cell void ≡ false → (nat_abs cell % z ≡ 0) × (quotient_fits z cell ≡ true)
  unfolding can_send
  filled-can e =
      let t : (eqb (nat_abs cell % z) 0 and quotient_fits z cell) ≡ true = rw e at can in (
        eqb-true (nat_abs cell % z) 0 (and_first (eqb (nat_abs cell % z) 0) (quotient_fits z cell) t),
        and_second (eqb (nat_abs cell % z) 0) (quotient_fits z cell) t,
      )

  pub post-small : nat_abs (post_of z cell) ≤ 32767
  unfolding post_of
  post-small =
      by-test (same_z cell void) (λ e. rw e (omega arith)) (λ e. rw e (quotient-small z cell (filled-can e).1).0)

  -- "voids between as -32767": six bytes hold each
  pub post-fits : integer_fits 6 (post_of z cell) ≡ true
  post-fits = integer-fits 5 6 (post_of z cell) (omega arith) (omega arith) (omega (arith, post-small)) (omega arith)

  pub post-length : length (integer_text 6 (post_of z cell)) ≡ 6
  post-length = integer-length 6 (post_of z cell) post-fits

-- ---- cells that can all be sent

abbrev pub AllSent : ℕ → List ℤ → Type 0
AllSent z cells = sendable z cells ≡ length cells

pub first-sent : (z : ℕ) (c : ℤ) (cs : List ℤ) → AllSent z (c ∷ cs) → (can_send z c ≡ true) × AllSent z cs
unfolding sendable
first-sent z c cs h =
    by-test (can_send z c) (λ e. let s : suc (sendable z cs) ≡ suc (length cs) = rw e at h in (e, omega (arith, s)))
    (λ e. let s : 0 ≡ suc (length cs) = rw e at h in absurd (omega (arith, s)))

pub sent-fits : (z : ℕ) (cells : List ℤ) → AllSent z cells → (i : ℕ) (d : ℤ) → i < length cells
    → integer_fits 6 (post_of z (get_or cells i d)) ≡ true
sent-fits z [] h i d k = absurd (omega (arith, k))
sent-fits z (c ∷ cs) h zero d k = post-fits z c (first-sent z c cs h).0
sent-fits z (c ∷ cs) h (suc i) d k = sent-fits z cs (first-sent z c cs h).1 i d (omega (arith, k))

-- so can those of a stretch
pub part-sends : (z : ℕ) (cells : List ℤ) (skip most : ℕ) → AllSent z cells → AllSent z (take most (drop skip cells))
part-sends z cells skip most all =
    all-send z (take most (drop skip cells))
    (λ i k.
    let m = length-take most (drop skip cells) in
    let d = length-drop skip cells in
    ap (can_send z) (get_or-take most (drop skip cells) i void (omega (arith, k, m)) ∙ get_or-drop skip cells i void)
    ∙ each-sends z cells all (skip + i) (omega (arith, k, m, d)))

pub posts-length : (z : ℕ) (cells : List ℤ) → AllSent z cells → length (posts_text z cells) ≡ 6 * length cells
unfolding posts_text
posts-length z [] h = refl
posts-length z (c ∷ cs) h =
    let f = first-sent z c cs h in
    length-append (integer_text 6 (post_of z c)) (posts_text z cs)
    ∙ omega (arith, post-length z c f.0, posts-length z cs f.1, mul-suc 6 (length cs))

-- ---- the blocks of a profile

-- the cells whose posts stand in the profile's k-th block
abbrev pub cells_of_block : List ℤ → ℕ → List ℤ
cells_of_block cells zero = take 146 cells
cells_of_block cells (suc k) = take 170 (drop (146 + 170 * k) cells)

-- and what stands before them
abbrev pub before_posts : Header → List ℤ → ℕ → ℕ → List ℕ
before_posts h grid c zero = head_text h grid c
before_posts h grid c (suc k) = []

module _ (h : Header) (grid : List ℤ) (c : ℕ) where
  abbrev cells : List ℤ
  cells = cells_sent h grid c

  abbrev text : ℕ → List ℕ
  text k = before_posts h grid c k ++ posts_text (z_of h) (cells_of_block cells k)

  -- then blanks to the block's end
  pub block-is : (k : ℕ) → profile_block h grid c k ≡ filled_up (text k)
  unfolding profile_block
  block-is zero = refl
  block-is (suc k) = refl

  module _ (all : AllSent (z_of h) cells) (long : length (head_text h grid c) ≡ 144) where
    pub block-sends : (k : ℕ) → AllSent (z_of h) (cells_of_block cells k)
    block-sends zero = part-sends (z_of h) cells 0 146 all
    block-sends (suc k) = part-sends (z_of h) cells (146 + 170 * k) 170 all

    pub block_room : (k : ℕ) → length (before_posts h grid c k) + 6 * length (cells_of_block cells k) ≤ 1024
    block_room zero = omega (arith, long, length-take 146 cells)
    block_room (suc k) = omega (arith, length-take 170 (drop (146 + 170 * k) cells))

    pub profile-length : (k : ℕ) → length (profile_block h grid c k) ≡ 1024
    profile-length k =
        ap length (block-is k)
        ∙ length-append (text k) (replicate (1024 - length (text k)) 32)
        ∙ omega (
          arith,
          length-append (before_posts h grid c k) (posts_text (z_of h) (cells_of_block cells k)),
          posts-length (z_of h) (cells_of_block cells k) (block-sends k),
          block_room k,
          length-replicate {A = ℕ} (1024 - length (text k)) 32,
        )
