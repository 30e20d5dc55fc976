-- Posts that are sent read back as the cells, in every block of a profile. Exact division and the place of each piece in its text carry it.
use mathlib.Core.List.{List, ◌++◌, ◌∷◌, append_assoc, []}
use mathlib.Core.Path.{◌≡◌, ◌∙◌, ap, sym, refl, ap₂}
use Prim.Native.Nat.{ℕ, ◌-◌, ◌≤◌, ◌+◌, ◌*◌, zero, suc}
use lib.ListN.{length, take, replicate, length-append, drop, length-take, length-drop}
use lib.Seq.{take_at, drop_at}
use mathlib.Core.Bool.{true, false}
use native.Mathlib.Omega.{arith}
use borrow.Author.Tests.{le-leb, eq-eqb}
use lib.IntN.{ℤ, pos, nat_abs, ◌*ℤ◌, +ℤ_idr}
use Rattle.laws.specs.Sign.{same_z}
use Rattle.laws.proofs.Tests.{by-test}
use Rattle.laws.proofs.SameNumbers.{same_z-is, same_z-fails}
use Rattle.number.specs.Integer.{integer, read}
use Rattle.number.specs.declared.Reading.{Reading}
use Rattle.lattice.specs.Lattice.{multiple_of}
use Rattle.lattice.proofs.Multiples.{multiple-whole}
use Rattle.field.specs.Field.{stretch, fault, rest_fault}
use Rattle.frame.specs.declared.Header.{Header}
use Rattle.frame.specs.Frame.{z_of}
use Rattle.ground.specs.Posts.{void, void_post, height, judge_post, heights, posts_fault, posts_of}
use Rattle.spell.specs.Spell.{integer_text}
use Rattle.spell.proofs.ReadBack.{integer-back}
use Rattle.spell.proofs.Spelled.{blanks-blank}
use Rattle.meaning.specs.Rules.{posts_of_block, posts_byte}
use Rattle.written.specs.Cells.{can_send, post_of, cells_sent}
use Rattle.written.specs.Blocks.{posts_text, filled_up, head_text, profile_block}
use Rattle.written.proofs.PostsSent.{quotient-small, filled-can, post-small, post-fits, post-length, AllSent, first-sent, posts-length, cells_of_block, before_posts, block-is, block-sends, block_room}

-- ---- one piece of a text

-- a piece stands behind what is before it
pub at_offset : (first width : ℕ) (before piece after : List ℕ) → length before ≡ first - 1 → length piece ≡ width
    → stretch first width (before ++ (piece ++ after)) ≡ piece
at_offset first width before piece after e l =
    ap (take width) (drop_at before (piece ++ after) (first - 1) e) ∙ take_at piece after width l

-- ---- one cell and its post

module _ (z : ℕ) (cell : ℤ) (some : 1 ≤ z) (can : can_send z cell ≡ true) where
  pub post-height : height z (pos 0) (post_of z cell) ≡ cell
  unfolding post_of
  post-height =
      by-test (same_z cell void) (λ e. rw e (sym ((same_z-is cell void).0 e)))
      (λ e.
      let m = multiple_of cell z in
      let c = filled-can z cell can e in
      let f : same_z m void_post ≡ false = same_z-fails m void_post (quotient-small z cell c.1).1 in
      rw (e, f) (+ℤ_idr (m *ℤ pos z) ∙ sym (multiple-whole z some cell c.0)))

  post-back : integer (integer_text 6 (post_of z cell)) ≡ read (post_of z cell)
  post-back = integer-back 6 (post_of z cell) (omega arith) (omega arith) (post-fits z cell can)

  post-passes : (judge_post (integer (integer_text 6 (post_of z cell)))).kind ≡ 0
  post-passes = rw (post-back, le-leb (nat_abs (post_of z cell)) 32767 (post-small z cell can))

-- ---- all cells of a list

-- the bracket that moves past the first post
first-post : (z : ℕ) (c : ℤ) (cs : List ℤ) (before after : List ℕ)
    → (before ++ (posts_text z (c ∷ cs) ++ after) ≡ before ++ (integer_text 6 (post_of z c) ++ (posts_text z cs ++ after)))
    × (before ++ (posts_text z (c ∷ cs) ++ after) ≡ (before ++ integer_text 6 (post_of z c)) ++ (posts_text z cs ++ after))
unfolding posts_text
first-post z c cs before after =
    let t = integer_text 6 (post_of z c) in
    let e : before ++ (posts_text z (c ∷ cs) ++ after) ≡ before ++ (t ++ (posts_text z cs ++ after))
    = ap (λ (x : List ℕ). before ++ x) (append_assoc t (posts_text z cs) after) in
    (e, e ∙ sym (append_assoc before t (posts_text z cs ++ after)))

module _ (z : ℕ) (some : 1 ≤ z) where
  -- the first post of what is sent, at its byte
  post-there : (c : ℤ) (cs : List ℤ) (before after block : List ℕ) (byte : ℕ) → can_send z c ≡ true
      → block ≡ before ++ (posts_text z (c ∷ cs) ++ after) → byte ≡ 1 + length before
      → stretch byte 6 block ≡ integer_text 6 (post_of z c)
  post-there c cs before after block byte can is place =
      let t = integer_text 6 (post_of z c) in
      ap (stretch byte 6) (is ∙ (first-post z c cs before after).0)
      ∙ at_offset byte 6 before t (posts_text z cs ++ after) (omega (arith, place)) (post-length z c can)

  next-byte : (c : ℤ) (before : List ℕ) (byte : ℕ) → can_send z c ≡ true → byte ≡ 1 + length before
      → byte + 6 ≡ 1 + length (before ++ integer_text 6 (post_of z c))
  next-byte c before byte can place =
      omega (arith, place, length-append before (integer_text 6 (post_of z c)), post-length z c can)

  pub posts-fine : (cells : List ℤ) → AllSent z cells → (before after block : List ℕ) (byte : ℕ)
      → block ≡ before ++ (posts_text z cells ++ after) → byte ≡ 1 + length before
      → posts_fault (length cells) byte block ≡ fault 0 0
  posts-fine [] h before after block byte is place = refl
  posts-fine (c ∷ cs) h before after block byte is place =
      let f = first-sent z c cs h in
      let p : (judge_post (integer (stretch byte 6 block))).kind ≡ 0 =
      ap (λ (s : List ℕ). (judge_post (integer s)).kind) (post-there c cs before after block byte f.0 is place)
      ∙ post-passes z c some f.0 in
      rw (eq-eqb (judge_post (integer (stretch byte 6 block))).kind 0 p)
      (posts-fine cs f.1 (before ++ integer_text 6 (post_of z c)) after block (byte + 6) (is ∙ (first-post z c cs before after).1)
      (next-byte c before byte f.0 place))

  pub posts-heights : (cells : List ℤ) → AllSent z cells → (before after block : List ℕ) (byte : ℕ)
      → block ≡ before ++ (posts_text z cells ++ after) → byte ≡ 1 + length before
      → heights z (pos 0) (posts_of (length cells) byte block) ≡ cells
  posts-heights [] h before after block byte is place = refl
  posts-heights (c ∷ cs) h before after block byte is place =
      let f = first-sent z c cs h in
      let p : (integer (stretch byte 6 block)).value ≡ post_of z c =
      ap (λ (s : List ℕ). (integer s).value) (post-there c cs before after block byte f.0 is place)
      ∙ ap (λ (r : Reading). r.value) (post-back z c some f.0) in
      ap₂ ◌∷◌ (ap (height z (pos 0)) p ∙ post-height z c some f.0)
      (posts-heights cs f.1 (before ++ integer_text 6 (post_of z c)) after block (byte + 6) (is ∙ (first-post z c cs before after).1)
      (next-byte c before byte f.0 place))

  -- ---- a block: a text before them, the posts, and blanks to its end

  module _ (before : List ℕ) (cells : List ℤ) (h : AllSent z cells) (room : length before + 6 * length cells ≤ 1024) where
    abbrev text : List ℕ
    text = before ++ posts_text z cells

    abbrev blanks : List ℕ
    blanks = replicate (1024 - length text) 32

    text-length : length text ≡ length before + 6 * length cells
    text-length = omega (arith, length-append before (posts_text z cells), posts-length z cells h)

    block-parts : filled_up text ≡ before ++ (posts_text z cells ++ blanks)
    block-parts = append_assoc before (posts_text z cells) blanks

    module _ (n byte : ℕ) (many : n ≡ length cells) (place : byte ≡ 1 + length before) where
      filled-posts : posts_fault n byte (filled_up text) ≡ fault 0 0
      filled-posts = rw many (posts-fine cells h before blanks (filled_up text) byte block-parts place)

      filled-heights : heights z (pos 0) (posts_of n byte (filled_up text)) ≡ cells
      filled-heights =
          ap (λ (m : ℕ). heights z (pos 0) (posts_of m byte (filled_up text))) many
          ∙ posts-heights cells h before blanks (filled_up text) byte block-parts place

      filled-rest : rest_fault (byte + 6 * n) (filled_up text) ≡ fault 0 0
      filled-rest =
          let e : length text ≡ byte + 6 * n - 1 = omega (arith, text-length, many, place) in
          rw (drop_at text blanks (byte + 6 * n - 1) e, blanks-blank (1024 - length text))

-- ---- the blocks of a profile

posts-of-block : (cells : List ℤ) (k : ℕ) → posts_of_block (length cells) k ≡ length (cells_of_block cells k)
posts-of-block cells zero = omega (arith, length-take 146 cells)
posts-of-block cells (suc k) =
    omega (arith, length-take 170 (drop (146 + 170 * k) cells), length-drop (146 + 170 * k) cells)

module _ (h : Header) (grid : List ℤ) (c : ℕ) (some : 1 ≤ z_of h) (all : AllSent (z_of h) (cells_sent h grid c))
    (long : length (head_text h grid c) ≡ 144) where
  abbrev cells : List ℤ
  cells = cells_sent h grid c

  -- the byte of its first post
  place : (k : ℕ) → posts_byte k ≡ 1 + length (before_posts h grid c k)
  place zero = omega (arith, long)
  place (suc k) = refl

  module _ (k : ℕ) where
    abbrev before : List ℕ
    before = before_posts h grid c k

    abbrev here : List ℤ
    here = cells_of_block cells k

    sends : AllSent (z_of h) here
    sends = block-sends h grid c all long k

    room : length before + 6 * length here ≤ 1024
    room = block_room h grid c all long k

    pub block-posts : posts_fault (posts_of_block (length cells) k) (posts_byte k) (profile_block h grid c k) ≡ fault 0 0
    block-posts =
        ap (posts_fault (posts_of_block (length cells) k) (posts_byte k)) (block-is h grid c k)
        ∙ filled-posts (z_of h) some before here sends room (posts_of_block (length cells) k) (posts_byte k) (posts-of-block cells k) (place k)

    pub block-rest : rest_fault (posts_byte k + 6 * posts_of_block (length cells) k) (profile_block h grid c k) ≡ fault 0 0
    block-rest =
        ap (rest_fault (posts_byte k + 6 * posts_of_block (length cells) k)) (block-is h grid c k)
        ∙ filled-rest (z_of h) some before here sends room (posts_of_block (length cells) k) (posts_byte k) (posts-of-block cells k) (place k)

    pub block-heights : heights (z_of h) (pos 0) (posts_of (posts_of_block (length cells) k) (posts_byte k) (profile_block h grid c k)) ≡ here
    block-heights =
        ap (λ (b : List ℕ). heights (z_of h) (pos 0) (posts_of (posts_of_block (length cells) k) (posts_byte k) b)) (block-is h grid c k)
        ∙ filled-heights (z_of h) some before here sends room (posts_of_block (length cells) k) (posts_byte k) (posts-of-block cells k) (place k)
