-- In a text that breaks no rule every number is the grammar's meaning of its bytes: each field's rule is kept, so each field is read, and what
-- is read is what the grammar says. And a post is void exactly where its height is.
use mathlib.Core.Bool.{Bool, true, false, cond}
use mathlib.Core.List.{List, [], ◌∷◌, ◌++◌, map}
use mathlib.Core.Path.{◌≡◌, refl, sym, ◌∙◌, ap, ap₂}
use Prim.Native.Nat.{ℕ, zero, suc, ◌+◌, ◌*◌, ◌-◌, ◌/◌, ◌%◌, ◌^◌, ◌≤◌, ◌<◌}
use native.Mathlib.Nat.{le_of_suc-le-suc, div-add-mod', mod-lt}
use native.Mathlib.Omega.{arith}
use lib.IntN.{ℤ, pos, negsuc, nat_abs, ◌*ℤ◌, neg_ℤ}
use lib.ListN.{length, length-append, length-map}
use lib.Dec.{eqb, ltb, leb, lit<}
use borrow.Author.Tests.{eqb-true, eqb-false, eq-eqb, ltb-true, ltb-false, leb-true}
use Rattle.laws.proofs.Integers.{parts_same, multiple-parts, minus-parts}
use Rattle.laws.specs.Lists.{below, from, joined}
use Rattle.laws.specs.Family.{is_canadian}
use Rattle.laws.specs.Sign.{same_z, not_negative, ◌and◌}
use Rattle.laws.proofs.SameNumbers.{same_z-is, same_z-fails}
use Rattle.laws.proofs.Tests.{by-test, clash, split}
use Rattle.number.specs.declared.Reading.{Reading}
use Rattle.number.specs.Integer.{integer}
use Rattle.number.specs.Real.{real}
use Rattle.number.specs.Grammar.{IntegerMeans, RealMeans}
use Rattle.number.proofs.Grammar.{integer-means, integer-pointed, real-means, real-pointed}
use Rattle.field.proofs.Ranges.{posts-kind}
use Rattle.field.specs.Field.{real_at, stretch, rest_fault, limits, posts_limits, in_range, in_limits, ranged, whole_at}
use Rattle.field.specs.declared.Limits.{Limits}
use Rattle.corner.specs.Corner.{arc_seconds}
use Rattle.heading.specs.Heading.{Name, limits_of, family_limits, spacing_at, header_of}
use Rattle.heading.specs.Heading.Name.{level, system, zone, ground, vertical, accuracy, spacing, height as tall, profiles, minutes, seconds}
use Rattle.heading.proofs.LimitKinds.{family-kind}
use Rattle.sheet.specs.RecordA.{canadian_front, back, judge, fields_fault}
use Rattle.sheet.specs.RecordA.Rule.{spaced}
use Rattle.sheet.proofs.HeaderA.{front-field, field-fine}
use Rattle.sheet.proofs.RulesA.{sheet-fine, sheet-corner}
use Rattle.profile.specs.RecordB.{record_b, head_fault, head_fields, head_of, hundredths, is_datum, datum_field}
use Rattle.profile.specs.RecordB.Headed.{Profile}
use Rattle.profile.proofs.RecordLaws.{head-bounds, all_read}
use Rattle.ground.specs.Blocks.{block_at, blocks_in}
use Rattle.ground.specs.Posts.{judge_post, posts_fault, void, void_post, filled_in}
use Rattle.ground.proofs.PostsRead.{passed, fault-on, fault-none}
use Rattle.ground.proofs.Heights.{height-filled}
use Rattle.ground.proofs.Weights.{filled-append}
use Rattle.meaning.specs.Text.{profiles_in, start_of, head_in, header_in, room_in, posts_in, post_block, post_byte, post_in, height_in, heights_in, all_heights, all_posts, filled_posts, z_in}
use Rattle.meaning.specs.Rules.{first_breach, in_block, posts_of_block, posts_byte, block_rules, blocks_of, place_rules, when, is_whole, closing_rules}
use Rattle.meaning.specs.Exact.{ArcMeans, AllMean, header_numbers, head_numbers, Exact}
use Rattle.meaning.proofs.Lists.{Kept, kept-front, kept-rest, kept_at}
use Rattle.meaning.proofs.Placed.{first-kept, behind-kept, profile-kept, head_rule, behind_head, behind_place, header-says, header_read, family-known}
use Rattle.meaning.proofs.EachPost.{begun-with}

-- ---- readings of kind 0

pub integer-says : (s : List ℕ) → (integer s).kind ≡ 0 → IntegerMeans s (integer s).value
integer-says s z =
    let n : (integer s).kind ≡ 6 → ⊥ = λ k. omega (arith, z, k) in
    let b = (integer-pointed s).1 n in
    ((integer-means s (integer s).value).0 (λ i. record { kind = z i; value = (integer s).value; byte = b i })).1

pub real-says : (s : List ℕ) → (real s).kind ≡ 0 → RealMeans s (real s).value
real-says s z =
    let n : (real s).kind ≡ 6 → ⊥ = λ k. omega (arith, z, k) in
    let b = (real-pointed s).1 n in
    ((real-means s (real s).value).0 (λ i. record { kind = z i; value = (real s).value; byte = b i })).1

-- ---- posts

-- each post of a block without fault is read, and in its range
pub post-judged : (n byte : ℕ) (block : List ℕ) → (posts_fault n byte block).kind ≡ 0 → (i : ℕ) → i < n
    → (judge_post (integer (stretch (byte + 6 * i) 6 block))).kind ≡ 0
post-judged zero byte block z i h = absurd (omega (arith, h))
post-judged (suc n) byte block z zero h = let e : byte + 6 * 0 ≡ byte = omega arith in rw e (fault-none block byte n z)
post-judged (suc n) byte block z (suc i) h =
    let e : byte + 6 * suc i ≡ byte + 6 + 6 * i = omega arith in
    let g = fault-on block byte n (fault-none block byte n z) in
    rw e (post-judged n (byte + 6) block (rw g at z) i (le_of_suc-le-suc h))

room-shape : (n : ℕ) → 1 ≤ n → room_in n ≡ 146 + 170 * (n - 1)
room-shape zero h = absurd (omega (arith, h))
room-shape (suc n) h = let e : suc n - 1 ≡ n = omega arith in rw e

module _ (family : ℕ) (text : List ℕ) (kept : (first_breach family text).kind ≡ 0) (j : ℕ) (inside : j < profiles_in text) (begun : start_of text j < blocks_in text) where
  behind : Kept (behind_head text j)
  behind = behind-kept (head_rule family text j) (behind_head text j) (profile-kept family text kept j inside begun)

  -- the rules of each of its blocks are kept
  block-kept : (k : ℕ) → k < blocks_of text j → Kept (block_rules text j k)
  block-kept zero lt = kept-front (block_rules text j 0) (place_rules text j ++ behind_place text j) behind
  block-kept (suc k) lt =
      kept_at (λ q. block_rules text j (suc q)) 0 (blocks_of text j - 1) k
      (kept-front (joined (map (λ q. block_rules text j (suc q)) (below (blocks_of text j - 1)))) (when (is_whole text j) (closing_rules text j))
      (kept-rest (place_rules text j) (behind_place text j)
      (kept-rest (block_rules text j 0) (place_rules text j ++ behind_place text j) behind)))
      (omega arith) (omega (arith, lt))

  -- so each post of a block is judged well
  block_post : (k : ℕ) → k < blocks_of text j → (r : ℕ) → r < posts_of_block (head_in text j).posts k
      → (judge_post (integer (stretch (posts_byte k + 6 * r) 6 (block_at text (start_of text j + k))))).kind ≡ 0
  block_post k lt r less =
      let n = posts_of_block (head_in text j).posts k in
      let block = block_at text (start_of text j + k) in
      post-judged n (posts_byte k) block (first-kept (in_block (start_of text j + k) (posts_fault n (posts_byte k) block))
      (in_block (start_of text j + k) (rest_fault (posts_byte k + 6 * n) block) ∷ []) (block-kept k lt)) r less

  -- a post's block is one that the text has, and the post one of that block's
  pub post-judged-well : (i : ℕ) → i < posts_in text j
      → (judge_post (integer (stretch (post_byte i) 6 (block_at text (start_of text j + post_block i))))).kind ≡ 0
  post-judged-well i lt =
      let m = (head_in text j).posts in
      let have = blocks_in text - start_of text j in
      by-test (ltb i 146)
      (λ e.
      let less = ltb-true i 146 e in
      rw e (block_post 0 (omega (arith, begun)) i (omega (arith, lt, less))))
      (λ e.
      let more = ltb-false i 146 e in
      let k = (i - 146) / 170 in
      let r = (i - 146) % 170 in
      let split : k * 170 + r ≡ i - 146 = div-add-mod' (i - 146) 170 in
      let small : r < 170 = mod-lt (i - 146) (lit< tt) in
      let some : 1 ≤ have = omega (arith, begun) in
      let room : i < room_in have = omega (arith, lt) in
      let shape : room_in have ≡ 146 + 170 * (have - 1) = room-shape have some in
      let one : 1 + k ≡ suc k = omega arith in
      let at : post_block i ≡ suc k = (λ q. cond (e q) 0 (1 + k)) ∙ one in
      let byte : post_byte i ≡ 1 + 6 * r = λ q. cond (e q) (145 + 6 * i) (1 + 6 * r) in
      ap₂ (λ (p b : ℕ). (judge_post (integer (stretch p 6 (block_at text (start_of text j + b))))).kind) byte at
      ∙ block_post (suc k) (omega (arith, split, small, more, lt, room, shape)) r (omega (arith, split, small, more, lt)))

  -- its head has no fault
  pub head-fine : (head_fault family (suc j) (block_at text (start_of text j))).kind ≡ 0
  head-fine = first-kept (head_rule family text j) (behind_head text j) (profile-kept family text kept j inside begun)

  head_read : record_b family (suc j) (block_at text (start_of text j)) ≡ Profile (head_in text j)
  unfolding record_b
  head_read = rw (eq-eqb (head_fault family (suc j) (block_at text (start_of text j))).kind 0 head-fine)

  datum-most : nat_abs (head_in text j).datum ≤ 1000000
  datum-most = (head-bounds family (suc j) (block_at text (start_of text j)) (head_in text j) head_read).2

  -- a post is void exactly where its height is
  pub void-as-post : (i : ℕ) → i < posts_in text j → same_z (height_in text j i) void ≡ same_z (post_in text j i) void_post
  void-as-post i lt =
      let range = (passed (integer (stretch (post_byte i) 6 (block_at text (start_of text j + post_block i)))) (post-judged-well i lt)).most in
      by-test (same_z (post_in text j i) void_post) (λ e. rw e)
      (λ e.
      height-filled (z_in text) (head_in text j).datum (post_in text j i) range (header-says family text kept).zstep.greatest datum-most
      (λ v. clash (sym (ap (λ (p : ℤ). same_z p void_post) v) ∙ e))
      ∙ sym e)

-- ---- as many filled heights as posts that are not void

filled-as : (f g : ℕ → ℤ) (a n : ℕ) → ((i : ℕ) → a ≤ i → i < a + n → same_z (f i) void ≡ same_z (g i) void_post)
    → filled_in (map f (from a n)) ≡ filled_posts (map g (from a n))
filled-as f g a zero same = refl
filled-as f g a (suc n) same =
    ap₂ (λ (b : Bool) (m : ℕ). cond b 0 1 + m) (same a (omega arith) (omega arith))
    (filled-as f g (suc a) n (λ i p q. same i (omega (arith, p)) (omega (arith, q))))

posts-append : (xs ys : List ℤ) → filled_posts (xs ++ ys) ≡ filled_posts xs + filled_posts ys
posts-append [] ys = omega arith
posts-append (x ∷ xs) ys = omega (arith, posts-append xs ys)

joined_as : (f g : ℕ → List ℤ) (a n : ℕ) → ((i : ℕ) → a ≤ i → i < a + n → filled_in (f i) ≡ filled_posts (g i))
    → filled_in (joined (map f (from a n))) ≡ filled_posts (joined (map g (from a n)))
joined_as f g a zero same = refl
joined_as f g a (suc n) same =
    filled-append (f a) (joined (map f (from (suc a) n)))
    ∙ ap₂ ◌+◌ (same a (omega arith) (omega arith)) (joined_as f g (suc a) n (λ i p q. same i (omega (arith, p)) (omega (arith, q))))
    ∙ sym (posts-append (g a) (joined (map g (from (suc a) n))))

joined-many : (f g : ℕ → List ℤ) (a n : ℕ) → ((i : ℕ) → length (f i) ≡ length (g i))
    → length (joined (map f (from a n))) ≡ length (joined (map g (from a n)))
joined-many f g a zero same = refl
joined-many f g a (suc n) same =
    length-append (f a) (joined (map f (from (suc a) n)))
    ∙ ap₂ ◌+◌ (same a) (joined-many f g (suc a) n same)
    ∙ sym (length-append (g a) (joined (map g (from (suc a) n))))

-- as many heights as posts
pub as-many-posts : (text : List ℕ) → length (all_heights text) ≡ length (all_posts text)
as-many-posts text =
    joined-many (heights_in text) (λ j. map (post_in text j) (below (posts_in text j))) 0 (profiles_in text)
    (λ j. length-map (below (posts_in text j)) (height_in text j) ∙ sym (length-map (below (posts_in text j)) (post_in text j)))

module _ (family : ℕ) (text : List ℕ) (kept : (first_breach family text).kind ≡ 0) where
  pub filled-posts : filled_in (all_heights text) ≡ filled_posts (all_posts text)
  filled-posts =
      joined_as (heights_in text) (λ j. map (post_in text j) (below (posts_in text j))) 0 (profiles_in text)
      (λ j p q.
      filled-as (height_in text j) (post_in text j) 0 (posts_in text j)
      (λ i r s.
      let few : i < posts_in text j = omega (arith, s) in
      void-as-post family text kept j (omega (arith, q)) (begun-with text j i few) i few))

-- ---- fields in their limits

-- a field that its limits let pass is read, and its value is not negative
limits-pass : (l : Limits) (r : Reading) → (l.kind ≡ 0 → ⊥) → (ranged l r).kind ≡ 0
    → (r.kind ≡ 0) × (r.value ≡ pos (not_negative r.value)) × (in_range l (not_negative r.value) ≡ true)
limits-pass l r n z =
    by-test (eqb r.kind 0)
    (λ e.
    by-test (in_limits l r.value) (λ i. let v = in-limits r.value i in (eqb-true r.kind 0 e, v.0, v.1))
    (λ i. absurd (n (rw (e, i) at z))))
    (λ e. absurd (eqb-false r.kind 0 e (rw e at z)))
  where
    in-limits : (v : ℤ) → in_limits l v ≡ true → (v ≡ pos (not_negative v)) × (in_range l (not_negative v) ≡ true)
    in-limits (pos v) t = (refl, t)
    in-limits (negsuc v) t = clash (sym t)

whole_says : (l : Limits) (s : List ℕ) → (l.kind ≡ 0 → ⊥) → (ranged l (integer s)).kind ≡ 0 → IntegerMeans s (pos (not_negative (integer s).value))
whole_says l s n z = let p = limits-pass l (integer s) n z in rw (← p.1) (integer-says s p.0)

stepped-says : (l : Limits) (s : List ℕ) → (l.kind ≡ 0 → ⊥) → (ranged l (real s)).kind ≡ 0 → RealMeans s (pos (not_negative (real s).value))
stepped-says l s n z = let p = limits-pass l (real s) n z in rw (← p.1) (real-says s p.0)

-- an x or y spacing of either family, where it is above zero
not-below : (z : ℤ) → 1 ≤ not_negative z → z ≡ pos (not_negative z)
not-below (pos n) h = refl
not-below (negsuc n) h = absurd (omega (arith, h))

spaced-says : (family by-system by-unit : ℕ) (s : List ℕ) → (judge family spaced by-system by-unit s).kind ≡ 0 → 1 ≤ not_negative (real s).value
    → RealMeans s (pos (not_negative (real s).value))
spaced-says family by-system by-unit s z some =
    by-test (is_canadian family) (λ c. rw (← not-below (real s).value some) (real-says s (rw c at z)))
    (λ c. stepped-says (limits_of spacing by-system by-unit) s (λ e. omega (arith, e)) (rw c at z))

-- one number allowed is that number
fixed-says : (v kind : ℕ) (s : List ℕ) → (kind ≡ 0 → ⊥) → (ranged (limits v v 1 kind) (integer s)).kind ≡ 0 → IntegerMeans s (pos v)
fixed-says v kind s n z =
    let p = limits-pass (limits v v 1 kind) (integer s) n z in
    let r = between v v (not_negative (integer s).value) _ p.2 in
    let e : not_negative (integer s).value ≡ v = omega (arith, r.0, r.1) in
    rw (← (p.1 ∙ ap pos e)) (integer-says s p.0)
  where
    between : (low high n : ℕ) (rest : Bool) → (leb low n and leb n high and rest) ≡ true → (low ≤ n) × (n ≤ high)
    between low high n rest t =
        let a = split (leb low n) _ t in (leb-true low n a.0, leb-true n high (split (leb n high) _ a.1).0)

-- ---- record A

module _ (family : ℕ) (block : List ℕ) (fine : (fields_fault family block).kind ≡ 0) (xsome : 1 ≤ spacing_at 817 block) (ysome : 1 ≤ spacing_at 829 block) where
  abbrev by : Name → Limits
  by name = family_limits family name (whole_at 157 block) (whole_at 535 block)

  named : (name : Name) → ((limits_of name 0 0).kind ≡ 0 → ⊥) → (by name).kind ≡ 0 → ⊥
  named name n z = n (sym (family-kind family name (whole_at 157 block) (whole_at 535 block)) ∙ z)

  pub header-means : AllMean block (header_numbers (header_of block))
  unfolding back header_of
  header-means = (
    whole_says (by level) (stretch 145 6 block) (named level (λ e. omega arith)) (field-fine family block fine 145 (lit< tt)),
    (
      whole_says (by system) (stretch 157 6 block) (named system (λ e. omega arith)) (field-fine family block fine 157 (lit< tt)),
      (
        whole_says (by zone) (stretch 163 6 block) (named zone (λ e. omega arith)) (field-fine family block fine 163 (lit< tt)),
        (
          whole_says (by ground) (stretch 529 6 block) (named ground (λ e. omega arith)) (field-fine family block fine 529 (lit< tt)),
          (
            whole_says (by vertical) (stretch 535 6 block) (named vertical (λ e. omega arith)) (field-fine family block fine 535 (lit< tt)),
            (
              real-says (stretch 547 24 block) (field-fine family block fine 547 (lit< tt)),
              (
                real-says (stretch 571 24 block) (field-fine family block fine 571 (lit< tt)),
                (
                  real-says (stretch 595 24 block) (field-fine family block fine 595 (lit< tt)),
                  (
                    real-says (stretch 619 24 block) (field-fine family block fine 619 (lit< tt)),
                    (
                      real-says (stretch 643 24 block) (field-fine family block fine 643 (lit< tt)),
                      (
                        real-says (stretch 667 24 block) (field-fine family block fine 667 (lit< tt)),
                        (
                          real-says (stretch 691 24 block) (field-fine family block fine 691 (lit< tt)),
                          (
                            real-says (stretch 715 24 block) (field-fine family block fine 715 (lit< tt)),
                            (
                              real-says (stretch 739 24 block) (field-fine family block fine 739 (lit< tt)),
                              (
                                real-says (stretch 763 24 block) (field-fine family block fine 763 (lit< tt)),
                                (
                                  whole_says (by accuracy) (stretch 811 6 block) (named accuracy (λ e. omega arith)) (field-fine family block fine 811 (lit< tt)),
                                  (
                                    spaced-says family (whole_at 157 block) (whole_at 535 block) (stretch 817 12 block) (field-fine family block fine 817 (lit< tt)) xsome,
                                    (
                                      spaced-says family (whole_at 157 block) (whole_at 535 block) (stretch 829 12 block) (field-fine family block fine 829 (lit< tt)) ysome,
                                      (
                                        stepped-says (by tall) (stretch 841 12 block) (named tall (λ e. omega arith)) (field-fine family block fine 841 (lit< tt)),
                                        (whole_says (by profiles) (stretch 859 6 block) (named profiles (λ e. omega arith)) (field-fine family block fine 859 (lit< tt)), tt),
                                      ),
                                    ),
                                  ),
                                ),
                              ),
                            ),
                          ),
                        ),
                      ),
                    ),
                  ),
                ),
              ),
            ),
          ),
        ),
      ),
    ),
  )

-- ---- record B

-- whole hundredths, times 10 ^ 7, are the billionths again
hundredths-back : (z : ℤ) → nat_abs z % 10 ^ 7 ≡ 0 → hundredths z *ℤ pos (10 ^ 7) ≡ z
hundredths-back (pos n) e =
    let d : n / 10 ^ 7 * 10 ^ 7 + n % 10 ^ 7 ≡ n = div-add-mod' n (10 ^ 7) in
    parts_same (pos (n / 10 ^ 7) *ℤ pos (10 ^ 7)) (pos n)
    (omega (arith, (multiple-parts (pos (n / 10 ^ 7)) (10 ^ 7)).0, (multiple-parts (pos (n / 10 ^ 7)) (10 ^ 7)).1, d, e))
hundredths-back (negsuc n) e =
    let k = suc n / 10 ^ 7 in
    let d : k * 10 ^ 7 + suc n % 10 ^ 7 ≡ suc n = div-add-mod' (suc n) (10 ^ 7) in
    let m = minus-parts (pos k) in
    let f = multiple-parts (neg_ℤ (pos k)) (10 ^ 7) in
    parts_same (neg_ℤ (pos k) *ℤ pos (10 ^ 7)) (negsuc n) (omega (arith, f.0, f.1, m.0, m.1, d, e))

datum-says : (s : List ℕ) → (datum_field (real s)).kind ≡ 0 → RealMeans s (hundredths (real s).value *ℤ pos (10 ^ 7))
datum-says s z =
    by-test (eqb (real s).kind 0)
    (λ e.
    by-test (is_datum (real s).value)
    (λ d.
    let whole = eqb-true (nat_abs (real s).value % 10 ^ 7) 0 (split (eqb (nat_abs (real s).value % 10 ^ 7) 0) _ d).0 in
    rw (hundredths-back (real s).value whole) (real-says s (eqb-true (real s).kind 0 e)))
    (λ d. absurd (let q : ◌≡◌ {A = ℕ} 7 0 = rw (e, d) at z in omega (arith, q))))
    (λ e. absurd (eqb-false (real s).kind 0 e (rw e at z)))

pub head-means : (family : ℕ) (number : ℕ) (block : List ℕ) → (head_fault family number block).kind ≡ 0 → AllMean block (head_numbers number (head_of block))
head-means family number block z =
    by-test (eqb (length block) 1024)
    (λ l.
    let r = all_read (head_fields family number block) (rw l at z) in (
      fixed-says 1 9 (stretch 1 6 block) (λ e. omega (arith, e)) r.0,
      (
        fixed-says number 9 (stretch 7 6 block) (λ e. omega (arith, e)) r.1.0,
        (
          whole_says (posts_limits family) (stretch 13 6 block) (λ e. omega (arith, e, posts-kind family)) r.1.1.0,
          (
            fixed-says 1 9 (stretch 19 6 block) (λ e. omega (arith, e)) r.1.1.1.0,
            (
              real-says (stretch 25 24 block) r.1.1.1.1.0,
              (
                real-says (stretch 49 24 block) r.1.1.1.1.1.0,
                (
                  datum-says (stretch 73 24 block) r.1.1.1.1.1.1.0,
                  (
                    real-says (stretch 97 24 block) r.1.1.1.1.1.1.1.0,
                    (real-says (stretch 121 24 block) r.1.1.1.1.1.1.1.1.0, tt),
                  ),
                ),
              ),
            ),
          ),
        ),
      ),
    ))
    (λ l. absurd (let q : ◌≡◌ {A = ℕ} 1 0 = rw l at z in omega (arith, q)))

-- ---- the whole text

module _ (family : ℕ) (text : List ℕ) (kept : (first_breach family text).kind ≡ 0) where
  -- both spacings are above zero
  steps-some : (1 ≤ spacing_at 817 (block_at text 0)) × (1 ≤ spacing_at 829 (block_at text 0))
  unfolding header_of
  steps-some =
      let x : 250000000 ≤ spacing_at 817 (block_at text 0) = (header-says family text kept).xstep.least in
      let y : 250000000 ≤ spacing_at 829 (block_at text 0) = (header-says family text kept).ystep.least in
      (omega (arith, x), omega (arith, y))

  -- the corner's text, where the family has one
  fine : (fields_fault family (block_at text 0)).kind ≡ 0
  fine = sheet-fine family (family-known family text kept) (block_at text 0) (header_read family text kept)

  arc-says : is_canadian family ≡ true → (first : ℕ) (z : ℤ) → arc_seconds first (block_at text 0) ≡ z
      → (integer (stretch first 4 (block_at text 0))).kind ≡ 0
      → (ranged (family_limits family minutes (whole_at 157 (block_at text 0)) (whole_at 535 (block_at text 0))) (integer (stretch (first + 4) 2 (block_at text 0)))).kind ≡ 0
      → (ranged (family_limits family seconds (whole_at 157 (block_at text 0)) (whole_at 535 (block_at text 0))) (real (stretch (first + 6) 7 (block_at text 0)))).kind ≡ 0
      → ArcMeans (block_at text 0) first z
  unfolding arc_seconds
  arc-says c first z e d m s =
      let block = block_at text 0 in
      record {
        degrees = (integer (stretch first 4 block)).value;
        minutes = (integer (stretch (first + 4) 2 block)).value;
        seconds = (real (stretch (first + 6) 7 block)).value;
        degrees-mean = integer-says (stretch first 4 block) d;
        minutes-mean = integer-says (stretch (first + 4) 2 block) (limits-pass (limits 0 59 1 7) (integer (stretch (first + 4) 2 block)) (λ q. omega (arith, q)) (rw c at m)).0;
        seconds-mean =
            real-says (stretch (first + 6) 7 block)
            (limits-pass (limits 0 59999999999 1 7) (real (stretch (first + 6) 7 block)) (λ q. omega (arith, q)) (rw c at s)).0;
        is = sym e;
      }

  corner-says : is_canadian family ≡ true
      → ArcMeans (block_at text 0) 110 (header_in text).sw.x × ArcMeans (block_at text 0) 123 (header_in text).sw.y
  unfolding header_of canadian_front
  corner-says c =
      let block = block_at text 0 in
      let told : (same_z (arc_seconds 110 block) (real_at 547 block) and same_z (arc_seconds 123 block) (real_at 571 block)) ≡ true =
      rw c at (sheet-corner family (family-known family text kept) block (header_read family text kept))
      in
      let both = split (same_z (arc_seconds 110 block) (real_at 547 block)) _ told in (
        arc-says c 110 (real_at 547 block) ((same_z-is (arc_seconds 110 block) (real_at 547 block)).0 both.0)
            (front-field family block fine c 110 (lit< tt))
            (front-field family block fine c 114 (lit< tt))
            (front-field family block fine c 116 (lit< tt)),
        arc-says c 123 (real_at 571 block) ((same_z-is (arc_seconds 123 block) (real_at 571 block)).0 both.1)
            (front-field family block fine c 123 (lit< tt))
            (front-field family block fine c 127 (lit< tt))
            (front-field family block fine c 129 (lit< tt)),
      )

  pub each_number : Exact family text
  each_number =
      record {
        header =
            header-means family (block_at text 0) fine
            steps-some.0
            steps-some.1;
        heads = λ j inside begun. head-means family (suc j) (block_at text (start_of text j)) (head-fine family text kept j inside begun);
        posts =
            λ j i inside lt.
            let s = stretch (post_byte i) 6 (block_at text (start_of text j + post_block i)) in
            let p = passed (integer s) (post-judged-well family text kept j inside (begun-with text j i lt) i lt) in
            integer-says s (sym (ap (λ (r : Reading). r.kind) p.same) ∙ post-judged-well family text kept j inside (begun-with text j i lt) i lt);
        spacing =
            let z = (header-says family text kept).zstep.step in
            omega (arith, div-add-mod' (header_in text).zstep (10 ^ 7), z);
        filled = λ j i n. let e : same_z (post_in text j i) void_post ≡ false = same_z-fails (post_in text j i) void_post n in rw e;
        corner = corner-says;
      }
