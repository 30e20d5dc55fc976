-- A later block of a profile, its first or a further one: the verdict on it is the first rule that it breaks, as the text has them.
use Rattle.std.specs.Prelude.{None, Option, Some}
use mathlib.Core.Bool.{Bool, false, cond, true}
use Prim.Native.Nat.{ℕ, ◌+◌, ◌*◌, zero, suc, ◌-◌, ◌≤◌, ◌<◌, min}
use lib.Dec.{leb, eqb, ltb}
use mathlib.Core.Path.{◌≡◌, refl, sym, ◌∙◌, ap, ap₂}
use mathlib.Core.List.{List, [], ◌∷◌, ◌++◌}
use native.Mathlib.Omega.{arith}
use borrow.Author.Tests.{lt-ltb, ne_eqb}
use Rattle.ground.specs.Blocks.{block_at, blocks_in}
use Rattle.ground.proofs.BlocksJoined.{Extends}
use Rattle.laws.proofs.Tests.{by-test}
use Rattle.lattice.specs.Lattice.{place_number}
use Rattle.field.specs.Field.{rest_fault}
use Rattle.frame.specs.declared.Header.{Header}
use Rattle.frame.specs.Frame.{columns_of, rows_of, z_of}
use Rattle.profile.specs.RecordB.{record_b, head_fault, head_of}
use Rattle.session.specs.declared.Session.{Session}
use Rattle.session.specs.declared.Profile.{Profile}
use Rattle.ground.specs.Posts.{posts_fault, posts_rest_fault, posts_of, heights, filled_in}
use Rattle.ground.specs.Extremes.{filled_only, least_of, greatest_of}
use Rattle.delivery.specs.Deliver.{column_fits, Verdict, unless, wrong, filling, further, opening, opening_with, opened, placed, column_place, first_column, row_fits, row_place, posts_here}
use Rattle.meaning.specs.Text.{number_on, header_in, z_in, start_of, head_in, posts_in, heights_in, column_place_in, row_place_in, column_in}
use Rattle.meaning.specs.Rules.{Breach, in_block, first_broken, breach, rule, posts_of_block, posts_byte, block_rules, column_kept, row_kept, place_rules}
use Rattle.meaning.specs.Means.{begun_session}
use Rattle.meaning.proofs.Verdicts.{by_breach, by-cons, by_append, busy-profile}
use Rattle.meaning.proofs.Starts.{start-from, none_yet}
use Rattle.meaning.proofs.Joined.{Here, column_by, row_by, header-same, head-same, column-same, row_same, same_start, new_heights}
use Rattle.meaning.proofs.SessionGrows.{read_so_far, closed-here, read_is}

-- `column_fits` over what it looks at
abbrev fits : ℕ → Header → ℕ → Option ℕ → Bool
fits closed h column (Some a) = cond (eqb closed 0) (leb (a + h.profiles) (columns_of h)) (eqb a (column + closed))
fits closed h column None = false

fits-is : (s : Session) (p : Option ℕ) → column_fits s p ≡ fits s.closed s.header s.column p
fits-is s (Some a) = refl
fits-is s None = refl

number_is : (p : Option ℕ) → place_number p ≡ number_on p
number_is (Some i) = refl
number_is None = refl

-- the rules of one block, over its number and its bytes
abbrev pub rules_at : ℕ → ℕ → ℕ → List ℕ → List Breach
rules_at b n byte block = in_block b (posts_fault n byte block) ∷ (in_block b (rest_fault (byte + 6 * n) block) ∷ [])

block-verdict : (b n byte : ℕ) (block : List ℕ) (v : Verdict)
    → unless (posts_rest_fault byte n block) b v ≡ by_breach (first_broken (rules_at b n byte block)) v
block-verdict b n byte block v =
    by-test (eqb (posts_fault n byte block).kind 0)
    (λ e. rw e (by-test (eqb (rest_fault (byte + 6 * n) block).kind 0) (λ t. rw t) (λ t. rw (t, t))))
    (λ e. rw (e, e))

module _ (family : ℕ) (text more block : List ℕ) (k : ℕ) (x : Extends text more block k) (some : 1 ≤ k) (c : ℕ) (here : Here text k c) where
  rules-here : block_rules more c (k - start_of text c)
      ≡ rules_at k (posts_of_block (head_in more c).posts (k - start_of text c)) (posts_byte (k - start_of text c)) block
  rules-here =
      let q = k - start_of text c in
      let n = posts_of_block (head_in more c).posts q in
      let e : start_of more c + q ≡ k = omega (arith, same_start text more block k x some c here, here.begins) in
      ap₂ (λ (b : ℕ) (l : List ℕ). rules_at b n (posts_byte q) l) e (ap (block_at more) e ∙ x.next)

  same-z : z_of (header_in text) ≡ z_in more
  same-z = ap z_of (sym (header-same text more block k x some))

  -- the first profile's column, once it has begun
  first-column : 1 < k → (begun_session family text).column ≡ column_in more 0
  first-column lt =
      let b : ltb 1 (blocks_in text) ≡ true = lt-ltb 1 (blocks_in text) (omega (arith, lt, x.many)) in
      rw b (ap number_on (sym (column-same text more block k x some 0 lt)))

  -- ---- "Each further block"

  module _ (begun : start_of text c < k) where
    profile-so-far : (begun_session family text).profile ≡ read_so_far text more c
    profile-so-far =
        let d = sym (head-same text more block k x c begun) in
        busy-profile family text more block k x some c here begun
        ∙ (λ i.
        record {
          posts = (d i).posts;
          row = number_on (sym (row_same text more block k x some c begun) i);
          datum = (d i).datum;
          least = (d i).least;
          greatest = (d i).greatest;
          read = posts_in text c;
          filled = filled_in (heights_in text c);
          low = least_of (filled_only (heights_in text c));
          high = greatest_of (filled_only (heights_in text c));
        })

    posts-next : min ((head_in more c).posts - posts_in text c) 170 ≡ posts_of_block (head_in more c).posts (k - start_of text c)
    posts-next =
        let e : k - start_of text c ≡ suc (k - start_of text c - 1) = omega (arith, begun) in
        let r = read_is family text more block k x some c here begun in
        ap (λ (a : ℕ). min ((head_in more c).posts - a) 170) r ∙ ap (posts_of_block (head_in more c).posts) (sym e)

    byte_next : 1 ≡ posts_byte (k - start_of text c)
    byte_next =
        let e : suc (k - start_of text c - 1) ≡ k - start_of text c = omega (arith, begun) in
        ap posts_byte e

    pub further-rules :
        further (begun_session family text) k block
        ≡ by_breach (first_broken (block_rules more c (k - start_of text c)))
        (filling (begun_session family text) k (column_in more 0) (read_so_far text more c) (new_heights text more block k x some c here))
    further-rules =
        let s = begun_session family text in
        let q = k - start_of text c in
        let m = (head_in more c).posts in
        let datum = (head_in more c).datum in
        let by : ℕ → ℕ → Profile → ℕ → ℕ → Verdict
        = λ column z p n byte. unless (posts_rest_fault byte n block) k (filling s k column p (heights z p.datum (posts_of n byte block))) in
        let col : s.column ≡ column_in more 0 = first-column (omega (arith, begun, start-from text c)) in
        let n : posts_here s.profile 170 ≡ posts_of_block m q = ap (λ (p : Profile). posts_here p 170) profile-so-far ∙ posts-next in
        (λ i. by (col i) (same-z i) (profile-so-far i) (n i) (byte_next i))
        ∙ block-verdict k (posts_of_block m q) (posts_byte q) block
        (filling s k (column_in more 0) (read_so_far text more c) (new_heights text more block k x some c here))
        ∙ ap
        (λ (bs : List Breach).
        by_breach (first_broken bs) (filling s k (column_in more 0) (read_so_far text more c) (new_heights text more block k x some c here)))
        (sym rules-here)

  -- ---- a profile's first block

  module _ (opens : start_of text c ≡ k) where
    head-here : head_of block ≡ head_in more c
    head-here =
        ap head_of (sym (ap (block_at more) (same_start text more block k x some c here ∙ opens) ∙ x.next))

    column-place : column_place (begun_session family text) (head_of block) ≡ column_place_in more c
    column-place = ap₂ column_by (sym (header-same text more block k x some)) head-here

    row-place : row_place (begun_session family text) (head_of block) ≡ row_place_in more c
    row-place = ap₂ row_by (sym (header-same text more block k x some)) head-here

    closed-is-c : (begun_session family text).closed ≡ c
    closed-is-c = closed-here family text more block k x some c here

    column-test : column_fits (begun_session family text) (column_place_in more c) ≡ column_kept more c (column_place_in more c)
    column-test =
        let s = begun_session family text in
        fits-is s (column_place_in more c)
        ∙ (λ i. fits (closed-is-c i) (sym (header-same text more block k x some) i) s.column (column_place_in more c))
        ∙ go c refl (column_place_in more c)
      where
        go : (j : ℕ) → j ≡ c → (p : Option ℕ) → fits j (header_in more) (begun_session family text).column p ≡ column_kept more j p
        go j e None = refl
        go zero e (Some a) = refl
        go (suc j) e (Some a) =
            let lt : 1 < k = omega (arith, start-from text c, opens, e) in
            let z : eqb (suc j) 0 ≡ false = ne_eqb (suc j) 0 (λ q. omega (arith, q)) in
            rw z
            (ap (λ (b : ℕ). eqb a (b + suc j)) (first-column lt))

    row-test : row_fits (begun_session family text) (head_in more c).posts (row_place_in more c) ≡ row_kept more c (row_place_in more c)
    row-test = go (row_place_in more c)
      where
        go : (p : Option ℕ) → row_fits (begun_session family text) (head_in more c).posts p ≡ row_kept more c p
        go None = refl
        go (Some r) = ap (λ (h : Header). leb (r + (head_in more c).posts) (rows_of h)) (sym (header-same text more block k x some))

    pub place-verdict : (v : Verdict)
        → placed (begun_session family text) k (head_of block) v ≡ by_breach (first_broken (place_rules more c)) v
    place-verdict v =
        let s = begun_session family text in
        let st : start_of more c ≡ k = same_start text more block k x some c here ∙ opens in
        (λ i. cond (column_fits s (column-place i)) (cond (row_fits s (head-here i).posts (row-place i)) v (wrong 10 k 49)) (wrong 10 k 25))
        ∙ ap₂ (λ (a b : Bool). cond a (cond b v (wrong 10 k 49)) (wrong 10 k 25)) column-test row-test
        ∙ go (column_kept more c (column_place_in more c)) (row_kept more c (row_place_in more c))
        ∙ ap
        (λ (b : ℕ).
        by_breach
        (first_broken
        (rule (column_kept more c (column_place_in more c)) (breach 10 b 25) ∷ (rule (row_kept more c (row_place_in more c)) (breach 10 b 49) ∷ [])))
        v)
        (sym st)
      where
        go : (a b : Bool)
            → cond a (cond b v (wrong 10 k 49)) (wrong 10 k 25)
            ≡ by_breach (first_broken (rule a (breach 10 k 25) ∷ (rule b (breach 10 k 49) ∷ []))) v
        go false b = refl
        go true false = refl
        go true true = refl

    column-first : first_column (begun_session family text) (head_of block) ≡ column_in more 0
    column-first =
        ap₂ (λ (n : ℕ) (p : Option ℕ). cond (eqb n 0) (place_number p) (begun_session family text).column) closed-is-c column-place ∙ go c refl
      where
        go : (j : ℕ) → j ≡ c → cond (eqb j 0) (place_number (column_place_in more j)) (begun_session family text).column ≡ column_in more 0
        go zero e = number_is (column_place_in more 0)
        go (suc j) e =
            let z : eqb (suc j) 0 ≡ false = ne_eqb (suc j) 0 (λ q. omega (arith, q)) in
            rw z (first-column (omega (arith, start-from text c, opens, e)))

    profile-opened : opened (begun_session family text) (head_of block) ≡ read_so_far text more c
    profile-opened =
        let none : posts_in text c ≡ 0 = none_yet text c (omega (arith, opens, x.many)) in
        let empty : heights_in text c ≡ [] = rw none in
        λ i.
        record {
          posts = (head-here i).posts;
          row = (ap place_number row-place ∙ number_is (row_place_in more c)) i;
          datum = (head-here i).datum;
          least = (head-here i).least;
          greatest = (head-here i).greatest;
          read = sym none i;
          filled = filled_in (sym empty i);
          low = least_of (filled_only (sym empty i));
          high = greatest_of (filled_only (sym empty i));
        }

    head-verdict : (n : ℕ)
        → opening (begun_session family text) k block (record_b family n block)
        ≡ by_breach (in_block k (head_fault family n block)) (opening_with (begun_session family text) k block (head_of block))
    unfolding record_b
    head-verdict n = by-test (eqb (head_fault family n block).kind 0) (λ e. rw e) (λ e. rw e)

    heights-first : heights (z_in more) (head_in more c).datum (posts_of (min (head_in more c).posts 146) 145 block)
        ≡ new_heights text more block k x some c here
    heights-first =
        let e : 0 ≡ k - start_of text c = omega (arith, opens) in
        ap (λ (q : ℕ). heights (z_in more) (head_in more c).datum (posts_of (posts_of_block (head_in more c).posts q) (posts_byte q) block)) e

    rules-first : rules_at k (min (head_in more c).posts 146) 145 block ≡ block_rules more c 0
    rules-first =
        let e : 0 ≡ k - start_of text c = omega (arith, opens) in
        ap (λ (q : ℕ). rules_at k (posts_of_block (head_in more c).posts q) (posts_byte q) block) e
        ∙ sym rules-here
        ∙ ap (block_rules more c) (sym e)

    pub opening-rules :
        opening (begun_session family text) k block (record_b family ((begun_session family text).closed + 1) block)
        ≡ by_breach (first_broken (in_block k (head_fault family (suc c) block) ∷ (block_rules more c 0 ++ place_rules more c)))
        (filling (begun_session family text) k (column_in more 0) (read_so_far text more c) (new_heights text more block k x some c here))
    opening-rules =
        let s = begun_session family text in
        let m = (head_in more c).posts in
        let hs = new_heights text more block k x some c here in
        let head = in_block k (head_fault family (suc c) block) in
        let fill = filling s k (column_in more 0) (read_so_far text more c) hs in
        let n : (begun_session family text).closed + 1 ≡ suc c = ap (λ (a : ℕ). a + 1) closed-is-c ∙ (omega arith) in
        let rows : filling s k (first_column s (head_of block)) (opened s (head_of block))
        (heights (z_of (header_in text)) (opened s (head_of block)).datum (posts_of (min (head_of block).posts 146) 145 block))
        ≡ fill
        = (λ i.
        filling s k (column-first i) (profile-opened i)
        (heights (same-z i) (profile-opened i).datum (posts_of (min (head-here i).posts 146) 145 block)))
        ∙ ap (filling s k (column_in more 0) (read_so_far text more c)) heights-first in
        ap (λ (a : ℕ). opening s k block (record_b family a block)) n
        ∙ head-verdict (suc c)
        ∙ ap (by_breach head)
        ((λ i. unless (posts_rest_fault 145 (min (head-here i).posts 146) block) k (placed s k (head_of block) (rows i)))
        ∙ block-verdict k (min m 146) 145 block (placed s k (head_of block) fill)
        ∙ ap₂ (λ (bs : List Breach) (v : Verdict). by_breach (first_broken bs) v) rules-first (place-verdict fill)
        ∙ sym (by_append (block_rules more c 0) (place_rules more c) fill))
        ∙ sym (by-cons head (block_rules more c 0 ++ place_rules more c) fill)
