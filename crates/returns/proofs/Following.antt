-- Blocks that follow the layout of a sheet, whoever wrote them: their joined text breaks no rule, block by block, and ends complete.
-- The rules that each next block adds (meaning, RulesGrow) carry it.
use Rattle.std.specs.Prelude.{Some}
use mathlib.Core.Bool.{true, Bool, false, cond}
use mathlib.Core.List.{[], ◌∷◌, List, map, ◌++◌}
use mathlib.Core.Path.{◌≡◌, refl, sym, ◌∙◌, ap, ap₂}
use borrow.Author.Tests.{eq-eqb, ltb-true, ltb-false, le-leb, leb-true, leb-false, ne_eqb, eqb-true, eqb-false}
use lib.Dec.{eqb, leb, ltb}
use Prim.Native.Nat.{ℕ, zero, suc, ◌+◌, ◌*◌, ◌≤◌, ◌<◌, ◌-◌, ◌/◌, ◌%◌}
use lib.IntN.{ℤ, pos}
use lib.ListN.{length, take, drop, get_or, length-map, get_or-eq_default}
use native.Mathlib.Omega.{arith}
use lib.Arith.{digits_div, digits_mod}
use lib.Seq.{take-add, take_all}
use Rattle.ground.specs.Blocks.{block_at, blocks_in}
use Rattle.ground.proofs.BlocksJoined.{Extends}
use Rattle.laws.specs.Lists.{below, joined}
use Rattle.laws.specs.Sign.{same_z}
use Rattle.laws.proofs.Tests.{by-test}
use Rattle.laws.proofs.SameNumbers.{same_z-is}
use Rattle.laws.proofs.Lists.{from-length, joined-empty, joined-more, append-nil, append-brackets}
use Rattle.lattice.specs.Lattice.{lattice_of, place_of}
use Rattle.field.specs.Field.{rest_fault}
use Rattle.frame.specs.Frame.{columns_of, rows_of, west, east, south, north, z_of}
use Rattle.frame.specs.declared.Header.{Header}
use Rattle.heading.specs.Heading.{header_of}
use Rattle.sheet.specs.RecordA.{fault_of}
use Rattle.profile.specs.RecordB.{head_fault, head_of}
use Rattle.profile.specs.declared.record_b.Head.{Head}
use Rattle.ground.specs.Posts.{blocks_for, posts_fault, posts_of, heights, void}
use Rattle.ground.specs.Extremes.{least_stated, greatest_stated}
use Rattle.meaning.specs.Rules.{Breach, rule, posts_of_block, posts_byte, in_block, when, first_broken, first_breach, block_rules, place_rules, column_kept, row_kept, closing_rules, sheet_rules, is_whole, end_of, blocks_of_sheet, is_complete}
use Rattle.meaning.specs.Text.{room_in, header_in, profiles_in, start_of, head_in, posts_in, height_in, heights_in, all_heights, column_place_in, row_place_in, column_in, row_in, number_on, rows_in, value_at, cell_in, z_in}
use Rattle.meaning.proofs.Lists.{Kept, kept-both}
use Rattle.meaning.proofs.Starts.{start-order, start-from, none_yet}
use Rattle.meaning.proofs.Joined.{Here, column_by, row_by, start-same, heights-whole, new_heights, heights-grow, all-grow}
use Rattle.meaning.proofs.EachPost.{map_at, stands-for, value-void, value-of-post}
use Rattle.meaning.proofs.RulesGrow.{closing_due, further-due, opening-due, first-due-kept}
use Rattle.ground.proofs.BlocksJoined as Blocks

kept-one : (a : Breach) → a.kind ≡ 0 → Kept (a ∷ [])
kept-one a e = let t : eqb a.kind 0 ≡ true = eq-eqb a.kind 0 e in rw t

kept-two : (a b : Breach) → a.kind ≡ 0 → b.kind ≡ 0 → Kept (a ∷ (b ∷ []))
kept-two a b e f = kept-both (a ∷ []) (b ∷ []) (kept-one a e) (kept-one b f)

rule-kept : (t : Bool) (b : Breach) → t ≡ true → (rule t b).kind ≡ 0
rule-kept t b e = rw e

-- the first block of profile j, where profile j has these cells
abbrev pub start_by : (ℕ → List ℤ) → ℕ → ℕ
start_by cells zero = 1
start_by cells (suc j) = start_by cells j + blocks_for (length (cells j))

-- blocks `at` that hold, after a record A of header h, the profiles of these cells, each from a row on
pub record Follows (at : ℕ → List ℕ) (cells : ℕ → List ℤ) (row : ℕ → ℕ) (h : Header) : Type 0 where
  pub header_is : header_of (at 0) ≡ h
  pub header-fine : (fault_of 0 (at 0)).kind ≡ 0
  pub all-columns : h.profiles ≡ columns_of h
  pub some-columns : 1 ≤ columns_of h
  pub no-record-c : h.accuracy ≡ 0
  pub long : (b : ℕ) → b < start_by cells (columns_of h) → length (at b) ≡ 1024
  pub head-fine : (j : ℕ) → j < columns_of h → (head_fault 0 (suc j) (at (start_by cells j))).kind ≡ 0
  pub posts-are : (j : ℕ) → j < columns_of h → (head_of (at (start_by cells j))).posts ≡ length (cells j)
  pub datum-zero : (j : ℕ) → j < columns_of h → (head_of (at (start_by cells j))).datum ≡ pos 0
  pub least-is : (j : ℕ) → j < columns_of h → (head_of (at (start_by cells j))).least ≡ least_stated (cells j)
  pub greatest-is : (j : ℕ) → j < columns_of h → (head_of (at (start_by cells j))).greatest ≡ greatest_stated (cells j)
  pub column-is : (j : ℕ) → j < columns_of h
      → place_of (lattice_of (west h) (east h) h.xstep) h.xstep (head_of (at (start_by cells j))).x ≡ Some j
  pub row_is : (j : ℕ) → j < columns_of h
      → place_of (lattice_of (south h) (north h) h.ystep) h.ystep (head_of (at (start_by cells j))).y ≡ Some (row j)
  pub row_room : (j : ℕ) → j < columns_of h → row j + length (cells j) ≤ rows_of h
  pub posts-fine : (j q : ℕ) → j < columns_of h → q < blocks_for (length (cells j))
      → (posts_fault (posts_of_block (length (cells j)) q) (posts_byte q) (at (start_by cells j + q))).kind ≡ 0
  pub rest-blank : (j q : ℕ) → j < columns_of h → q < blocks_for (length (cells j))
      → (rest_fault (posts_byte q + 6 * posts_of_block (length (cells j)) q) (at (start_by cells j + q))).kind ≡ 0
  pub cells_are : (j q : ℕ) → j < columns_of h → q < blocks_for (length (cells j))
      → heights (z_of h) (pos 0) (posts_of (posts_of_block (length (cells j)) q) (posts_byte q) (at (start_by cells j + q)))
      ≡ take (posts_of_block (length (cells j)) q) (drop (room_in q) (cells j))
  pub sheet-least : h.least ≡ least_stated (joined (map cells (below (columns_of h))))
  pub sheet-greatest : h.greatest ≡ greatest_stated (joined (map cells (below (columns_of h))))

module _ (at : ℕ → List ℕ) (cells : ℕ → List ℤ) (row : ℕ → ℕ) (h : Header) (w : Follows at cells row h) where
  abbrev n : ℕ
  n = columns_of h

  abbrev start : ℕ → ℕ
  start = start_by cells

  -- the first k blocks, joined
  abbrev pub text_to : ℕ → List ℕ
  text_to k = joined (map at (below k))

  pub text-length : (k : ℕ) → k ≤ start n → length (text_to k) ≡ 1024 * k
  text-length = Blocks.text-length at (start n) w.long

  joins : (k : ℕ) → k < start n → Extends (text_to k) (text_to (suc k)) (at k) k
  joins = Blocks.joins at (start n) w.long

  block-at : (k b : ℕ) → k ≤ start n → b < k → block_at (text_to k) b ≡ at b
  block-at = Blocks.block-at at (start n) w.long

  pub header_at : (k : ℕ) → k ≤ start n → 1 ≤ k → header_in (text_to k) ≡ h
  header_at k le some = ap header_of (block-at k 0 le some) ∙ w.header_is

  start-rises : (c : ℕ) → start c < start (suc c)
  start-rises c = omega arith

  start-orders : (i j : ℕ) → i ≤ j → start i + (j - i) ≤ start j
  start-orders i zero le = let e : i ≡ 0 = omega (arith, le) in rw e (omega arith)
  start-orders i (suc j) le =
      by-test (eqb i (suc j))
      (λ e. let q = eqb-true i (suc j) e in rw q (omega arith))
      (λ e.
      let ne = eqb-false i (suc j) e in
      omega (arith, start-orders i j (omega (arith, le, ne)), start-rises j, le, ne))

  -- ---- where the reading stands after k blocks: in profile c

  pub record Stage (k c : ℕ) : Type 0 where
    pub below-n : c < n
    pub begins : start c ≤ k
    pub ends : k < start (suc c)
    pub kept : (first_breach 0 (text_to k)).kind ≡ 0
    pub starts : (j : ℕ) → j ≤ c → start_of (text_to k) j ≡ start j
    pub done : (j : ℕ) → j < c → heights_in (text_to k) j ≡ cells j
    pub so_far : heights_in (text_to k) c ≡ take (room_in (k - start c)) (cells c)
    pub all : all_heights (text_to k) ≡ joined (map cells (below c)) ++ take (room_in (k - start c)) (cells c)

  module _ (k c : ℕ) (s : Stage k c) where
    abbrev text : List ℕ
    text = text_to k

    abbrev more : List ℕ
    more = text_to (suc k)

    within : k < start n
    within = omega (arith, s.ends, start-orders (suc c) n s.below-n)

    some : 1 ≤ k
    some = omega (arith, s.begins, start-orders 0 c (omega arith))

    x : Extends text more (at k) k
    x = joins k within

    text-header : header_in text ≡ h
    text-header = header_at k (omega (arith, within)) some

    more-header : header_in more ≡ h
    more-header = header_at (suc k) within (omega arith)

    more-n : profiles_in more ≡ n
    more-n = ap (λ (a : Header). a.profiles) more-header ∙ w.all-columns

    text-n : profiles_in text ≡ n
    text-n = ap (λ (a : Header). a.profiles) text-header ∙ w.all-columns

    start-here : start_of text c ≡ start c
    start-here = s.starts c (omega arith)

    text_head : start c < k → head_in text c ≡ head_of (at (start c))
    text_head lt = ap head_of (ap (block_at text) start-here ∙ block-at k (start c) (omega (arith, within)) lt)

    here : Here text k c
    here =
        record {
          below-n = omega (arith, s.below-n, text-n);
          begins = omega (arith, start-here, s.begins);
          ends =
              by-test (ltb (start c) k)
              (λ t.
              let lt = ltb-true (start c) k t in
              let m : (head_in text c).posts ≡ length (cells c) = ap (λ (d : Head). d.posts) (text_head lt) ∙ w.posts-are c s.below-n in
              omega (arith, start-here, m, s.ends))
              (λ t. omega (arith, start-here, ltb-false (start c) k t));
        }

    more-start : (j : ℕ) → j ≤ c → start_of more j ≡ start j
    more-start j le =
        let e = s.starts j le in
        start-same text more (at k) k x j (omega (arith, e, s.begins, start-orders j c le)) ∙ e

    more-head : (j : ℕ) → j ≤ c → head_in more j ≡ head_of (at (start j))
    more-head j le =
        ap head_of
        (ap (block_at more) (more-start j le) ∙ block-at (suc k) (start j) within (omega (arith, s.begins, start-orders j c le)))

    more-posts : (head_in more c).posts ≡ length (cells c)
    more-posts = ap (λ (d : Head). d.posts) (more-head c (omega arith)) ∙ w.posts-are c s.below-n

    more-next : start_of more (suc c) ≡ start (suc c)
    more-next = ap₂ (λ (a m : ℕ). a + blocks_for m) (more-start c (omega arith)) more-posts

    abbrev turn : ℕ
    turn = k - start c

    turn-within : turn < blocks_for (length (cells c))
    turn-within = omega (arith, s.ends, s.begins)

    block_here : at k ≡ at (start c + turn)
    block_here = ap at (omega (arith, s.begins))

    -- ---- heights

    part : new_heights text more (at k) k x some c here ≡ take (posts_of_block (length (cells c)) turn) (drop (room_in turn) (cells c))
    part =
        let e : k - start_of text c ≡ turn = ap (λ (a : ℕ). k - a) start-here in
        let z : z_in more ≡ z_of h = ap z_of more-header in
        let d : (head_in more c).datum ≡ pos 0 = ap (λ (a : Head). a.datum) (more-head c (omega arith)) ∙ w.datum-zero c s.below-n in
        (λ i. heights (z i) (d i) (posts_of (posts_of_block (more-posts i) (e i)) (posts_byte (e i)) (block_here i)))
        ∙ w.cells_are c turn s.below-n turn-within

    -- so far and a part more
    grown : take (room_in turn) (cells c) ++ take (posts_of_block (length (cells c)) turn) (drop (room_in turn) (cells c))
        ≡ take (room_in (suc turn)) (cells c)
    grown =
        let m = length (cells c) in
        sym (take-add (room_in turn) (posts_of_block m turn) (cells c))
        ∙ by-test (leb (room_in (suc turn)) m)
        (λ t.
        let le = leb-true (room_in (suc turn)) m t in
        ap (λ (a : ℕ). take a (cells c)) (full_block m turn le))
        (λ t.
        let lt = leb-false (room_in (suc turn)) m t in
        take_all (room_in turn + posts_of_block m turn) (cells c) (last_of m turn lt)
        ∙ sym (take_all (room_in (suc turn)) (cells c) (omega (arith, lt))))
      where
        full_block : (m q : ℕ) → room_in (suc q) ≤ m → room_in q + posts_of_block m q ≡ room_in (suc q)
        full_block m zero le = omega (arith, le)
        full_block m (suc q) le = omega (arith, le)

        last_of : (m q : ℕ) → m < room_in (suc q) → m ≤ room_in q + posts_of_block m q
        last_of m zero lt = omega (arith, lt)
        last_of m (suc q) lt = omega (arith, lt)

    more-heights : heights_in more c ≡ take (room_in (suc turn)) (cells c)
    more-heights =
        heights-grow text more (at k) k x some c here ∙ ap₂ (λ (a b : List ℤ). a ++ b) s.so_far part ∙ grown

    more-all : all_heights more ≡ joined (map cells (below c)) ++ take (room_in (suc turn)) (cells c)
    more-all =
        all-grow text more (at k) k x some c here ∙ ap₂ (λ (a b : List ℤ). a ++ b) s.all part
        ∙ append-brackets (joined (map cells (below c))) (take (room_in turn) (cells c))
        (take (posts_of_block (length (cells c)) turn) (drop (room_in turn) (cells c)))
        ∙ ap (λ (l : List ℤ). joined (map cells (below c)) ++ l) grown

    -- the profile's last block holds the last of its cells
    all-cells : start_of more (suc c) ≤ suc k → take (room_in (suc turn)) (cells c) ≡ cells c
    all-cells le = take_all (room_in (suc turn)) (cells c) (omega (arith, le, more-next, s.begins))

    -- ---- the rules that block k adds are kept

    block-kept : Kept (block_rules more c (k - start_of text c))
    block-kept =
        let e : k - start_of text c ≡ turn = ap (λ (a : ℕ). k - a) start-here in
        let b : start_of more c + turn ≡ k = omega (arith, more-start c (omega arith), s.begins) in
        let l : block_at more (start_of more c + turn) ≡ at (start c + turn) = ap (block_at more) b ∙ x.next ∙ block_here in
        ap (λ (q : ℕ). (first_broken (block_rules more c q)).kind) e
        ∙ kept-two _ _
        (ap₂ (λ (m : ℕ) (a : List ℕ). (posts_fault (posts_of_block m turn) (posts_byte turn) a).kind) more-posts l
        ∙ w.posts-fine c turn s.below-n turn-within)
        (ap₂ (λ (m : ℕ) (a : List ℕ). (rest_fault (posts_byte turn + 6 * posts_of_block m turn) a).kind) more-posts l
        ∙ w.rest-blank c turn s.below-n turn-within)

    column-on : (j : ℕ) → j ≤ c → column_place_in more j ≡ Some j
    column-on j le = ap₂ column_by more-header (more-head j le) ∙ w.column-is j (omega (arith, le, s.below-n))

    row_on : row_place_in more c ≡ Some (row c)
    row_on = ap₂ row_by more-header (more-head c (omega arith)) ∙ w.row_is c s.below-n

    place_kept : Kept (place_rules more c)
    place_kept =
        kept-two _ _
        (rule-kept (column_kept more c (column_place_in more c)) _ (ap (column_kept more c) (column-on c (omega arith)) ∙ column-fine c refl))
        (rule-kept (row_kept more c (row_place_in more c)) _
        (ap (row_kept more c) row_on
        ∙ le-leb (row c + (head_in more c).posts) (rows_of (header_in more))
        (omega (arith, more-posts, w.row_room c s.below-n, ap rows_of more-header))))
      where
        column-fine : (j : ℕ) → j ≡ c → column_kept more j (Some j) ≡ true
        column-fine zero e =
            le-leb (0 + profiles_in more) (columns_of (header_in more)) (omega (arith, more-n, ap columns_of more-header))
        column-fine (suc j) e =
            let z : column_in more 0 ≡ 0 = ap number_on (column-on 0 (omega arith)) in
            eq-eqb (suc j) (column_in more 0 + suc j) (omega (arith, z))

    closing-kept : Kept (when (is_whole more c) (closing_rules more c))
    closing-kept =
        by-test (is_whole more c)
        (λ t.
        let le = leb-true (start_of more (suc c)) (blocks_in more) t in
        let e : heights_in more c ≡ cells c = more-heights ∙ all-cells (omega (arith, le, x.one_more)) in
        let d = more-head c (omega arith) in
        rw t
        (kept-two _ _
        (rule-kept (same_z (head_in more c).least (least_stated (heights_in more c))) _
        ((same_z-is (head_in more c).least (least_stated (heights_in more c))).1
        (ap (λ (a : Head). a.least) d ∙ w.least-is c s.below-n ∙ ap least_stated (sym e))))
        (rule-kept (same_z (head_in more c).greatest (greatest_stated (heights_in more c))) _
        ((same_z-is (head_in more c).greatest (greatest_stated (heights_in more c))).1
        (ap (λ (a : Head). a.greatest) d ∙ w.greatest-is c s.below-n ∙ ap greatest_stated (sym e))))))
        (λ t. rw t)

    -- the last block of the last profile
    last-all : suc c ≡ n → start_of more (suc c) ≤ suc k → all_heights more ≡ joined (map cells (below n))
    last-all e le =
        more-all ∙ ap (λ (l : List ℤ). joined (map cells (below c)) ++ l) (all-cells le)
        ∙ sym (joined-more cells c) ∙ ap (λ (a : ℕ). joined (map cells (below a))) e

    sheet-kept : Kept (when (leb (end_of more) (blocks_in more)) (sheet_rules more))
    sheet-kept =
        by-test (leb (end_of more) (blocks_in more))
        (λ t.
        let le = leb-true (end_of more) (blocks_in more) t in
        let o = start-order more (suc c) (profiles_in more) (omega (arith, more-n, s.below-n)) in
        let e : suc c ≡ n = omega (arith, le, x.one_more, o, more-n, more-next, s.ends, s.below-n) in
        let a : all_heights more ≡ joined (map cells (below n)) = last-all e (omega (arith, le, x.one_more, o)) in
        rw t
        (kept-two _ _
        (rule-kept (same_z (header_in more).least (least_stated (all_heights more))) _
        ((same_z-is (header_in more).least (least_stated (all_heights more))).1
        (ap (λ (b : Header). b.least) more-header ∙ w.sheet-least ∙ ap least_stated (sym a))))
        (rule-kept (same_z (header_in more).greatest (greatest_stated (all_heights more))) _
        ((same_z-is (header_in more).greatest (greatest_stated (all_heights more))).1
        (ap (λ (b : Header). b.greatest) more-header ∙ w.sheet-greatest ∙ ap greatest_stated (sym a))))))
        (λ t. rw t)

    closing-due-kept : Kept (closing_due more c)
    closing-due-kept =
        kept-both (when (is_whole more c) (closing_rules more c)) (when (leb (end_of more) (blocks_in more)) (sheet_rules more)) closing-kept sheet-kept

    head-kept : start c ≡ k → (head_fault 0 (suc c) (at k)).kind ≡ 0
    head-kept e = ap (λ (b : ℕ). (head_fault 0 (suc c) (at b)).kind) (sym e) ∙ w.head-fine c s.below-n

    -- block k breaks no rule behind the blocks before it
    pub next-kept : (first_breach 0 more).kind ≡ 0
    next-kept =
        by-test (ltb (start c) k)
        (λ t.
        let lt = ltb-true (start c) k t in
        ap (λ (b : Breach). b.kind) (further-due 0 text more (at k) k x some c here s.kept (omega (arith, lt, start-here)))
        ∙ kept-both (block_rules more c (k - start_of text c)) (closing_due more c) block-kept closing-due-kept)
        (λ t.
        let e : start c ≡ k = omega (arith, ltb-false (start c) k t, s.begins) in
        let z : k - start_of text c ≡ 0 = omega (arith, e, start-here) in
        let first : Kept (block_rules more c 0) = ap (λ (q : ℕ). (first_broken (block_rules more c q)).kind) (sym z) ∙ block-kept in
        ap (λ (b : Breach). b.kind) (opening-due 0 text more (at k) k x some c here s.kept (start-here ∙ e))
        ∙ kept-both (in_block k (head_fault 0 (suc c) (at k)) ∷ []) (block_rules more c 0 ++ (place_rules more c ++ closing_due more c))
        (kept-one (in_block k (head_fault 0 (suc c) (at k))) (head-kept e))
        (kept-both (block_rules more c 0) (place_rules more c ++ closing_due more c) first
        (kept-both (place_rules more c) (closing_due more c) place_kept closing-due-kept)))

    -- profiles before this one are as they were
    more-done : (j : ℕ) → j < c → heights_in more j ≡ cells j
    more-done j lt =
        let e = s.starts (suc j) lt in
        heights-whole text more (at k) k x some j (omega (arith, e, s.begins, start-orders (suc j) c lt)) ∙ s.done j lt

    -- the next block is of the same profile
    pub same-profile : suc k < start (suc c) → Stage (suc k) c
    same-profile lt =
        let e : suc k - start c ≡ suc turn = omega (arith, s.begins) in
        record {
          below-n = s.below-n;
          begins = omega (arith, s.begins);
          ends = lt;
          kept = next-kept;
          starts = more-start;
          done = more-done;
          so_far = more-heights ∙ ap (λ (q : ℕ). take (room_in q) (cells c)) (sym e);
          all = more-all ∙ ap (λ (q : ℕ). joined (map cells (below c)) ++ take (room_in q) (cells c)) (sym e);
        }

    -- or this was the profile's last one
    module _ (last : suc k ≡ start (suc c)) where
      whole-now : start_of more (suc c) ≤ suc k
      whole-now = omega (arith, more-next, last)

      pub closed-now : heights_in more c ≡ cells c
      closed-now = more-heights ∙ all-cells whole-now

      pub all-now : all_heights more ≡ joined (map cells (below (suc c)))
      all-now = more-all ∙ ap (λ (l : List ℤ). joined (map cells (below c)) ++ l) (all-cells whole-now) ∙ sym (joined-more cells c)

      pub starts-now : (j : ℕ) → j ≤ suc c → start_of more j ≡ start j
      starts-now j le =
          by-test (eqb j (suc c))
          (λ e. let q = eqb-true j (suc c) e in ap (start_of more) q ∙ more-next ∙ ap start (sym q))
          (λ e. let ne = eqb-false j (suc c) e in more-start j (omega (arith, le, ne)))

      pub done-now : (j : ℕ) → j < suc c → heights_in more j ≡ cells j
      done-now j lt =
          by-test (eqb j c)
          (λ e. let q = eqb-true j c e in ap (heights_in more) q ∙ closed-now ∙ ap cells (sym q))
          (λ e. let ne = eqb-false j c e in more-done j (omega (arith, lt, ne)))

      pub next-profile : suc c < n → Stage (suc k) (suc c)
      next-profile lt =
          let z : suc k - start (suc c) ≡ 0 = omega (arith, last) in
          let none : heights_in more (suc c) ≡ [] = rw (none_yet more (suc c) (omega (arith, more-next, last, x.one_more))) in
          record {
            below-n = lt;
            begins = omega (arith, last);
            ends = omega (arith, last, start-rises (suc c));
            kept = next-kept;
            starts = starts-now;
            done = done-now;
            so_far = none ∙ ap (λ (q : ℕ). take (room_in q) (cells (suc c))) (sym z);
            all =
                all-now ∙ sym (append-nil (joined (map cells (below (suc c)))))
                ∙ ap (λ (q : ℕ). joined (map cells (below (suc c))) ++ take (room_in q) (cells (suc c))) (sym z);
          }

  -- ---- from block 0 to the last

  one-within : 1 < start n
  one-within = omega (arith, start-orders 0 n (omega arith), w.some-columns)

  first-kept : (first_breach 0 (text_to 1)).kind ≡ 0
  first-kept = first-due-kept 0 (text_to 0) (text_to 1) (at 0) 0 (joins 0 (omega (arith, one-within))) refl w.header-fine

  first-stage : Stage 1 0
  first-stage =
      let x = joins 0 (omega (arith, one-within)) in
      let none : (j : ℕ) → heights_in (text_to 1) j ≡ []
      = λ j. rw (none_yet (text_to 1) j (omega (arith, x.one_more, start-from (text_to 1) j))) in
      record {
        below-n = w.some-columns;
        begins = omega arith;
        ends = omega arith;
        kept = first-kept;
        starts = λ j le. let e : j ≡ 0 = omega (arith, le) in ap (start_of (text_to 1)) e ∙ ap start (sym e);
        done = λ j lt. absurd (omega (arith, lt));
        so_far = none 0;
        all = joined-empty (heights_in (text_to 1)) 0 (profiles_in (text_to 1)) (λ j le. none j);
      }

  record Reached (k : ℕ) : Type 0 where
    profile : ℕ
    stage : Stage k profile

  reached : (k : ℕ) → suc k < start n → Reached (suc k)
  reached zero lt = record { profile = 0; stage = first-stage }
  reached (suc k) lt =
      let before = reached k (omega (arith, lt)) in
      let c = before.profile in
      let s = before.stage in
      by-test (ltb (suc (suc k)) (start (suc c)))
      (λ t. record { profile = c; stage = same-profile (suc k) c s (ltb-true (suc (suc k)) (start (suc c)) t) })
      (λ t.
      let last : suc (suc k) ≡ start (suc c) = omega (arith, ltb-false (suc (suc k)) (start (suc c)) t, s.ends) in
      let inside : suc c < n = not_last c s.below-n (omega (arith, last, lt)) in
      record { profile = suc c; stage = next-profile (suc k) c s last inside })
    where
      not_last : (c : ℕ) → c < n → start (suc c) < start n → suc c < n
      not_last c lt less =
          by-test (eqb (suc c) n)
          (λ e. let q = eqb-true (suc c) n e in absurd (omega (arith, less, ap start q)))
          (λ e. let ne = eqb-false (suc c) n e in omega (arith, lt, ne))

  -- the first k blocks break no rule
  pub prefix-kept : (k : ℕ) → k < start n → (first_breach 0 (text_to (suc k))).kind ≡ 0
  prefix-kept zero lt = first-kept
  prefix-kept (suc k) lt = let r = reached k lt in next-kept (suc k) r.profile r.stage

  pub prefix-blocks : (k : ℕ) → k ≤ start n → blocks_in (text_to k) ≡ k
  prefix-blocks k le = omega (arith, text-length k le)

  pub prefix-next : (k : ℕ) → text_to (suc k) ≡ text_to k ++ at k
  prefix-next = joined-more at

  -- ---- the whole sheet

  abbrev pub whole : List ℕ
  whole = text_to (start n)

  pub record Ended : Type 0 where
    pub starts : (j : ℕ) → j ≤ n → start_of whole j ≡ start j
    pub heights-are : (j : ℕ) → j < n → heights_in whole j ≡ cells j

  ended_by : (k c : ℕ) → suc (suc k) ≡ start n → Stage (suc k) c → Ended
  ended_by k c e s =
      let last : suc c ≡ n = omega (arith, s.below-n, e, s.ends, more-profiles) in
      let over : suc (suc k) ≡ start (suc c) = e ∙ ap start (sym last) in
      let t : text_to (suc (suc k)) ≡ whole = ap text_to e in
      record {
        starts = λ j le. ap (λ (l : List ℕ). start_of l j) (sym t) ∙ starts-now (suc k) c s over j (omega (arith, le, last));
        heights-are = λ j lt. ap (λ (l : List ℕ). heights_in l j) (sym t) ∙ done-now (suc k) c s over j (omega (arith, lt, last));
      }
    where
      more-profiles : start (suc c) + (n - suc c) ≤ start n
      more-profiles = start-orders (suc c) n s.below-n

  pub ended : Ended
  ended =
      let e : suc (suc (start n - 2)) ≡ start n = omega (arith, one-within) in
      let r = reached (start n - 2) (omega (arith, e)) in
      ended_by (start n - 2) r.profile e r.stage

  pub whole-header : header_in whole ≡ h
  whole-header = header_at (start n) (omega arith) (omega (arith, one-within))

  whole-n : profiles_in whole ≡ n
  whole-n = ap (λ (a : Header). a.profiles) whole-header ∙ w.all-columns

  -- the sheet is complete
  pub whole-complete : is_complete whole ≡ true
  whole-complete =
      let a : eqb (header_in whole).accuracy 1 ≡ false
      = ap (λ (b : Header). eqb b.accuracy 1) whole-header ∙ ne_eqb h.accuracy 1 (λ z. omega (arith, z, w.no-record-c)) in
      let b : blocks_of_sheet whole ≡ end_of whole + 0 = rw a in
      let e : end_of whole ≡ start n = ap (start_of whole) whole-n ∙ ended.starts n (omega arith) in
      le-leb (blocks_of_sheet whole) (blocks_in whole) (omega (arith, b, e, prefix-blocks (start n) (omega arith)))

  -- ---- each cell of the sheet

  start-below : (j : ℕ) → j < n → start j < start n
  start-below j lt = omega (arith, start-orders j n (omega (arith, lt)), lt)

  whole-head : (j : ℕ) → j < n → head_in whole j ≡ head_of (at (start j))
  whole-head j lt =
      ap head_of
      (ap (block_at whole) (ended.starts j (omega (arith, lt))) ∙ block-at (start n) (start j) (omega arith) (start-below j lt))

  column-zero : column_in whole 0 ≡ 0
  column-zero = ap number_on (ap₂ column_by whole-header (whole-head 0 w.some-columns) ∙ w.column-is 0 w.some-columns)

  row_here : (j : ℕ) → j < n → row_in whole j ≡ row j
  row_here j lt = ap number_on (ap₂ row_by whole-header (whole-head j lt) ∙ w.row_is j lt)

  posts-here : (j : ℕ) → j < n → posts_in whole j ≡ length (cells j)
  posts-here j lt = sym (length-map (below (posts_in whole j)) (height_in whole j) ∙ from-length 0 (posts_in whole j)) ∙ ap length (ended.heights-are j lt)

  height-here : (j i : ℕ) → j < n → i < length (cells j) → height_in whole j i ≡ get_or (cells j) i void
  height-here j i lt k =
      let p : i < posts_in whole j = omega (arith, k, posts-here j lt) in
      let z : 0 + i ≡ i = omega arith in
      sym (map_at (height_in whole j) 0 (posts_in whole j) i void p ∙ ap (height_in whole j) z)
      ∙ ap (λ (l : List ℤ). get_or l i void) (ended.heights-are j lt)

  pub cell-back : (j r : ℕ) → j < n → r < rows_of h
      → cell_in whole (j * rows_of h + r) ≡ cond (leb (row j) r) (get_or (cells j) (r - row j) void) void
  cell-back j r lt k =
      let rows : rows_in whole ≡ rows_of h = ap rows_of whole-header in
      let a : (j * rows_of h + r) / rows_in whole ≡ j = ap (λ (m : ℕ). (j * rows_of h + r) / m) rows ∙ digits_div j k in
      let b : (j * rows_of h + r) % rows_in whole ≡ r = ap (λ (m : ℕ). (j * rows_of h + r) % m) rows ∙ digits_mod j k in
      ap₂ (value_at whole) a b ∙ value
    where
      value : value_at whole j r ≡ cond (leb (row j) r) (get_or (cells j) (r - row j) void) void
      value =
          let c0 : column_in whole 0 + j ≡ j = omega (arith, column-zero) in
          let d : j - column_in whole 0 ≡ j = omega (arith, column-zero) in
          by-test (leb (row j) r)
          (λ t.
          let le = leb-true (row j) r t in
          by-test (ltb (r - row j) (length (cells j)))
          (λ u.
          let i = r - row j in
          let less = ltb-true (r - row j) (length (cells j)) u in
          let e : row_in whole j + i ≡ r = omega (arith, row_here j lt, le) in
          rw t
          (ap₂ (value_at whole) (sym c0) (sym e)
          ∙ value-of-post whole j i (omega (arith, lt, whole-n)) (omega (arith, less, posts-here j lt))
          ∙ height-here j i lt less))
          (λ u.
          let over = ltb-false (r - row j) (length (cells j)) u in
          rw t
          (value-void whole j r
          (λ st.
          let f = stands-for whole j r st in
          let p = f.post in
          let q : posts_in whole (j - column_in whole 0) ≡ length (cells j) = ap (posts_in whole) d ∙ posts-here j lt in
          let g : row_in whole (j - column_in whole 0) ≡ row j = ap (row_in whole) d ∙ row_here j lt in
          omega (arith, p, q, g, over))
          ∙ sym (get_or-eq_default (cells j) void over))))
          (λ t.
          let less = leb-false (row j) r t in
          rw t
          (value-void whole j r
          (λ st.
          let f = stands-for whole j r st in
          let g : row_in whole (j - column_in whole 0) ≡ row j = ap (row_in whole) d ∙ row_here j lt in
          omega (arith, f.row_is, g, less))))
