-- What the next block adds to the rules of a text that breaks none. That the rules of earlier blocks are the same, and kept, carries it.
use Rattle.std.specs.Prelude.{None, Option, Some}
use mathlib.Core.List.{List, ◌∷◌, ◌++◌, [], map}
use mathlib.Core.Path.{◌≡◌, ◌∙◌, ap, refl, sym, ap₂}
use borrow.Author.Tests.{eq-eqb, ne_eqb, lt-ltb, le-ltb, le-leb, lt-leb}
use mathlib.Core.Bool.{Bool, true, false, cond}
use Prim.Native.Nat.{ℕ, suc, ◌+◌, ◌*◌, ◌-◌, ◌≤◌, zero, ◌<◌}
use native.Mathlib.Omega.{arith}
use lib.IntN.{ℤ}
use lib.Dec.{leb, ltb, eqb}
use Rattle.ground.specs.Blocks.{blocks_in, block_at}
use Rattle.ground.proofs.BlocksJoined.{Extends}
use Rattle.laws.specs.Lists.{from, below, joined}
use Rattle.laws.specs.Sign.{same_z}
use Rattle.laws.proofs.Lists.{append-brackets, from-append, map-append, append-nil, joined-append, map_same, joined-empty, joined-until}
use Rattle.field.specs.Field.{rest_fault}
use Rattle.frame.specs.declared.Header.{Header}
use Rattle.frame.specs.Frame.{columns_of, rows_of}
use Rattle.heading.specs.Heading.{header_of}
use Rattle.heading.proofs.HeadingFacts.{family-facts}
use Rattle.sheet.specs.RecordA.{fault_of, record_of}
use Rattle.sheet.specs.RecordA.Checked.{Sheet}
use Rattle.sheet.proofs.SheetObeys.{family-sheet-obeys}
use Rattle.sheet.proofs.RulesA.{fine-known}
use Rattle.profile.specs.declared.record_b.Head.{Head}
use Rattle.profile.specs.RecordC.{record_c}
use Rattle.profile.specs.RecordB.{head_fault}
use Rattle.ground.specs.Posts.{posts_fault, blocks_for}
use Rattle.ground.specs.Extremes.{least_stated, greatest_stated}
use Rattle.meaning.specs.Rules.{Breach, first_broken, when, in_block, posts_of_block, posts_byte, breach, rule, block_rules, closing_rules, is_whole, sheet_rules, end_of, blocks_of, first_breach, column_kept, row_kept, place_rules, profile_rules, blocks_of_sheet, has_begun, end_rules}
use Rattle.meaning.specs.Text.{start_of, head_in, profiles_in, heights_in, all_heights, number_on, column_place_in, row_place_in}
use Rattle.meaning.proofs.Lists.{Kept, first-append, kept-front, kept-rest, kept-all}
use Rattle.meaning.proofs.Starts.{next_start, start-order, start-from}
use Rattle.meaning.proofs.Joined.{Here, start-same, head-same, header-same, column-same, row_same, heights-whole, not-over}
use Rattle.meaning.proofs.Placed.{first-kept, behind-kept, begun_rules, last_rules, behind_a, behind_place, behind_head, head_rule, header-fine, profile-kept, place_kept}

-- ---- lists of rules, of which the first are kept

past-kept : (b : Breach) (bs : List Breach) → b.kind ≡ 0 → first_broken (b ∷ bs) ≡ first_broken bs
past-kept b bs h = rw (eq-eqb b.kind 0 h)

at-broken : (b : Breach) (bs : List Breach) → (b.kind ≡ 0 → ⊥) → first_broken (b ∷ bs) ≡ b
at-broken b bs h = rw (ne_eqb b.kind 0 h)

past-these : (xs ys zs : List Breach) → Kept xs → first_broken ((xs ++ ys) ++ zs) ≡ first_broken (ys ++ zs)
past-these xs ys zs h = ap first_broken (append-brackets xs ys zs) ∙ first-append xs (ys ++ zs) h

-- behind a head, a first block, a place and further blocks that are fine
past-fine : (h : Breach) (bs ps js ts ws ss : List Breach) → h.kind ≡ 0 → Kept bs → Kept ps → Kept js
    → first_broken ((h ∷ (bs ++ (ps ++ ((js ++ ts) ++ ws)))) ++ ss) ≡ first_broken (ts ++ (ws ++ ss))
past-fine h bs ps js ts ws ss a b c d =
    past-kept h ((bs ++ (ps ++ ((js ++ ts) ++ ws))) ++ ss) a
    ∙ past-these bs (ps ++ ((js ++ ts) ++ ws)) ss b
    ∙ past-these ps ((js ++ ts) ++ ws) ss c
    ∙ ap first_broken (append-brackets (js ++ ts) ws ss)
    ∙ past-these js ts (ws ++ ss) d

asked : (b : Bool) (bs : List Breach) → b ≡ true → when b bs ≡ bs
asked b bs h = rw h

unasked : (b : Bool) (bs : List Breach) → b ≡ false → when b bs ≡ []
unasked b bs h = rw h

joined-last : (f : ℕ → List Breach) (n : ℕ) → joined (map f (below (suc n))) ≡ joined (map f (below n)) ++ f n
joined-last f n =
    let e : suc n ≡ n + 1 = omega arith in
    let z : 0 + n ≡ n = omega arith in
    ap (λ (m : ℕ). joined (map f (below m))) e
    ∙ ap (λ (l : List ℕ). joined (map f l)) (from-append 0 n 1)
    ∙ ap joined (map-append f (below n) (from (0 + n) 1))
    ∙ joined-append (map f (below n)) (map f (from (0 + n) 1))
    ∙ ap (λ (m : ℕ). joined (map f (below n)) ++ (joined (map f (from m 1)))) z
    ∙ ap (λ (l : List Breach). joined (map f (below n)) ++ l) (append-nil (f n))

-- ---- rules over the header, the profile's head, the block and the heights that they depend on

abbrev block_by : ℕ → ℕ → Head → List ℕ → List Breach
block_by q b d l =
    in_block b (posts_fault (posts_of_block d.posts q) (posts_byte q) l)
    ∷ in_block b (rest_fault (posts_byte q + 6 * posts_of_block d.posts q) l)
    ∷ []

abbrev place_by : ℕ → Bool → Bool → List Breach
place_by b column row = rule column (breach 10 b 25) ∷ rule row (breach 10 b 49) ∷ []

abbrev closing_by : ℕ → Head → List ℤ → List Breach
closing_by b d hs =
    rule (same_z d.least (least_stated hs)) (breach 11 b 97)
    ∷ rule (same_z d.greatest (greatest_stated hs)) (breach 11 b 121)
    ∷ []

abbrev sheet_by : Header → List ℤ → List Breach
sheet_by h hs =
    rule (same_z h.least (least_stated hs)) (breach 11 0 739)
    ∷ rule (same_z h.greatest (greatest_stated hs)) (breach 11 0 763)
    ∷ []

abbrev end_by : ℕ → ℕ → ℕ → List ℕ → List Breach
end_by blocks most b l = rule (leb blocks most) (breach 4 most 0) ∷ (in_block b (record_c l) ∷ [])

-- a profile's rules, part by part
abbrev profile_by : Breach → List Breach → List Breach → List Breach → List Breach → List Breach
profile_by h bs ps js ws = h ∷ (bs ++ (ps ++ (js ++ ws)))

abbrev further_rules : List ℕ → ℕ → ℕ → List Breach
further_rules t j q = block_rules t j (suc q)

-- the closing of profile c, and of the sheet with the last one, where they are due
abbrev pub closing_due : List ℕ → ℕ → List Breach
closing_due t c = when (is_whole t c) (closing_rules t c) ++ when (leb (end_of t) (blocks_in t)) (sheet_rules t)

-- of a profile that is not whole, all blocks from its first on
open_blocks : (t : List ℕ) (j : ℕ) → blocks_in t ≤ start_of t (suc j) → blocks_of t j ≡ blocks_in t - start_of t j
open_blocks t j h = omega (arith, h)

-- a whole profile has all its blocks
all_blocks : (t : List ℕ) (j : ℕ) → start_of t (suc j) ≤ blocks_in t → blocks_of t j ≡ blocks_for (head_in t j).posts
all_blocks t j h = omega (arith, h)

module _ (family : ℕ) (text more block : List ℕ) (k : ℕ) (x : Extends text more block k) where
  -- ---- the rules of earlier blocks

  head-rule-same : (j : ℕ) → start_of text j < k → head_rule family more j ≡ head_rule family text j
  head-rule-same j h =
      let s = start-same text more block k x j (omega (arith, h)) in
      ap₂ (λ (b : ℕ) (l : List ℕ). in_block b (head_fault family (suc j) l)) s (ap (block_at more) s ∙ x.same (start_of text j) h)

  pub block_same : (j q : ℕ) → start_of text j < k → start_of text j + q < k → block_rules more j q ≡ block_rules text j q
  block_same j q h lt =
      let s = start-same text more block k x j (omega (arith, h)) in
      let w : start_of more j + q ≡ start_of text j + q = ap (λ (a : ℕ). a + q) s in
      let e : block_at more (start_of more j + q) ≡ block_at text (start_of text j + q)
      = ap (block_at more) w ∙ x.same (start_of text j + q) lt in
      ap₂ (λ (b : ℕ) (d : Head). block_by q b d (block_at more (start_of more j + q))) w (head-same text more block k x j h)
      ∙ ap (block_by q (start_of text j + q) (head_in text j)) e

  further_same : (j n : ℕ) → start_of text j < k → start_of text j + n < k
      → joined (map (further_rules more j) (below n)) ≡ joined (map (further_rules text j) (below n))
  further_same j n h lt =
      ap joined (map_same (further_rules more j) (further_rules text j) 0 n (λ i p q. block_same j (suc i) h (omega (arith, q, lt))))

  column-rule-same : 1 ≤ k → (j : ℕ) (p : Option ℕ) → start_of text j < k → column_kept more j p ≡ column_kept text j p
  column-rule-same some zero (Some c) h =
      ap (λ (a : Header). leb (c + a.profiles) (columns_of a)) (header-same text more block k x some)
  column-rule-same some (suc j) (Some c) h =
      let first : start_of text 0 < k = omega (arith, start-order text 0 (suc j) (omega arith), h) in
      ap (λ (p : Option ℕ). eqb c (number_on p + suc j)) (column-same text more block k x some 0 first)
  column-rule-same some zero None h = refl
  column-rule-same some (suc j) None h = refl

  row-rule-same : 1 ≤ k → (j : ℕ) (p : Option ℕ) → start_of text j < k → row_kept more j p ≡ row_kept text j p
  row-rule-same some j (Some r) h =
      ap₂ (λ (d : Head) (a : Header). leb (r + d.posts) (rows_of a)) (head-same text more block k x j h)
      (header-same text more block k x some)
  row-rule-same some j None h = refl

  pub place_same : 1 ≤ k → (j : ℕ) → start_of text j < k → place_rules more j ≡ place_rules text j
  place_same some j h =
      let s = start-same text more block k x j (omega (arith, h)) in
      let a : column_kept more j (column_place_in more j) ≡ column_kept text j (column_place_in text j)
      = ap (column_kept more j) (column-same text more block k x some j h) ∙ column-rule-same some j (column_place_in text j) h in
      let b : row_kept more j (row_place_in more j) ≡ row_kept text j (row_place_in text j)
      = ap (row_kept more j) (row_same text more block k x some j h) ∙ row-rule-same some j (row_place_in text j) h in
      ap₂ (place_by (start_of more j)) a b
      ∙ ap (λ (n : ℕ). place_by n (column_kept text j (column_place_in text j)) (row_kept text j (row_place_in text j))) s

  pub closing_same : 1 ≤ k → (j : ℕ) → start_of text (suc j) ≤ k → closing_rules more j ≡ closing_rules text j
  closing_same some j h =
      let lt : start_of text j < k = omega (arith, h, next_start text j) in
      ap₂ (closing_by (start_of more j)) (head-same text more block k x j lt) (heights-whole text more block k x some j h)
      ∙ ap (λ (n : ℕ). closing_by n (head_in text j) (heights_in text j)) (start-same text more block k x j (omega (arith, lt)))

  -- a whole profile has the same rules
  profile-same : 1 ≤ k → (j : ℕ) → start_of text (suc j) ≤ k → profile_rules family more j ≡ profile_rules family text j
  profile-same some j h =
      let lt : start_of text j < k = omega (arith, h, next_start text j) in
      let s = start-same text more block k x j (omega (arith, lt)) in
      let e = start-same text more block k x (suc j) h in
      let p : (head_in more j).posts ≡ (head_in text j).posts = ap (λ (d : Head). d.posts) (head-same text more block k x j lt) in
      let n : blocks_of text j ≡ blocks_for (head_in text j).posts = all_blocks text j (omega (arith, h, x.many)) in
      let m = blocks_of text j - 1 in
      let u : blocks_of more j ≡ blocks_of text j
      = all_blocks more j (omega (arith, e, h, x.one_more)) ∙ ap blocks_for p ∙ sym n in
      let far : start_of text j + m < k
      = last-inside (start_of text j) (blocks_for (head_in text j).posts) (blocks_of text j) n (omega arith) h in
      let f : joined (map (further_rules more j) (below (blocks_of more j - 1))) ≡ joined (map (further_rules text j) (below m))
      = ap (λ (a : ℕ). joined (map (further_rules more j) (below (a - 1)))) u ∙ further_same j m lt far in
      let wm : is_whole more j ≡ true = le-leb (start_of more (suc j)) (blocks_in more) (omega (arith, e, h, x.one_more)) in
      let wt : is_whole text j ≡ true = le-leb (start_of text (suc j)) (blocks_in text) (omega (arith, h, x.many)) in
      let w : when (is_whole more j) (closing_rules more j) ≡ when (is_whole text j) (closing_rules text j)
      = ap₂ when (wm ∙ sym wt) (closing_same some j h) in
      let first : block_rules more j 0 ≡ block_rules text j 0 = block_same j 0 lt (omega (arith, lt)) in
      let closing = when (is_whole more j) (closing_rules more j) in
      let further = joined (map (further_rules more j) (below (blocks_of more j - 1))) in
      ap₂ (λ (a : Breach) (b : List Breach). profile_by a b (place_rules more j) further closing) (head-rule-same j lt) first
      ∙ ap₂ (λ (a b : List Breach). profile_by (head_rule family text j) (block_rules text j 0) a b closing) (place_same some j lt) f
      ∙ ap (profile_by (head_rule family text j) (block_rules text j 0) (place_rules text j) (joined (map (further_rules text j) (below m)))) w
    where
      last-inside : (s n b : ℕ) → b ≡ n → 1 ≤ n → s + n ≤ k → s + (b - 1) < k
      last-inside s n b e one le = omega (arith, e, one, le)

  record-a-kept : 1 ≤ k → (first_breach family text).kind ≡ 0 → (fault_of family (block_at more 0)).kind ≡ 0
  record-a-kept some kept = ap (λ (l : List ℕ). (fault_of family l).kind) (x.same 0 some) ∙ header-fine family text kept

  profiles-same : 1 ≤ k → profiles_in more ≡ profiles_in text
  profiles-same some = ap (λ (h : Header). h.profiles) (header-same text more block k x some)

  whole-kept : 1 ≤ k → (first_breach family text).kind ≡ 0 → (j : ℕ) → j < profiles_in text → start_of text (suc j) ≤ k
      → Kept (begun_rules family more j)
  whole-kept some kept j n h =
      let lt : start_of text j < k = omega (arith, h, next_start text j) in
      let s = start-same text more block k x j (omega (arith, lt)) in
      let b : has_begun more j ≡ true = lt-ltb (start_of more j) (blocks_in more) (omega (arith, s, lt, x.one_more)) in
      ap (λ (l : List Breach). (first_broken l).kind) (asked (has_begun more j) (profile_rules family more j) b ∙ profile-same some j h)
      ∙ profile-kept family text kept j n (omega (arith, lt, x.many))

  -- ---- the next block is one of profile c

  abbrev sheet_due : List Breach
  sheet_due = when (leb (end_of more) (blocks_in more)) (sheet_rules more)

  profile-due : 1 ≤ k → (c : ℕ) → Here text k c → (first_breach family text).kind ≡ 0
      → first_breach family more ≡ first_broken (profile_rules family more c ++ sheet_due)
  profile-due some c here kept =
      let before = joined (map (begun_rules family more) (below c)) in
      let s = start-same text more block k x c here.begins in
      let over = not-over text more block k x some c here in
      let same = profiles-same some in
      let b : begun_rules family more c ≡ profile_rules family more c
      = asked (has_begun more c) (profile_rules family more c)
      (lt-ltb (start_of more c) (blocks_in more) (omega (arith, s, here.begins, x.one_more))) in
      let behind : (j : ℕ) → c < j → begun_rules family more j ≡ []
      = λ j lt. unasked (has_begun more j) (profile_rules family more j)
      (le-ltb (start_of more j) (blocks_in more) (omega (arith, x.one_more, over, start-order more (suc c) j lt))) in
      let all : joined (map (begun_rules family more) (below (profiles_in more))) ≡ before ++ profile_rules family more c
      = ap (λ (n : ℕ). joined (map (begun_rules family more) (below n))) same
      ∙ joined-until (begun_rules family more) c (profiles_in text) here.below-n behind
      ∙ ap (λ (l : List Breach). before ++ l) b in
      let late : k < end_of more
      = omega (arith, over, start-order more (suc c) (profiles_in more) (omega (arith, here.below-n, same))) in
      let last : last_rules more ≡ sheet_due
      = ap (λ (l : List Breach). sheet_due ++ l)
      (unasked (ltb (end_of more) (blocks_in more)) (end_rules more)
      (le-ltb (end_of more) (blocks_in more) (omega (arith, late, x.one_more))))
      ∙ append-nil sheet_due in
      past-kept (in_block 0 (fault_of family (block_at more 0))) (behind_a family more) (record-a-kept some kept)
      ∙ ap₂ (λ (l r : List Breach). first_broken (l ++ r)) all last
      ∙ past-these before (profile_rules family more c) sheet_due
      (kept-all (begun_rules family more) 0 c
      (λ j p q.
      whole-kept some kept j (omega (arith, q, here.below-n))
      (omega (arith, start-order text (suc j) c (omega (arith, q)), here.begins))))

  -- a further block: its own rules, and the closing
  pub further-due : (some : 1 ≤ k) (c : ℕ) → Here text k c → (first_breach family text).kind ≡ 0 → start_of text c < k
      → first_breach family more ≡ first_broken (block_rules more c (k - start_of text c) ++ closing_due more c)
  further-due some c here kept lt =
      let m = k - start_of text c - 1 in
      let turn : suc m ≡ k - start_of text c = omega (arith, lt) in
      let far : start_of text c + m < k = omega (arith, lt) in
      let grown : suc k - start_of text c - 1 ≡ suc m = omega (arith, lt) in
      let less : blocks_in text ≤ start_of text (suc c) = omega (arith, here.ends, x.many) in
      let least : blocks_in more ≤ start_of more (suc c) = omega (arith, not-over text more block k x some c here, x.one_more) in
      let s = start-same text more block k x c here.begins in
      let begun : start_of text c < blocks_in text = omega (arith, lt, x.many) in
      let fine : Kept (profile_rules family text c) = profile-kept family text kept c here.below-n begun in
      let head : (head_rule family more c).kind ≡ 0
      = ap (λ (b : Breach). b.kind) (head-rule-same c lt) ∙ first-kept (head_rule family text c) (behind_head text c) fine in
      let rest : Kept (behind_head text c) = behind-kept (head_rule family text c) (behind_head text c) fine in
      let first : Kept (block_rules more c 0)
      = ap (λ (l : List Breach). (first_broken l).kind) (block_same c 0 lt (omega (arith, lt)))
      ∙ kept-front (block_rules text c 0) (place_rules text c ++ behind_place text c) rest in
      let place : Kept (place_rules more c)
      = ap (λ (l : List Breach). (first_broken l).kind) (place_same some c lt) ∙ place_kept family text kept c here.below-n begun in
      let nt : blocks_of text c - 1 ≡ m
      = ap (λ (n : ℕ). n - 1) (open_blocks text c less) ∙ ap (λ (n : ℕ). n - start_of text c - 1) x.many in
      let nm : blocks_of more c - 1 ≡ suc m
      = ap (λ (n : ℕ). n - 1) (open_blocks more c least) ∙ ap₂ (λ (n a : ℕ). n - a - 1) x.one_more s ∙ grown in
      let after : Kept (behind_place text c)
      = kept-rest (place_rules text c) (behind_place text c)
      (kept-rest (block_rules text c 0) (place_rules text c ++ behind_place text c) rest) in
      let old : Kept (joined (map (further_rules more c) (below m)))
      = ap (λ (l : List Breach). (first_broken l).kind)
      (further_same c m lt far ∙ ap (λ (n : ℕ). joined (map (further_rules text c) (below n))) (sym nt))
      ∙ kept-front (joined (map (further_rules text c) (below (blocks_of text c - 1)))) (when (is_whole text c) (closing_rules text c))
      after in
      let split : joined (map (further_rules more c) (below (blocks_of more c - 1)))
      ≡ joined (map (further_rules more c) (below m)) ++ block_rules more c (k - start_of text c)
      = ap (λ (n : ℕ). joined (map (further_rules more c) (below n))) nm
      ∙ joined-last (further_rules more c) m
      ∙ ap (λ (q : ℕ). joined (map (further_rules more c) (below m)) ++ block_rules more c q) turn in
      let closing = when (is_whole more c) (closing_rules more c) in
      profile-due some c here kept
      ∙ ap (λ (l : List Breach).
      first_broken (profile_by (head_rule family more c) (block_rules more c 0) (place_rules more c) l closing ++ sheet_due)) split
      ∙ past-fine (head_rule family more c) (block_rules more c 0) (place_rules more c) (joined (map (further_rules more c) (below m)))
      (block_rules more c (k - start_of text c)) closing sheet_due head first place old

  -- a profile's first block: its head, its own rules, its place, and the closing
  pub opening-due : (some : 1 ≤ k) (c : ℕ) → Here text k c → (first_breach family text).kind ≡ 0 → start_of text c ≡ k
      → first_breach family more
      ≡ first_broken (in_block k (head_fault family (suc c) block) ∷ (block_rules more c 0 ++ (place_rules more c ++ closing_due more c)))
  opening-due some c here kept at =
      let s : start_of more c ≡ k = start-same text more block k x c here.begins ∙ at in
      let closing = when (is_whole more c) (closing_rules more c) in
      let head : head_rule family more c ≡ in_block k (head_fault family (suc c) block)
      = ap₂ (λ (b : ℕ) (l : List ℕ). in_block b (head_fault family (suc c) l)) s (ap (block_at more) s ∙ x.next) in
      let nm : blocks_of more c - 1 ≡ 0 = omega (arith, s, x.one_more) in
      profile-due some c here kept
      ∙ ap₂ (λ (h : Breach) (n : ℕ).
      let further = joined (map (further_rules more c) (below n)) in
      first_broken (profile_by h (block_rules more c 0) (place_rules more c) further closing ++ sheet_due)) head nm
      ∙ ap (λ (l : List Breach). first_broken (in_block k (head_fault family (suc c) block) ∷ l))
      (append-brackets (block_rules more c 0) (place_rules more c ++ closing) sheet_due
      ∙ ap (λ (l : List Breach). block_rules more c 0 ++ l) (append-brackets (place_rules more c) closing sheet_due))

  -- ---- the next block is behind the last profile

  pub end-due : (some : 1 ≤ k) → (first_breach family text).kind ≡ 0 → end_of text ≤ k
      → first_breach family more
      ≡ first_broken
      (rule (leb (suc k) (blocks_of_sheet text)) (breach 4 (blocks_of_sheet text) 0)
      ∷ (in_block (end_of text) (record_c (block_at more (end_of text))) ∷ []))
  end-due some kept over =
      let n = profiles_in text in
      let profiles = joined (map (begun_rules family more) (below (profiles_in more))) in
      let same : profiles_in more ≡ n = profiles-same some in
      let e : end_of more ≡ end_of text = ap (start_of more) same ∙ start-same text more block k x n over in
      let whole : (j : ℕ) → j < n → start_of text (suc j) ≤ k
      = λ j lt. omega (arith, start-order text (suc j) n lt, over) in
      let all : all_heights more ≡ all_heights text
      = ap (λ (a : ℕ). joined (map (heights_in more) (below a))) same
      ∙ ap joined (map_same (heights_in more) (heights_in text) 0 n
      (λ j p q. heights-whole text more block k x some j (whole j (omega (arith, q))))) in
      let sheet : sheet_rules more ≡ sheet_rules text = ap₂ sheet_by (header-same text more block k x some) all in
      let there : leb (end_of text) (blocks_in text) ≡ true = le-leb (end_of text) (blocks_in text) (omega (arith, over, x.many)) in
      let behind : Kept (last_rules text)
      = kept-rest (joined (map (begun_rules family text) (below n))) (last_rules text)
      (behind-kept (in_block 0 (fault_of family (block_at text 0))) (behind_a family text) kept) in
      let due : sheet_due ≡ sheet_rules more
      = asked (leb (end_of more) (blocks_in more)) (sheet_rules more)
      (le-leb (end_of more) (blocks_in more) (omega (arith, e, over, x.one_more))) in
      let stood : when (leb (end_of text) (blocks_in text)) (sheet_rules text) ≡ sheet_rules text
      = asked (leb (end_of text) (blocks_in text)) (sheet_rules text) there in
      let sheet-fine : Kept sheet_due
      = ap (λ (l : List Breach). (first_broken l).kind) (due ∙ sheet ∙ sym stood)
      ∙ kept-front (when (leb (end_of text) (blocks_in text)) (sheet_rules text))
      (when (ltb (end_of text) (blocks_in text)) (end_rules text)) behind in
      let fine : Kept profiles
      = kept-all (begun_rules family more) 0 (profiles_in more)
      (λ j p q.
      let lt : j < n = omega (arith, q, same) in
      whole-kept some kept j lt (whole j lt)) in
      let asks : when (ltb (end_of more) (blocks_in more)) (end_rules more) ≡ end_rules more
      = asked (ltb (end_of more) (blocks_in more)) (end_rules more)
      (lt-ltb (end_of more) (blocks_in more) (omega (arith, e, over, x.one_more))) in
      let size : blocks_of_sheet more ≡ blocks_of_sheet text
      = ap₂ (λ (a : ℕ) (h : Header). a + cond (eqb h.accuracy 1) 1 0) e (header-same text more block k x some) in
      past-kept (in_block 0 (fault_of family (block_at more 0))) (behind_a family more) (record-a-kept some kept)
      ∙ first-append profiles (last_rules more) fine
      ∙ first-append sheet_due (when (ltb (end_of more) (blocks_in more)) (end_rules more)) sheet-fine
      ∙ ap first_broken asks
      ∙ ap (λ (m : ℕ). first_broken (end_by m (blocks_of_sheet more) (end_of more) (block_at more (end_of more)))) x.one_more
      ∙ ap₂ (λ (m a : ℕ). first_broken (end_by (suc k) m a (block_at more a))) size e

  -- ---- the next block is the first

  first_block : k ≡ 0 → block_at more 0 ≡ block
  first_block z = ap (block_at more) (sym z) ∙ x.next

  pub first-due-broken : k ≡ 0 → ((fault_of family block).kind ≡ 0 → ⊥) → first_breach family more ≡ in_block 0 (fault_of family block)
  first-due-broken z bad =
      let e = first_block z in
      at-broken (in_block 0 (fault_of family (block_at more 0))) (behind_a family more)
      (λ q. bad (ap (λ (l : List ℕ). (fault_of family l).kind) (sym e) ∙ q))
      ∙ ap (λ (l : List ℕ). in_block 0 (fault_of family l)) e

  -- a record A without fault has a profile
  a-profile : (b : List ℕ) → (fault_of family b).kind ≡ 0 → 1 ≤ (header_of b).profiles
  unfolding record_of
  a-profile b h =
      let read : record_of family b ≡ Sheet (header_of b) = rw (eq-eqb (fault_of family b).kind 0 h) in
      (family-facts family (header_of b) (family-sheet-obeys family (fine-known family b h) b (header_of b) read)).profiles.least

  pub first-due-kept : k ≡ 0 → (fault_of family block).kind ≡ 0 → (first_breach family more).kind ≡ 0
  first-due-kept z good =
      let good0 : (fault_of family (block_at more 0)).kind ≡ 0 = ap (λ (l : List ℕ). (fault_of family l).kind) (first_block z) ∙ good in
      let some : 1 ≤ profiles_in more = a-profile (block_at more 0) good0 in
      let one : blocks_in more ≡ 1 = omega (arith, x.one_more, z) in
      let nothing : joined (map (begun_rules family more) (below (profiles_in more))) ≡ []
      = joined-empty (begun_rules family more) 0 (profiles_in more)
      (λ j p.
      unasked (has_begun more j) (profile_rules family more j)
      (le-ltb (start_of more j) (blocks_in more) (omega (arith, one, start-from more j)))) in
      let late : 2 ≤ end_of more = omega (arith, some, start-from more (profiles_in more)) in
      let no-sheet : sheet_due ≡ []
      = unasked (leb (end_of more) (blocks_in more)) (sheet_rules more)
      (lt-leb (end_of more) (blocks_in more) (omega (arith, one, late))) in
      let no_end : when (ltb (end_of more) (blocks_in more)) (end_rules more) ≡ []
      = unasked (ltb (end_of more) (blocks_in more)) (end_rules more)
      (le-ltb (end_of more) (blocks_in more) (omega (arith, one, late))) in
      ap (λ (b : Breach). b.kind)
      (past-kept (in_block 0 (fault_of family (block_at more 0))) (behind_a family more) good0
      ∙ ap (λ (l : List Breach). first_broken (l ++ last_rules more)) nothing
      ∙ ap₂ (λ (l r : List Breach). first_broken (l ++ r)) no-sheet no_end)
