-- Where each begun profile of a text that breaks no rule stands, and how many posts it has. The list of rules, taken apart, carries it.
use Rattle.std.specs.Prelude.{None, Option, Some}
use mathlib.Core.List.{List, ◌∷◌, ◌++◌, map, []}
use mathlib.Core.Path.{◌≡◌, refl, sym}
use borrow.Author.Tests.{eqb-true, eqb-false, leb-true, eq-eqb, lt-ltb}
use lib.Dec.{eqb, leb, ltb}
use mathlib.Core.Bool.{Bool, true, false}
use Prim.Native.Nat.{ℕ, ◌+◌, ◌≤◌, suc, ◌-◌, zero, ◌<◌}
use native.Mathlib.Nat.{add-zero}
use native.Mathlib.Omega.{arith}
use Rattle.ground.specs.Blocks.{blocks_in, block_at}
use Rattle.laws.specs.Family.{known}
use Rattle.laws.specs.Lists.{below, joined}
use Rattle.laws.proofs.Tests.{by-test, clash}
use Rattle.heading.proofs.HeadingFacts.{Framed, family-facts}
use Rattle.sheet.specs.RecordA.{fault_of, record_of}
use Rattle.sheet.specs.RecordA.Checked.{Sheet}
use Rattle.sheet.proofs.SheetObeys.{family-sheet-obeys}
use Rattle.sheet.proofs.RulesA.{fine-known}
use Rattle.profile.specs.RecordB.{record_b, head_fault, head_of}
use Rattle.profile.specs.RecordB.Headed.{Profile}
use Rattle.profile.proofs.RecordLaws.{head-bounds}
use Rattle.meaning.specs.Rules.{Breach, rule, column_kept, row_kept, when, profile_rules, has_begun, sheet_rules, end_of, end_rules, block_rules, blocks_of, is_whole, closing_rules, place_rules, in_block, breach, first_breach}
use Rattle.meaning.specs.Text.{profiles_in, columns_in, number_on, column_in, rows_in, head_in, row_in, start_of, column_place_in, row_place_in, header_in}
use Rattle.meaning.proofs.Lists.{Kept, kept-front, kept-rest, kept_at}
use Rattle.meaning.proofs.Starts.{start-order}

-- ---- the first of a list of kept rules, those behind it, and a rule of the whole record

pub first-kept : (b : Breach) (bs : List Breach) → Kept (b ∷ bs) → b.kind ≡ 0
first-kept b bs h =
    by-test (eqb b.kind 0) (eqb-true b.kind 0) (λ e. absurd (eqb-false b.kind 0 e (rw e at h)))

pub behind-kept : (b : Breach) (bs : List Breach) → Kept (b ∷ bs) → Kept bs
behind-kept b bs h = by-test (eqb b.kind 0) (λ e. rw e at h) (λ e. absurd (eqb-false b.kind 0 e (rw e at h)))

rule-kept : (t : Bool) (b : Breach) → (b.kind ≡ 0 → ⊥) → (rule t b).kind ≡ 0 → t ≡ true
rule-kept true b n h = refl
rule-kept false b n h = absurd (n h)

-- ---- places

room-kept : (text : List ℕ) (p : Option ℕ) → column_kept text 0 p ≡ true → number_on p + profiles_in text ≤ columns_in text
room-kept text (Some c) t = leb-true (c + profiles_in text) (columns_in text) t
room-kept text None t = clash (sym t)

next-kept : (text : List ℕ) (j : ℕ) (p : Option ℕ) → column_kept text (suc j) p ≡ true → number_on p ≡ column_in text 0 + suc j
next-kept text j (Some c) t = eqb-true c (column_in text 0 + suc j) t
next-kept text j None t = clash (sym t)

row_kept-room : (text : List ℕ) (j : ℕ) (p : Option ℕ) → row_kept text j p ≡ true → number_on p + (head_in text j).posts ≤ rows_in text
row_kept-room text j (Some r) t = leb-true (r + (head_in text j).posts) (rows_in text) t
row_kept-room text j None t = clash (sym t)

pub record PlacedAt (text : List ℕ) (j : ℕ) : Type 0 where
  pub column : column_in text j ≡ column_in text 0 + j
  pub room : column_in text 0 + profiles_in text ≤ columns_in text
  pub row_room : row_in text j + (head_in text j).posts ≤ rows_in text
  pub some : 1 ≤ (head_in text j).posts
  pub most : (head_in text j).posts ≤ 2048

-- a profile whose head has no fault has 1 to 2048 posts
head-posts : (family : ℕ) (number : ℕ) (block : List ℕ) → (head_fault family number block).kind ≡ 0
    → (1 ≤ (head_of block).posts) × ((head_of block).posts ≤ 2048)
unfolding record_b
head-posts family number block h =
    let p : record_b family number block ≡ Profile (head_of block) = rw (eq-eqb (head_fault family number block).kind 0 h) in
    let b = head-bounds family number block (head_of block) p in
    (b.0, b.1)

-- the rules of profiles and of the end, behind those of record A; and those of a profile's places and of what follows
abbrev pub begun_rules : ℕ → List ℕ → ℕ → List Breach
begun_rules family text j = when (has_begun text j) (profile_rules family text j)

abbrev pub last_rules : List ℕ → List Breach
last_rules text =
    when (leb (end_of text) (blocks_in text)) (sheet_rules text) ++ when (ltb (end_of text) (blocks_in text)) (end_rules text)

abbrev pub behind_a : ℕ → List ℕ → List Breach
behind_a family text = joined (map (begun_rules family text) (below (profiles_in text))) ++ last_rules text

abbrev pub behind_place : List ℕ → ℕ → List Breach
behind_place text j =
    joined (map (λ k. block_rules text j (suc k)) (below (blocks_of text j - 1))) ++ when (is_whole text j) (closing_rules text j)

abbrev pub behind_head : List ℕ → ℕ → List Breach
behind_head text j = block_rules text j 0 ++ (place_rules text j ++ behind_place text j)

abbrev pub head_rule : ℕ → List ℕ → ℕ → Breach
head_rule family text j = in_block (start_of text j) (head_fault family (suc j) (block_at text (start_of text j)))

abbrev column_rule : List ℕ → ℕ → Breach
column_rule text j = rule (column_kept text j (column_place_in text j)) (breach 10 (start_of text j) 25)

abbrev row_rule : List ℕ → ℕ → Breach
row_rule text j = rule (row_kept text j (row_place_in text j)) (breach 10 (start_of text j) 49)

module _ (family : ℕ) (text : List ℕ) (kept : (first_breach family text).kind ≡ 0) where
  -- record A has no fault
  pub header-fine : (fault_of family (block_at text 0)).kind ≡ 0
  header-fine = first-kept (in_block 0 (fault_of family (block_at text 0))) (behind_a family text) kept

  pub header_read : record_of family (block_at text 0) ≡ Sheet (header_in text)
  unfolding record_of
  header_read = rw (eq-eqb (fault_of family (block_at text 0)).kind 0 header-fine)

  -- so the family is one that we know
  pub family-known : known family ≡ true
  family-known = fine-known family (block_at text 0) header-fine

  pub header-says : Framed (header_in text)
  header-says =
      family-facts family (header_in text) (family-sheet-obeys family family-known (block_at text 0) (header_in text) header_read)

  pub some-columns : 1 ≤ columns_in text
  some-columns = header-says.columns.0

  pub some-profiles : 1 ≤ profiles_in text
  some-profiles = header-says.profiles.least

  -- every rule of a profile that has begun is kept
  pub profile-kept : (j : ℕ) → j < profiles_in text → start_of text j < blocks_in text → Kept (profile_rules family text j)
  profile-kept j h begun =
      let all = behind-kept (in_block 0 (fault_of family (block_at text 0))) (behind_a family text) kept in
      let rules = kept-front (joined (map (begun_rules family text) (below (profiles_in text)))) (last_rules text) all in
      let one : Kept (begun_rules family text j) =
      kept_at (begun_rules family text) 0 (profiles_in text) j rules (omega arith) (omega (arith, h))
      in
      let b : has_begun text j ≡ true = lt-ltb (start_of text j) (blocks_in text) begun in
      rw b at one

  pub place_kept : (j : ℕ) → j < profiles_in text → start_of text j < blocks_in text → Kept (place_rules text j)
  place_kept j h begun =
      kept-front (place_rules text j) (behind_place text j)
      (kept-rest (block_rules text j 0) (place_rules text j ++ behind_place text j)
      (behind-kept (head_rule family text j) (behind_head text j) (profile-kept j h begun)))

  column-kept : (j : ℕ) → j < profiles_in text → start_of text j < blocks_in text
      → column_kept text j (column_place_in text j) ≡ true
  column-kept j h begun =
      rule-kept (column_kept text j (column_place_in text j)) (breach 10 (start_of text j) 25) (λ e. omega (arith, e))
      (first-kept (column_rule text j) (row_rule text j ∷ []) (place_kept j h begun))

  column-follows : (j : ℕ) → j < profiles_in text → start_of text j < blocks_in text → column_in text j ≡ column_in text 0 + j
  column-follows zero h begun = sym (add-zero (column_in text 0))
  column-follows (suc j) h begun = next-kept text j (column_place_in text (suc j)) (column-kept (suc j) h begun)

  -- where a profile that has begun stands
  pub placed_at : (j : ℕ) → j < profiles_in text → start_of text j < blocks_in text → PlacedAt text j
  placed_at j h begun =
      let first : start_of text 0 < blocks_in text = omega (arith, begun, start-order text 0 j (omega arith)) in
      let head = first-kept (head_rule family text j) (behind_head text j) (profile-kept j h begun) in
      let posts = head-posts family (suc j) (block_at text (start_of text j)) head in
      let behind = behind-kept (column_rule text j) (row_rule text j ∷ []) (place_kept j h begun) in
      let fits =
      rule-kept (row_kept text j (row_place_in text j)) (breach 10 (start_of text j) 49) (λ e. omega (arith, e))
      (first-kept (row_rule text j) [] behind)
      in
      record {
        column = column-follows j h begun;
        room = room-kept text (column_place_in text 0) (column-kept 0 (omega (arith, h)) first);
        row_room = row_kept-room text j (row_place_in text j) fits;
        some = posts.0;
        most = posts.1;
      }
