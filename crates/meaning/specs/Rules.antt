-- Which texts of a family break no rule of document 01 and of 02, request 2, and which rule a text breaks first: whole records, each with all
-- its blocks. Only what is asked of a record A and of a profile's head goes by the family.
use Rattle.std.specs.Prelude.{None, Option, Some}
use Rattle.std.specs.Prelude.{ℕ, zero, suc, ◌+◌, ◌*◌, ◌-◌, min, Bool, cond, false, List, [], ◌∷◌, ◌++◌, map, eqb, leb, ltb}
use Rattle.ground.specs.Blocks.{block_at, blocks_in}
use Rattle.laws.specs.Sign.{same_z}
use Rattle.laws.specs.Lists.{below, joined}
use Rattle.field.specs.declared.Fault.{Fault}
use Rattle.field.specs.Field.{rest_fault}
use Rattle.sheet.specs.RecordA.{fault_of}
use Rattle.profile.specs.RecordB.{head_fault}
use Rattle.profile.specs.RecordC.{record_c}
use Rattle.ground.specs.Posts.{posts_fault, blocks_for}
use Rattle.ground.specs.Extremes.{least_stated, greatest_stated}
use Rattle.meaning.specs.Text.{start_of, head_in, profiles_in, columns_in, column_in, rows_in, column_place_in, row_place_in, heights_in, header_in, all_heights}

-- a broken rule: document 01's number, the block, the byte; kind 0 where the rule is kept
pub record Breach : Type 0 where
  pub kind : ℕ
  pub block : ℕ
  pub byte : ℕ

abbrev pub breach : ℕ → ℕ → ℕ → Breach
breach kind block byte = record { kind = kind; block = block; byte = byte }

abbrev pub none : Breach
none = breach 0 0 0

abbrev pub in_block : ℕ → Fault → Breach
in_block b f = breach f.kind b f.byte

-- a rule of the whole record, kept or broken
abbrev pub rule : Bool → Breach → Breach
rule kept b = cond kept none b

-- the first broken rule of a list
abbrev pub first_broken : List Breach → Breach
first_broken [] = none
first_broken (b ∷ bs) = cond (eqb b.kind 0) (first_broken bs) b

-- rules that are asked only then
abbrev pub when : Bool → List Breach → List Breach
when asked bs = cond asked bs []

-- ---- extremes of heights

-- ---- one profile, of which the text has at least the first block

-- of m posts, those in the profile's k-th block, counted from 0, and the byte of the first
abbrev pub posts_of_block : ℕ → ℕ → ℕ
posts_of_block m zero = min m 146
posts_of_block m (suc k) = min (m - (146 + 170 * k)) 170

abbrev pub posts_byte : ℕ → ℕ
posts_byte zero = 145
posts_byte (suc k) = 1

-- "Posts run -32767 to 32767 (7)"; "All that remains of a block is blank (5)"
abbrev pub block_rules : List ℕ → ℕ → ℕ → List Breach
block_rules text j k =
    let b = start_of text j + k in
    let n = posts_of_block (head_in text j).posts k in
    in_block b (posts_fault n (posts_byte k) (block_at text b))
    ∷ in_block b (rest_fault (posts_byte k + 6 * n) (block_at text b))
    ∷ []

-- "x is on the lattice": the first profile so that all n find room, every other one column east of the one before
abbrev pub column_kept : List ℕ → ℕ → Option ℕ → Bool
column_kept text j None = false
column_kept text zero (Some c) = leb (c + profiles_in text) (columns_in text)
column_kept text (suc j) (Some c) = eqb c (column_in text 0 + suc j)

-- "y is on the lattice": and the m posts from its row on do not pass the rows
abbrev pub row_kept : List ℕ → ℕ → Option ℕ → Bool
row_kept text j None = false
row_kept text j (Some r) = leb (r + (head_in text j).posts) (rows_in text)

abbrev pub place_rules : List ℕ → ℕ → List Breach
place_rules text j =
    rule (column_kept text j (column_place_in text j)) (breach 10 (start_of text j) 25)
    ∷ rule (row_kept text j (row_place_in text j)) (breach 10 (start_of text j) 49)
    ∷ []

-- "Closing a profile": the two extremes it states are those of its filled cells, zero without any
abbrev pub closing_rules : List ℕ → ℕ → List Breach
closing_rules text j =
    rule (same_z (head_in text j).least (least_stated (heights_in text j))) (breach 11 (start_of text j) 97)
    ∷ rule (same_z (head_in text j).greatest (greatest_stated (heights_in text j))) (breach 11 (start_of text j) 121)
    ∷ []

-- the blocks of a profile that the text has, and whether it has them all
abbrev pub blocks_of : List ℕ → ℕ → ℕ
blocks_of text j = min (blocks_for (head_in text j).posts) (blocks_in text - start_of text j)

abbrev pub is_whole : List ℕ → ℕ → Bool
is_whole text j = leb (start_of text (suc j)) (blocks_in text)

-- the fields of its head, the posts and blanks of its first block, its place; the posts and blanks of its further blocks; and
-- closing, where the text has all its posts
abbrev pub profile_rules : ℕ → List ℕ → ℕ → List Breach
profile_rules family text j =
    in_block (start_of text j) (head_fault family (suc j) (block_at text (start_of text j)))
    ∷ (block_rules text j 0
    ++ (place_rules text j
    ++ (joined (map (λ k. block_rules text j (suc k)) (below (blocks_of text j - 1)))
    ++ when (is_whole text j) (closing_rules text j))))

-- ---- the whole sheet

-- "Closing the last profile": what record A states, over all filled cells
abbrev pub sheet_rules : List ℕ → List Breach
sheet_rules text =
    rule (same_z (header_in text).least (least_stated (all_heights text))) (breach 11 0 739)
    ∷ rule (same_z (header_in text).greatest (greatest_stated (all_heights text))) (breach 11 0 763)
    ∷ []

-- the block behind the last profile
abbrev pub end_of : List ℕ → ℕ
end_of text = start_of text (profiles_in text)

-- "Record C, only with accuracy 1, is one block": how many blocks the whole sheet has
abbrev pub blocks_of_sheet : List ℕ → ℕ
blocks_of_sheet text = end_of text + cond (eqb (header_in text).accuracy 1) 1 0

-- the text has every block of its sheet
abbrev pub is_complete : List ℕ → Bool
is_complete text = leb (blocks_of_sheet text) (blocks_in text)

-- a profile has begun where the text has its first block
abbrev pub has_begun : List ℕ → ℕ → Bool
has_begun text j = ltb (start_of text j) (blocks_in text)

-- kind 4 for a block behind the last one; else record C's own rules
abbrev pub end_rules : List ℕ → List Breach
end_rules text =
    rule (leb (blocks_in text) (blocks_of_sheet text)) (breach 4 (blocks_of_sheet text) 0)
    ∷ in_block (end_of text) (record_c (block_at text (end_of text)))
    ∷ []

abbrev pub rules_of : ℕ → List ℕ → List Breach
rules_of family text =
    in_block 0 (fault_of family (block_at text 0))
    ∷ (joined (map (λ j. when (has_begun text j) (profile_rules family text j)) (below (profiles_in text)))
    ++ (when (leb (end_of text) (blocks_in text)) (sheet_rules text)
    ++ when (ltb (end_of text) (blocks_in text)) (end_rules text)))

-- the first rule that a text of whole blocks breaks
abbrev pub first_breach : ℕ → List ℕ → Breach
first_breach family text = first_broken (rules_of family text)
