-- Document 01, "Record A", and 02, request 2, as lists of rules that a person can count: one line a field, in the paper's order, with the bytes
-- and limits of the paper's table written out again. Nothing here is made from the table that the code walks (RecordA, Heading);
-- that the verdict on a block is its first broken rule is proved in proofs/RulesA.antt.
use Rattle.std.specs.Prelude.{cond, List, [], ◌∷◌, ℕ, ◌*◌, ◌^◌, eqb, leb}
use Rattle.laws.specs.Family.{is_canadian}
use Rattle.laws.specs.Lists.{joined}
use Rattle.laws.specs.Sign.{◌and◌}
use Rattle.field.specs.declared.Limits.{Limits}
use Rattle.field.specs.Field.{limits, whole_at, real_at}
use Rattle.field.specs.Rules.{Clause, clause, text_rules, mixed_rules, filler_rules, integer_forms, integer_in, integer_by, real_forms, real_rules, real_in, real_by}
use Rattle.frame.specs.Frame.{corners_in_order, columns_of, rows_of, one_to2048, pairs, listed}
use Rattle.corner.specs.Corner.{says_corner}
use Rattle.heading.specs.Heading.{header_of}

-- what goes by the system, bytes 157-162: geographic, UTM, state plane
abbrev pub by_system : Limits → Limits → Limits → List ℕ → Limits
by_system geographic utm plane b = cond (eqb (whole_at 157 b) 0) geographic (cond (eqb (whole_at 157 b) 1) utm plane)

-- what goes by the vertical unit, bytes 535-540: feet, metres
abbrev pub by_unit : Limits → Limits → List ℕ → Limits
by_unit feet metres b = cond (eqb (whole_at 535 b) 1) feet metres

-- over the whole record: the corners in order, columns and rows 1 to 2,048, and no more profiles than columns
abbrev pub whole_rules : List Clause
whole_rules =
    clause 547 10 (λ b. corners_in_order (header_of b))
    ∷ clause 817 10 (λ b. one_to2048 (columns_of (header_of b)) and one_to2048 (rows_of (header_of b)))
    ∷ clause 859 10 (λ b. leb (header_of b).profiles (columns_of (header_of b)))
    ∷ []

-- all rules, in the order in which they are reported: first byte, width, then least, greatest, step and kind; reals in billionths
unfoldable pub rules_a : List Clause
rules_a =
    joined
    (text_rules 1 144
    ∷ integer_in 145 6 (limits 1 3 1 9)
    ∷ integer_in 151 6 (limits 1 1 1 9)
    ∷ integer_in 157 6 (limits 0 2 1 9)
    ∷ integer_by 163 6 9 (by_system (limits 0 0 1 9) (limits 1 60 1 9) (limits 1 9999 1 9))
    ∷ real_forms 169 24
    ∷ real_forms 193 24
    ∷ real_forms 217 24
    ∷ real_forms 241 24
    ∷ real_forms 265 24
    ∷ real_forms 289 24
    ∷ real_forms 313 24
    ∷ real_forms 337 24
    ∷ real_forms 361 24
    ∷ real_forms 385 24
    ∷ real_forms 409 24
    ∷ real_forms 433 24
    ∷ real_forms 457 24
    ∷ real_forms 481 24
    ∷ real_forms 505 24
    ∷ integer_by 529 6 9 (by_system (limits 3 3 1 9) (limits 2 2 1 9) (limits 1 2 1 9))
    ∷ integer_in 535 6 (limits 1 2 1 9)
    ∷ integer_in 541 6 (limits 4 4 1 9)
    ∷ real_rules 547 24
    ∷ real_rules 571 24
    ∷ real_rules 595 24
    ∷ real_rules 619 24
    ∷ real_rules 643 24
    ∷ real_rules 667 24
    ∷ real_rules 691 24
    ∷ real_rules 715 24
    ∷ real_rules 739 24
    ∷ real_rules 763 24
    ∷ real_in 787 24 (limits 0 0 1 9)
    ∷ integer_in 811 6 (limits 0 1 1 9)
    ∷ real_in 817 12 (limits (10 ^ 9) (9999 * 10 ^ 9) (10 ^ 9) 7)
    ∷ real_in 829 12 (limits (10 ^ 9) (9999 * 10 ^ 9) (10 ^ 9) 7)
    ∷ real_by 841 12 7 (by_unit (limits (10 ^ 8) (10 ^ 9) (10 ^ 8) 7) (limits (10 ^ 7) (10 ^ 9) (10 ^ 7) 7))
    ∷ integer_in 853 6 (limits 1 1 1 9)
    ∷ integer_in 859 6 (limits 1 2048 1 7)
    ∷ text_rules 865 160
    ∷ whole_rules
    ∷ [])

-- ---- 02, request 2: a Canadian sheet

-- over the whole record: the corner in degrees is the SW corner (15), the pair of spacings is listed (7), the corners in order, 1,201 columns
-- and rows (10)
abbrev pub canadian_whole : List Clause
canadian_whole =
    clause 110 15 (λ b. says_corner b (real_at 547 b) (real_at 571 b))
    ∷ clause 817 7 (λ b. listed (header_of b).xstep (header_of b).ystep pairs)
    ∷ clause 547 10 (λ b. corners_in_order (header_of b))
    ∷ clause 817 10 (λ b. eqb (columns_of (header_of b)) 1201 and eqb (rows_of (header_of b)) 1201)
    ∷ []

-- all rules; degrees have no limits, minutes and seconds are below 60, x and y spacing are any reals until their pair is judged
unfoldable pub rules_canadian : List Clause
rules_canadian =
    joined
    (mixed_rules 1 40
    ∷ mixed_rules 41 60
    ∷ filler_rules 101 9
    ∷ integer_forms 110 4
    ∷ integer_in 114 2 (limits 0 59 1 7)
    ∷ real_in 116 7 (limits 0 59999999999 1 7)
    ∷ integer_forms 123 4
    ∷ integer_in 127 2 (limits 0 59 1 7)
    ∷ real_in 129 7 (limits 0 59999999999 1 7)
    ∷ text_rules 136 1
    ∷ filler_rules 137 1
    ∷ text_rules 138 7
    ∷ integer_in 145 6 (limits 1 1 1 9)
    ∷ integer_in 151 6 (limits 1 1 1 9)
    ∷ integer_in 157 6 (limits 0 0 1 9)
    ∷ integer_in 163 6 (limits 0 0 1 9)
    ∷ real_forms 169 24
    ∷ real_forms 193 24
    ∷ real_forms 217 24
    ∷ real_forms 241 24
    ∷ real_forms 265 24
    ∷ real_forms 289 24
    ∷ real_forms 313 24
    ∷ real_forms 337 24
    ∷ real_forms 361 24
    ∷ real_forms 385 24
    ∷ real_forms 409 24
    ∷ real_forms 433 24
    ∷ real_forms 457 24
    ∷ real_forms 481 24
    ∷ real_forms 505 24
    ∷ integer_by 529 6 9 (by_system (limits 3 3 1 9) (limits 2 2 1 9) (limits 1 2 1 9))
    ∷ integer_in 535 6 (limits 2 2 1 9)
    ∷ integer_in 541 6 (limits 4 4 1 9)
    ∷ real_rules 547 24
    ∷ real_rules 571 24
    ∷ real_rules 595 24
    ∷ real_rules 619 24
    ∷ real_rules 643 24
    ∷ real_rules 667 24
    ∷ real_rules 691 24
    ∷ real_rules 715 24
    ∷ real_rules 739 24
    ∷ real_rules 763 24
    ∷ real_in 787 24 (limits 0 0 1 9)
    ∷ integer_in 811 6 (limits 0 0 1 9)
    ∷ real_rules 817 12
    ∷ real_rules 829 12
    ∷ real_by 841 12 7 (by_unit (limits (10 ^ 8) (10 ^ 9) (10 ^ 8) 7) (limits (10 ^ 7) (10 ^ 9) (10 ^ 7) 7))
    ∷ integer_in 853 6 (limits 1 1 1 9)
    ∷ integer_in 859 6 (limits 1201 1201 1 7)
    ∷ text_rules 865 160
    ∷ canadian_whole
    ∷ [])

-- the rules of a family's record A: 01's, with what request 2 puts beside them or in their place
abbrev pub rules_for : ℕ → List Clause
rules_for family = cond (is_canadian family) rules_canadian rules_a
