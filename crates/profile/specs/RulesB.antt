-- Document 01, "Record B", first block: the rules of its head as a list that a person can count, one line a field in the paper's
-- order. No function goes by it; that the verdict on a head is its first broken rule is proved in proofs/RecordRules.antt.
use Rattle.std.specs.Prelude.{cond, List, [], ◌∷◌, ◌++◌, ℕ, ◌*◌, ◌%◌, ◌^◌, eqb, leb, nat_abs}
use Rattle.laws.specs.Family.{is_canadian}
use Rattle.laws.specs.Lists.{joined}
use Rattle.laws.specs.Sign.{◌and◌}
use Rattle.field.specs.declared.Limits.{Limits}
use Rattle.field.specs.Field.{limits, real_at}
use Rattle.field.specs.Rules.{Clause, clause, length_rules, integer_in, integer_by, real_rules}

-- a datum is a real; it is whole hundredths, of 10,000,000 billionths each, and its magnitude at most 10,000 (7)
abbrev pub datum_rules : ℕ → List Clause
datum_rules first =
    real_rules first 24
    ++ (clause first 7 (λ b. eqb (nat_abs (real_at first b) % 10 ^ 7) 0 and leb (nat_abs (real_at first b)) (10000 * 10 ^ 9)) ∷ [])

-- posts: 1 to 2,048 in a USGS sheet, 1,201 in a Canadian one
abbrev pub many_posts : ℕ → Limits
many_posts family = cond (is_canadian family) (limits 1201 1201 1 7) (limits 1 2048 1 7)

-- the value 1; the profile's number, counted from 1; posts; the value 1; x and y; the datum; least and greatest
abbrev pub head_rules : ℕ → ℕ → List (List Clause)
head_rules family number =
    integer_in 1 6 (limits 1 1 1 9)
    ∷ integer_in 7 6 (limits number number 1 9)
    ∷ integer_by 13 6 7 (λ b. many_posts family)
    ∷ integer_in 19 6 (limits 1 1 1 9)
    ∷ real_rules 25 24
    ∷ real_rules 49 24
    ∷ datum_rules 73
    ∷ real_rules 97 24
    ∷ real_rules 121 24
    ∷ []

-- all of them, in the order in which they are reported; the block's length comes first
unfoldable pub rules_head : ℕ → ℕ → List Clause
rules_head family number = length_rules ++ joined (head_rules family number)
