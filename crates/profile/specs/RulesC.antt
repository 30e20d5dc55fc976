-- Document 01, "Record C": its rules as a list that a person can count, one line a field in the paper's order. No function goes
-- by it; that the verdict on a block is its first broken rule is proved in proofs/RecordRules.antt.
use Rattle.std.specs.Prelude.{not, List, [], ◌∷◌, ◌++◌, ℕ, eqb, pos}
use Rattle.std.specs.Int.Signed.{lt_z}
use Rattle.laws.specs.Lists.{joined}
use Rattle.laws.specs.Sign.{is_zero, implies}
use Rattle.number.specs.Integer.{integer}
use Rattle.field.specs.Field.{limits, stretch, whole_at}
use Rattle.field.specs.Rules.{Clause, clause, length_rules, integer_forms, integer_in, blank_rules}

-- an error or a count, by the byte of its code: an integer; not below zero (7); then zero where the code is 0 (9)
abbrev pub error_rules : ℕ → ℕ → List Clause
error_rules code first =
    integer_forms first 6
    ++ (clause first 7 (λ b. not (lt_z (integer (stretch first 6 b)).value (pos 0)))
    ∷ clause first 9 (λ b. implies (eqb (whole_at code b) 0) (is_zero (integer (stretch first 6 b)).value))
    ∷ [])

-- a code, 0 or 1 (9), three errors and a count, twice over
abbrev pub accuracy_rules : List (List Clause)
accuracy_rules =
    integer_in 1 6 (limits 0 1 1 9)
    ∷ error_rules 1 7
    ∷ error_rules 1 13
    ∷ error_rules 1 19
    ∷ error_rules 1 25
    ∷ integer_in 31 6 (limits 0 1 1 9)
    ∷ error_rules 31 37
    ∷ error_rules 31 43
    ∷ error_rules 31 49
    ∷ error_rules 31 55
    ∷ []

-- all of them, in the order in which they are reported; the block's length comes first, and the blanks behind the fields last
unfoldable pub rules_c : List Clause
rules_c = length_rules ++ (joined accuracy_rules ++ blank_rules 61)
