-- Document 01, "Record B": the rules of a block's posts and of what remains of it, as lists that a person can count. No function
-- goes by them; that the verdict on a block is its first broken rule is proved in proofs/PostRules.antt.
use Rattle.std.specs.Prelude.{List, [], ◌∷◌, ◌++◌, ℕ, zero, suc, ◌+◌, ◌*◌, leb, nat_abs}
use Rattle.number.specs.Integer.{integer}
use Rattle.field.specs.Field.{stretch}
use Rattle.field.specs.Rules.{Clause, clause, integer_forms, blank_rules}

-- a post is an integer of six bytes (6), not further than 32,767 from zero (7)
abbrev pub post_rules : ℕ → List Clause
post_rules first = integer_forms first 6 ++ (clause first 7 (λ b. leb (nat_abs (integer (stretch first 6 b)).value) 32767) ∷ [])

-- n posts, one behind the other
abbrev pub rules_posts : ℕ → ℕ → List Clause
rules_posts zero first = []
rules_posts (suc n) first = post_rules first ++ rules_posts n (first + 6)

-- the posts, then blanks to the block's end (5)
abbrev pub rules_block : ℕ → ℕ → List Clause
rules_block first n = rules_posts n first ++ blank_rules (first + 6 * n)
