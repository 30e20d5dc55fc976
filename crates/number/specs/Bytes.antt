-- Document 01, "Number fields": the bytes that a field is made of, and what is left of a text past a run of them.
use Rattle.std.specs.Prelude.{Bool, true, cond, false, ℕ, ◌+◌, ◌*◌, ◌-◌, eqb, leb, List, [], ◌∷◌}
use Rattle.laws.specs.Sign.{◌and◌}

-- a blank is byte 32 and no other
abbrev pub is_blank : ℕ → Bool
is_blank c = eqb c 32

abbrev pub is_digit : ℕ → Bool
is_digit c = leb 48 c and leb c 57

abbrev pub is_minus : ℕ → Bool
is_minus c = eqb c 45

abbrev pub is_sign : ℕ → Bool
is_sign c = cond (eqb c 43) true (is_minus c)

abbrev pub is_point : ℕ → Bool
is_point c = eqb c 46

-- D or E
abbrev pub is_letter : ℕ → Bool
is_letter c = cond (eqb c 68) true (eqb c 69)

abbrev pub is_empty : List ℕ → Bool
is_empty [] = true
is_empty (c ∷ s) = false

-- does the text start with such a byte
abbrev pub starts : (ℕ → Bool) → List ℕ → Bool
starts is [] = false
starts is (c ∷ s) = is c

-- the text past one such byte, if it starts with one
abbrev pub past_one : (ℕ → Bool) → List ℕ → List ℕ
past_one is [] = []
past_one is (c ∷ s) = cond (is c) s (c ∷ s)

-- the text past all such bytes that it starts with
abbrev pub past_all : (ℕ → Bool) → List ℕ → List ℕ
past_all is [] = []
past_all is (c ∷ s) = cond (is c) (past_all is s) (c ∷ s)

-- the digits that the text starts with
abbrev pub digits : List ℕ → List ℕ
digits [] = []
digits (c ∷ s) = cond (is_digit c) (c ∷ digits s) []

-- the number that digits spell after those of n
abbrev pub number : ℕ → List ℕ → ℕ
number n [] = n
number n (c ∷ s) = number (n * 10 + (c - 48)) s
