-- The decimal digits of a number. Nothing here knows the format.
use Rattle.std.specs.Prelude.{List, [], ◌∷◌, ℕ, zero, suc, ◌+◌, ◌/◌, ◌%◌, ◌^◌, cond, leb, ltb, eqb, ℤ, pos}
use Rattle.std.specs.Int.Signed.{lt_z}
use Rattle.laws.specs.Sign.{◌and◌}
use Rattle.laws.specs.Digits.{places}

-- k decimal digits of n, from the left
unfoldable pub spell : ℕ → ℕ → List ℕ
spell zero n = []
spell (suc k) n = (48 + n / 10 ^ k) ∷ spell k (n % 10 ^ k)

-- the same, where k digits are enough and no more than 64 bits need; else none
abbrev pub fixed : ℕ → ℕ → List ℕ
fixed k n = cond (leb k 20 and ltb n (10 ^ k)) (spell k n) []

-- how many digits n has, at most k; zero, which has none, is given `none` of them
unfoldable pub count : ℕ → ℕ → ℕ → ℕ
count none k n = cond (eqb n 0) none (places k n)

-- a number's decimal digits, at most k of them: no zeros before them, and zero is 0
abbrev pub digits_of : ℕ → ℕ → List ℕ
digits_of k n = spell (count 1 k n) n

-- no number of 64 bits has more than 20 digits
abbrev pub numeral : ℕ → List ℕ
numeral n = digits_of 20 n

-- a minus before a number below zero
abbrev pub minus : ℤ → List ℕ
minus z = cond (lt_z z (pos 0)) (45 ∷ []) []
