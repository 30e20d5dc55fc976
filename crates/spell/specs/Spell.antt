-- Document 01, "Writing": the texts of an integer and of a real in their fields.
use Rattle.std.specs.Prelude.{List, ◌++◌, ◌∷◌, ℕ, ◌-◌, ◌*◌, ◌/◌, ◌^◌, ◌+◌, length, replicate, ℤ, nat_abs, Bool, cond, leb, ltb}
use Rattle.laws.specs.Sign.{◌and◌}
use Rattle.laws.specs.Digits.{short}
use Rattle.numerals.specs.Numerals.{count, numeral, minus, spell}

-- "right-justified .. blanks before"
abbrev pub justified : ℕ → List ℕ → List ℕ
justified width text = replicate (width - length text) 32 ++ text

-- "no leading zero": the digits that the number has, and for zero the single digit 0
abbrev pub whole_digits : ℕ → ℕ
whole_digits n = count 1 20 n

-- ".. minus if negative"
abbrev pub whole_text : ℤ → List ℕ
whole_text z = minus z ++ numeral (nat_abs z)

-- "Integers: right-justified .."
unfoldable pub integer_text : ℕ → ℤ → List ℕ
integer_text width z = justified width (whole_text z)

-- its minus and digits are not longer than the field
unfoldable pub integer_fits : ℕ → ℤ → Bool
integer_fits width z = leb (length (whole_text z)) width

-- a size of n billionths is 0.ddd × 10 ^ (its digits - 9): zero is given 9 digits, so that its power is +00
abbrev pub size_digits : ℕ → ℕ
size_digits n = count 9 18 n

-- "15 digits (6 in the spacings), the first not 0": the first p of n's c digits, or all with zeros after them
abbrev pub leading : ℕ → ℕ → ℕ → ℕ
leading p c n = n * 10 ^ (p - c) / 10 ^ (c - p)

-- "then D (E in the spacings), sign, two digits"
abbrev pub power_text : ℕ → ℕ → List ℕ
power_text letter c = letter ∷ cond (ltb c 9) (45 ∷ spell 2 (9 - c)) (43 ∷ spell 2 (c - 9))

-- "optional minus, "0.", 15 digits .."
abbrev pub decimal : ℕ → ℕ → ℤ → List ℕ
decimal digits letter z =
    minus z
    ++ (48 ∷ 46 ∷ (spell digits (leading digits (size_digits (nat_abs z)) (nat_abs z)) ++ power_text letter (size_digits (nat_abs z))))

-- "Reals: right-justified .."
unfoldable pub real_text : ℕ → ℕ → ℕ → ℤ → List ℕ
real_text digits letter width z = justified width (decimal digits letter z)

-- a magnitude below 10 ^ 9, at most so many significant digits, and a minus, "0.", the digits and the power not longer than the field
unfoldable pub real_fits : ℕ → ℕ → ℤ → Bool
real_fits digits width z =
    ltb (nat_abs z) (10 ^ 18) and short 18 digits (nat_abs z) and leb (length (minus z) + (digits + 6)) width
