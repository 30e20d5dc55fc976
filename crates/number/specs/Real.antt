-- Document 01, "Number fields", and 02, requests 4 and 6: a real field, read alone, in billionths.
use Rattle.std.specs.Prelude.{List, ◌++◌, ℕ, ◌+◌, ◌*◌, ◌/◌, ◌%◌, ◌^◌, Bool, true, cond, false, not, leb, eqb, length}
use Rattle.laws.specs.Sign.{◌and◌, signed}
use Rattle.laws.specs.Digits.{short}
use Rattle.number.specs.Bytes.{is_point, is_digit, past_one, past_all, digits, is_sign, is_letter, starts, is_minus, number, is_blank, is_empty}
use Rattle.number.specs.declared.Reading.{Reading}
use Rattle.number.specs.Integer.{read, refused, wrong_form, of_length, unsigned_part}
use Rattle.number.specs.RealStarts.{real_byte}

-- "digits with at most one point": u is the field past its sign
abbrev pub fraction_part : List ℕ → List ℕ
fraction_part u = past_one is_point (past_all is_digit u)

abbrev pub mantissa_digits : List ℕ → List ℕ
mantissa_digits u = digits u ++ digits (fraction_part u)

abbrev pub past_mantissa : List ℕ → List ℕ
past_mantissa u = past_all is_digit (fraction_part u)

-- "an optional exponent": x is the field past its mantissa
abbrev pub power : List ℕ → List ℕ
power x = digits (past_one is_sign (past_one is_letter x))

abbrev pub power_form : List ℕ → Bool
power_form x = cond (starts is_letter x) (leb 1 (length (power x)) and leb (length (power x)) 2) true

abbrev pub past_power : List ℕ → List ℕ
past_power x = cond (starts is_letter x) (past_all is_digit (past_one is_sign (past_one is_letter x))) x

abbrev pub power_minus : List ℕ → Bool
power_minus x = cond (starts is_letter x) (starts is_minus (past_one is_letter x)) false

abbrev pub power_size : List ℕ → ℕ
power_size x = cond (starts is_letter x) (number 0 (power x)) 0

-- ".. then blanks."
abbrev pub real_form : List ℕ → Bool
real_form u =
    not (is_empty (mantissa_digits u)) and power_form (past_mantissa u) and is_empty (past_all is_blank (past_power (past_mantissa u)))

-- 02, request 4: the digits that stand behind the point put in where a field of so many bytes has none
abbrev pub assumed : ℕ → ℕ
assumed bytes = cond (eqb bytes 12) 6 (cond (eqb bytes 7) 4 15)

abbrev pub has_point : List ℕ → Bool
has_point u = starts is_point (past_all is_digit u)

-- the digits behind the point: the one that stands, or else the one put in. Zeros filled in front of too few digits are no other number.
abbrev pub decimals : ℕ → List ℕ → ℕ
decimals bytes u = cond (has_point u) (length (digits (fraction_part u))) (assumed bytes)

-- the value in billionths is mantissa × 10 ^ up / 10 ^ down
abbrev pub up : List ℕ → ℕ
up u = 9 + cond (power_minus (past_mantissa u)) 0 (power_size (past_mantissa u))

abbrev pub down : ℕ → List ℕ → ℕ
down bytes u = decimals bytes u + cond (power_minus (past_mantissa u)) (power_size (past_mantissa u)) 0

-- the value: first 7, from 10 ^ 9 units on; then 8, where billionths do not say it or 15 digits do not
unfoldable pub billionths : Bool → ℕ → ℕ → ℕ → Reading
billionths minus m u d =
    cond (leb (10 ^ 18 * 10 ^ d) (m * 10 ^ u)) (refused 7)
    (cond (eqb (m * 10 ^ u % 10 ^ d) 0 and short 18 15 (m * 10 ^ u / 10 ^ d))
    (read (signed minus (m * 10 ^ u / 10 ^ d)))
    (refused 8))

abbrev pub real_value : Bool → ℕ → List ℕ → Reading
real_value minus bytes u = billionths minus (number 0 (mantissa_digits u)) (up u) (down bytes u)

unfoldable pub real : List ℕ → Reading
real s =
    of_length 24 s
    (cond (real_form (unsigned_part s)) (real_value (starts is_minus (past_all is_blank s)) (length s) (unsigned_part s))
    (wrong_form (real_byte s)))
