-- Written fields of a sheet, by computation.
use mathlib.Core.Bool.{true, false}
use mathlib.Core.Path.{◌≡◌, refl}
use lib.IntN.{pos, neg_ℤ}
use Prim.Native.Nat.{◌*◌, ◌^◌}
use Rattle.laws.specs.Digits.{places}
use Rattle.laws.specs.Texts.{bytes}
use Rattle.numerals.specs.Numerals.{spell, count}
use Rattle.spell.specs.Spell.{integer_text, integer_fits, real_text}

written-integer : integer_text 6 (neg_ℤ (pos 7)) ≡ bytes "    -7"
unfolding integer_text spell count places
written-integer = refl

written-zero : integer_text 6 (pos 0) ≡ bytes "     0"
unfolding integer_text spell count places
written-zero = refl

-- a minus has a byte of its own, and zero has a digit
written-most : integer_text 6 (neg_ℤ (pos 99999)) ≡ bytes "-99999"
unfolding integer_text spell count places
written-most = refl

most-fits : integer_fits 6 (neg_ℤ (pos 99999)) ≡ true
unfolding integer_fits spell count places
most-fits = refl

one-more-refused : integer_fits 6 (neg_ℤ (pos 100000)) ≡ false
unfolding integer_fits spell count places
one-more-refused = refl

zero-needs-a-byte : integer_fits 0 (pos 0) ≡ false
unfolding integer_fits spell count places
zero-needs-a-byte = refl

written-real : real_text 15 68 24 (pos (428400 * 10 ^ 9)) ≡ bytes "   0.428400000000000D+06"
unfolding real_text spell count places
written-real = refl

written-billionth : real_text 15 68 24 (neg_ℤ (pos 1)) ≡ bytes "  -0.100000000000000D-08"
unfolding real_text spell count places
written-billionth = refl

written-real-zero : real_text 15 68 24 (pos 0) ≡ bytes "   0.000000000000000D+00"
unfolding real_text spell count places
written-real-zero = refl

written-spacing : real_text 6 69 12 (pos (30 * 10 ^ 9)) ≡ bytes "0.300000E+02"
unfolding real_text spell count places
written-spacing = refl
