-- The texts of numbers by their lengths: each is a sum over its pieces.
use mathlib.Core.Bool.{false, true}
use mathlib.Core.Path.{◌≡◌, ◌∙◌, ap}
use Prim.Native.Nat.{ℕ, ◌+◌, ◌-◌, ◌^◌, ◌<◌}
use native.Mathlib.Omega.{arith}
use borrow.Author.Tests.{le-ltb, lt-ltb}
use lib.IntN.{pos, ℤ, nat_abs, negsuc}
use lib.Signed.{lt_z}
use lib.ListN.{length, length-append}
use lib.Dec.{ltb, leb}
use mathlib.Core.List.{◌∷◌, ◌++◌}
use mir.Syntax.{w64}
use mir.Val.{SFits}
use Rattle.laws.specs.Digits.{short}
use Rattle.laws.proofs.Tests.{by-test}
use Rattle.numerals.specs.Numerals.{spell, minus}
use Rattle.numerals.proofs.Spelling.{spell-length}
use Rattle.spell.specs.Spell.{whole_text, whole_digits, power_text, size_digits, leading, decimal, real_fits}

-- no minus before a number that is not below zero
pub not-below : (n : ℕ) → lt_z (pos n) (pos 0) ≡ false
not-below n = le-ltb n 0 (omega arith)

pub whole_length : (z : ℤ) → length (whole_text z) ≡ length (minus z) + whole_digits (nat_abs z)
whole_length z =
    length-append (minus z) (spell (whole_digits (nat_abs z)) (nat_abs z))
    ∙ ap (λ k. length (minus z) + k) (spell-length (whole_digits (nat_abs z)) (nat_abs z))

pub power-length : (letter c : ℕ) → length (power_text letter c) ≡ 4
power-length letter c =
    by-test (ltb c 9) (λ e. rw e (omega (arith, spell-length 2 (9 - c)))) (λ e. rw e (omega (arith, spell-length 2 (c - 9))))

pub decimal-length : (digits letter : ℕ) (z : ℤ) → length (decimal digits letter z) ≡ length (minus z) + (digits + 6)
decimal-length digits letter z =
    let c = size_digits (nat_abs z) in
    let s = spell digits (leading digits c (nat_abs z)) in
    length-append (minus z) (48 ∷ 46 ∷ (s ++ power_text letter c))
    ∙ omega (arith, length-append s (power_text letter c), spell-length digits (leading digits c (nat_abs z)), power-length letter c)

-- an i64 without its sign has at most 19 digits
pub size_below : (z : ℤ) → SFits w64 z → nat_abs z < 10 ^ 19
size_below (pos n) f = omega (arith, f.sfits)
size_below (negsuc n) f = omega (arith, f.sfits)

-- a size that passes both tests fits where its text does
pub fits-is : (digits letter width : ℕ) (z : ℤ) → nat_abs z < 10 ^ 18 → short 18 digits (nat_abs z) ≡ true
    → real_fits digits width z ≡ leb (length (decimal digits letter z)) width
unfolding real_fits
fits-is digits letter width z h s = rw (lt-ltb (nat_abs z) (10 ^ 18) h, s, decimal-length digits letter z)
