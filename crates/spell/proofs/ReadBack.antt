-- What is written reads back as what was written: each text has the form that the grammar names, and "complete" says the rest.
use mathlib.Core.Bool.{true}
use mathlib.Core.Path.{◌≡◌, ◌∙◌, refl, sym, ap}
use Prim.Native.Nat.{ℕ, ◌-◌, ◌^◌, ◌≤◌, ◌<◌, ◌+◌, ◌*◌}
use native.Mathlib.Omega.{arith}
use borrow.Author.Tests.{ltb-true, ltb-false}
use lib.Dec.{ltb}
use lib.IntN.{ℤ, nat_abs, pos}
use lib.ListN.{length, replicate}
use lib.Signed.{lt_z}
use mathlib.Core.List.{List, [], ◌∷◌, ◌++◌, append-nil}
use native.Mathlib.Nat.{mul-lt-mul_of_pos_right}
use Rattle.laws.proofs.Tests.{by-test}
use Rattle.laws.proofs.Shorts.{short-few}
use Rattle.laws.proofs.Tens.{ten-pos, ten-up}
use Rattle.numerals.specs.Numerals.{spell, minus}
use Rattle.numerals.proofs.Counts.{places-stop, count-some, count-above, count-least, count_most}
use Rattle.numerals.proofs.Spelling.{spell-length}
use Rattle.numerals.proofs.Spelled.{spell-digits, spell-number}
use Rattle.number.specs.Grammar.{IntegerText, RealText, Large, Billionths, sunk}
use Rattle.number.specs.Integer.{integer, read}
use Rattle.number.specs.Bytes.{is_letter}
use Rattle.number.specs.Grammar.Fraction.{pointed}
use Rattle.number.specs.Real.{real}
use Rattle.number.proofs.Grammar.{integer-means, real-means}
use Rattle.spell.specs.Spell.{whole_digits, integer_fits, whole_text, integer_text, size_digits, leading, decimal, power_text, real_text, real_fits}
use Rattle.spell.proofs.Fits.{integer-room, integer-length, RealFits, real-fits, real-length}
use Rattle.spell.proofs.Texts.{whole_length}
use Rattle.spell.proofs.Spelled.{blanks-blank, minus-sign, sign-size}
use Rattle.spell.proofs.Exponents.{lowered, power, exponent-is, fraction-is}
use Rattle.spell.proofs.Leading.{leading-below, leading-is, short-rest}

-- a number whose text fits a short field has no more digits than are counted
size_small : (width : ℕ) (z : ℤ) → width ≤ 6 → integer_fits width z ≡ true → nat_abs z < 10 ^ 20
size_small width z h f =
    by-test (ltb (nat_abs z) (10 ^ 20)) (λ e. ltb-true (nat_abs z) (10 ^ 20) e)
    (λ e. absurd (large (ltb-false (nat_abs z) (10 ^ 20) e)))
  where
    large : 10 ^ 20 ≤ nat_abs z → ⊥
    large l =
        let g : 10 ^ (20 - 1) ≤ nat_abs z = omega arith in
        let k : whole_digits (nat_abs z) ≡ 20 =
        count-some 1 20 (nat_abs z) (λ e. omega arith) ∙ places-stop 20 (nat_abs z) (omega arith) g
        in
        omega (arith, integer-room width z f, whole_length z)

module _ (width : ℕ) (z : ℤ) (h : width ≤ 6) (f : integer_fits width z ≡ true) where
  below : nat_abs z < 10 ^ whole_digits (nat_abs z)
  below = count-above 1 20 (nat_abs z) (size_small width z h f)

  integer-form : IntegerText (integer_text width z) (lt_z z (pos 0)) (nat_abs z)
  unfolding integer_text
  integer-form =
      let k = whole_digits (nat_abs z) in
      let l : 1 ≤ k = count-least 1 20 (nat_abs z) (omega arith) (size_small width z h f) in
      record {
        blanks = replicate (width - length (whole_text z)) 32;
        sign = minus z;
        digits = spell k (nat_abs z);
        text = refl;
        blank = blanks-blank (width - length (whole_text z));
        signs = minus-sign z;
        digit = spell-digits k (nat_abs z) below;
        some = omega (arith, spell-length k (nat_abs z));
        spells = spell-number k (nat_abs z) below;
      }

pub integer-back : (width : ℕ) (z : ℤ) → width ≤ 6 → 1 ≤ width → integer_fits width z ≡ true
    → integer (integer_text width z) ≡ read z
integer-back width z h l f =
    let e = integer-length width z f in
    (integer-means (integer_text width z) z).1 (
      (omega arith, omega arith),
      record { negative = lt_z z (pos 0); size = nat_abs z; form = integer-form width z h f; value = sign-size z },
    )

-- the letter, the count of digits and the width are any that the reading takes
module _ (digits letter width : ℕ) (z : ℤ) (few : digits ≤ 15) (t : is_letter letter ≡ true)
    (f : real_fits digits width z ≡ true) where
  abbrev n : ℕ
  n = nat_abs z

  abbrev c : ℕ
  c = size_digits n

  abbrev m : ℕ
  m = leading digits c n

  fits : RealFits digits width z
  fits = real-fits digits width z f

  digits-below : m < 10 ^ digits
  digits-below = leading-below digits c n (count-above 9 18 n fits.modest)

  exact : Billionths m digits (lowered c) (power c) n
  exact =
      let s = short-few 18 digits n fits.modest fits.few in
      let up : 10 ^ digits ≤ 10 ^ 15 = ten-up few in
      record {
        fraction = fraction-is m n digits c (leading-is digits c n (short-rest 9 18 digits n fits.few));
        front = s.front;
        zeros = s.zeros;
        few = omega (arith, s.below);
        digits = s.is;
      }

  modest : Large m digits (lowered c) (power c) → ⊥
  modest l =
      let scale = digits + sunk (lowered c) (power c) in
      let b : n * 10 ^ scale < 10 ^ 18 * 10 ^ scale = mul-lt-mul_of_pos_right fits.modest (ten-pos scale) in
      omega (arith, exact.fraction)

  real-form : RealText (real_text digits letter width z) (lt_z z (pos 0)) m digits (lowered c) (power c)
  unfolding real_text
  real-form =
      let gap = width - length (decimal digits letter z) in
      record {
        blanks = replicate gap 32;
        sign = minus z;
        digits = 48 ∷ [];
        after = 46 ∷ spell digits m;
        fraction = spell digits m;
        exponent = power_text letter c;
        rest = [];
        text =
            ap (λ (x : List ℕ). replicate gap 32 ++ (minus z ++ (48 ∷ 46 ∷ (spell digits m ++ x))))
            (sym (append-nil (power_text letter c)));
        blank = blanks-blank gap;
        signs = minus-sign z;
        digit = refl;
        fractions = pointed (spell digits m) (spell-digits digits m digits-below);
        some = omega arith;
        spells = spell-number digits m digits-below;
        decimals = spell-length digits m;
        exponents = exponent-is letter c t (count_most 9 18 n (omega arith));
        ends = refl;
      }

  decimal-back : width ≤ 24 → real (real_text digits letter width z) ≡ read z
  decimal-back h =
      let e = real-length digits width z letter f in
      (real-means (real_text digits letter width z) z).1 (
        (omega (arith, fits.room), omega arith),
        record {
          negative = lt_z z (pos 0);
          mantissa = m;
          places = digits;
          lowered = lowered c;
          power = power c;
          size = n;
          form = real-form;
          modest = modest;
          exact = exact;
          value = sign-size z;
        },
      )

pub real-back : (width : ℕ) (z : ℤ) → width ≤ 24 → real_fits 15 width z ≡ true → real (real_text 15 68 width z) ≡ read z
real-back width z h f = decimal-back 15 68 width z (omega arith) refl f h

pub spacing-back : (width : ℕ) (z : ℤ) → width ≤ 24 → real_fits 6 width z ≡ true → real (real_text 6 69 width z) ≡ read z
spacing-back width z h f = decimal-back 6 69 width z (omega arith) refl f h
