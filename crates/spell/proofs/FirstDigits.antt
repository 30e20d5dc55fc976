-- "no leading zero" and "the first not 0": a number above zero has a first digit above 0, in integers and in reals.
use Prim.Native.Nat.{ℕ, ◌^◌, ◌<◌, ◌+◌, ◌*◌, ◌-◌, ◌≤◌}
use native.Mathlib.Omega.{arith}
use lib.ListN.{get_or}
use mathlib.Core.Path.{◌≡◌, ◌∙◌, ap}
use native.Mathlib.Nat.{le-div_iff_mul-le, mul-le-mul_right}
use borrow.Author.Tests.{leb-true, leb-false}
use lib.Dec.{leb}
use lib.Pow.{pow-add}
use Rattle.laws.proofs.Tens.{ten-pos}
use Rattle.laws.proofs.Tests.{by-test}
use Rattle.numerals.specs.Numerals.{numeral, spell}
use Rattle.numerals.proofs.Numerals.{no-zero-first, first_above, count-below}
use Rattle.numerals.proofs.Counts.{count-least}
use Rattle.spell.specs.Spell.{leading, size_digits}
use Rattle.spell.proofs.Leading.{leading-filled, leading-cut}

pub whole-first : (n : ℕ) → 0 < n → n < 10 ^ 20 → 48 < get_or (numeral n) 0 0
whole-first n p h = no-zero-first 20 n (omega arith) h p

leading-above : (p c n : ℕ) → 0 < p → 0 < c → 10 ^ (c - 1) ≤ n → 10 ^ (p - 1) ≤ leading p c n
leading-above p c n hp hc h = by-test (leb c p) (λ t. filled (leb-true c p t)) (λ t. cut (leb-false c p t))
  where
    filled : c ≤ p → 10 ^ (p - 1) ≤ leading p c n
    filled l =
        let e : p - 1 ≡ (c - 1) + (p - c) = omega arith in
        rw (leading-filled p c n l, e, pow-add 10 (c - 1) (p - c)) (mul-le-mul_right (10 ^ (p - c)) h)

    cut : p < c → 10 ^ (p - 1) ≤ leading p c n
    cut l =
        let g : p ≤ c = omega arith in
        let e : c - 1 ≡ (p - 1) + (c - p) = omega arith in
        let s : 10 ^ (c - 1) ≡ 10 ^ (p - 1) * 10 ^ (c - p) = ap (λ (x : ℕ). 10 ^ x) e ∙ pow-add 10 (p - 1) (c - p) in
        rw (leading-cut p c n g) ((le-div_iff_mul-le (ten-pos (c - p))).1 (omega arith))

pub real-first : (digits n : ℕ) → 0 < digits → 0 < n → n < 10 ^ 18
    → 48 < get_or (spell digits (leading digits (size_digits n) n)) 0 0
real-first digits n d p h =
    first_above digits (leading digits (size_digits n) n) d
    (leading-above digits (size_digits n) n d (count-least 9 18 n (omega arith) h) (count-below 9 18 n p h))
