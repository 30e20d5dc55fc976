-- The leading digits of a number fit their places, and with a power of ten behind them are the number: by cases, cut or filled up.
use mathlib.Core.Bool.{true}
use mathlib.Core.Path.{◌≡◌, sym, ◌∙◌, ap}
use Prim.Native.Nat.{ℕ, ◌-◌, ◌%◌, ◌^◌, ◌+◌, ◌*◌, ◌≤◌, ◌/◌, ◌<◌}
use native.Mathlib.Nat.{zero-mod, div-add-mod', div-lt_iff_lt-mul, div-one, mul-one, mul_assoc, mul_comm, mul-lt-mul_of_pos_right}
use borrow.Author.Tests.{eqb-true, eqb-false, leb-true, leb-false}
use lib.Dec.{eqb, leb}
use native.Mathlib.Omega.{arith}
use lib.Pow.{pow-add}
use Rattle.laws.specs.Digits.{places, short}
use Rattle.laws.proofs.Tests.{by-test}
use Rattle.laws.proofs.Tens.{ten-pos}
use Rattle.numerals.specs.Numerals.{count}
use Rattle.numerals.proofs.Counts.{count-some, short-test}
use Rattle.spell.specs.Spell.{leading}

-- what a short number leaves past its first p digits, zero with as many digits as are named
pub short-rest : (none k p n : ℕ) → short k p n ≡ true → n % 10 ^ (count none k n - p) ≡ 0
short-rest none k p n h =
    by-test (eqb n 0) (λ e. rw (eqb-true n 0 e) (zero-mod (10 ^ (count none k 0 - p))))
    (λ e. rw (count-some none k n (eqb-false n 0 e)) (eqb-true (n % 10 ^ (places k n - p)) 0 (sym (short-test k p n) ∙ h)))

-- a power taken apart at a place within it
split : (a b : ℕ) → a ≤ b → 10 ^ b ≡ 10 ^ (b - a) * 10 ^ a
split a b h =
    let e : b ≡ (b - a) + a = omega arith in
    ap (λ x. 10 ^ x) e ∙ pow-add 10 (b - a) a

module _ (p c n : ℕ) where
  pub leading-filled : c ≤ p → leading p c n ≡ n * 10 ^ (p - c)
  leading-filled h =
      let e : c - p ≡ 0 = omega arith in
      rw e (div-one (n * 10 ^ (p - c)))

  pub leading-cut : p ≤ c → leading p c n ≡ n / 10 ^ (c - p)
  leading-cut h =
      let e : p - c ≡ 0 = omega arith in
      rw e (ap (λ x. x / 10 ^ (c - p)) (mul-one n))

  pub leading-below : n < 10 ^ c → leading p c n < 10 ^ p
  leading-below h = by-test (leb c p) (λ t. filled (leb-true c p t)) (λ t. cut (leb-false c p t))
    where
      filled : c ≤ p → leading p c n < 10 ^ p
      filled l = rw (leading-filled l, split c p l, mul_comm (10 ^ (p - c)) (10 ^ c)) (mul-lt-mul_of_pos_right h (ten-pos (p - c)))

      cut : p < c → leading p c n < 10 ^ p
      cut l =
          let g : p ≤ c = omega arith in
          let s : n < 10 ^ p * 10 ^ (c - p) = rw (mul_comm (10 ^ p) (10 ^ (c - p)), ← split p c g) h in
          rw (leading-cut g) ((div-lt_iff_lt-mul (ten-pos (c - p))).1 s)

  -- the leading digits, as so many places after the point, are the number
  pub leading-is : n % 10 ^ (c - p) ≡ 0 → leading p c n * 10 ^ c ≡ n * 10 ^ p
  leading-is h = by-test (leb c p) (λ t. filled (leb-true c p t)) (λ t. cut (leb-false c p t))
    where
      filled : c ≤ p → leading p c n * 10 ^ c ≡ n * 10 ^ p
      filled l = rw (leading-filled l, split c p l) (mul_assoc n (10 ^ (p - c)) (10 ^ c))

      cut : p < c → leading p c n * 10 ^ c ≡ n * 10 ^ p
      cut l =
          let g : p ≤ c = omega arith in
          let q : n / 10 ^ (c - p) * 10 ^ (c - p) ≡ n = omega (arith, div-add-mod' n (10 ^ (c - p))) in
          rw (leading-cut g, split p c g)
          (sym (mul_assoc (n / 10 ^ (c - p)) (10 ^ (c - p)) (10 ^ p)) ∙ ap (λ x. x * 10 ^ p) q)
