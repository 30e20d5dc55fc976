-- Digits from the right: the last of a number's digits is its rest by ten, and before it stand those of its tenth, where there is one.
use mathlib.Core.Bool.{cond}
use mathlib.Core.List.{List, [], ◌∷◌, ◌++◌}
use mathlib.Core.Path.{◌≡◌, ◌∙◌, ap, sym}
use Prim.Native.Nat.{ℕ, zero, suc, ◌+◌, ◌-◌, ◌*◌, ◌/◌, ◌%◌, ◌^◌, ◌≤◌, ◌<◌}
use native.Mathlib.Nat.{div-div-eq-div-mul, mod-lt, pow-suc, pow-succ'}
use native.Mathlib.Omega.{arith}
use borrow.Author.Tests.{ltb-true, ltb-false, leb-true, leb-false, le-ltb, lt-ltb}
use lib.Arith.{mod-mul}
use lib.Dec.{ltb}
use Rattle.laws.proofs.Tens.{ten-pos}
use Rattle.laws.proofs.Tests.{by-test}
use Rattle.numerals.specs.Numerals.{spell, count, digits_of}
use Rattle.numerals.proofs.Counts.{count-above, count-least, count_small, enough}
use Rattle.numerals.proofs.Numerals.{count-below}

pub spell_last : (k n : ℕ) → n < 10 ^ suc k → spell (suc k) n ≡ spell k (n / 10) ++ ((48 + n % 10) ∷ [])
unfolding spell
spell_last zero n h =
    let e : n / 1 ≡ n % 10 = omega arith in
    ap (λ (d : ℕ). (48 + d) ∷ []) e
spell_last (suc k) n h =
    let m = n % 10 ^ suc k in
    let s : m ≡ n / 10 % 10 ^ k * 10 + n % 10 = ap (λ (x : ℕ). n % x) (pow-suc 10 k) ∙ mod-mul n (ten-pos k) (omega arith) in
    let tenth : m / 10 ≡ n / 10 % 10 ^ k = omega (arith, s) in
    let last : m % 10 ≡ n % 10 = omega (arith, s) in
    let first : n / 10 ^ suc k ≡ n / 10 / 10 ^ k = ap (λ (x : ℕ). n / x) (pow-succ' 10 k) ∙ sym (div-div-eq-div-mul n 10 (10 ^ k)) in
    ap (λ (d : ℕ). (48 + d) ∷ spell (suc k) m) first
    ∙ ap (λ (l : List ℕ). (48 + n / 10 / 10 ^ k) ∷ l)
    (spell_last k m (mod-lt n (ten-pos (suc k)))
    ∙ ap (λ (t : ℕ). spell k t ++ ((48 + m % 10) ∷ [])) tenth
    ∙ ap (λ (d : ℕ). spell k (n / 10 % 10 ^ k) ++ ((48 + d) ∷ [])) last)

-- a number from 10 ^ j on and below the next power has one digit more than j
count-is : (k j n : ℕ) → 0 < k → n < 10 ^ k → 10 ^ j ≤ n → n < 10 ^ suc j → count 1 k n ≡ suc j
count-is k j n some h low high =
    let c = count 1 k n in
    let few = leb-true c (suc j) (sym (enough k (suc j) n some h (omega arith)) ∙ lt-ltb n (10 ^ suc j) high) in
    let many = leb-false c j (sym (enough k j n some h (omega (arith, ten-pos j))) ∙ le-ltb n (10 ^ j) low) in
    omega (arith, few, many)

ten-times : (d : ℕ) → 1 ≤ d → 10 ^ d ≡ 10 ^ (d - 1) * 10
ten-times zero p = absurd (omega arith)
ten-times (suc d) p =
    let e : suc d - 1 ≡ d = omega arith in
    rw e (pow-suc 10 d)

module _ (k n : ℕ) (some : 0 < k) (h : n < 10 ^ k) where
  -- past 9 there is a digit more than the tenth has
  digit-more : 9 < n → count 1 k n ≡ suc (count 1 k (n / 10))
  digit-more p =
      let m = n / 10 in
      let d = count 1 k m in
      let b : m < 10 ^ k = omega arith in
      let one : 1 ≤ d = count-least 1 k m (omega arith) b in
      let low : 10 ^ d ≤ n = omega (arith, ten-times d one, count-below 1 k m (omega arith) b) in
      let high : n < 10 ^ suc d = omega (arith, pow-suc 10 d, count-above 1 k m b) in
      count-is k d n some h low high

  -- up to 9 there is one
  digit-alone : n < 10 → count 1 k n ≡ 1
  digit-alone p =
      let least = count-least 1 k n (omega arith) h in
      let most = count_small 1 k n 1 (omega arith) some p in
      omega arith

  pub last-digit : digits_of k n ≡ cond (ltb 0 (n / 10)) (digits_of k (n / 10)) [] ++ ((48 + n % 10) ∷ [])
  unfolding spell
  last-digit =
      by-test (ltb 0 (n / 10))
      (λ e.
      let p : 0 < n / 10 = ltb-true 0 (n / 10) e in
      let more = digit-more (omega arith) in
      let room : n < 10 ^ suc (count 1 k (n / 10)) = rw more at (count-above 1 k n h) in
      rw (e, more) (spell_last (count 1 k (n / 10)) n room))
      (λ e.
      let p : n / 10 ≤ 0 = ltb-false 0 (n / 10) e in
      let d : n / 1 ≡ n % 10 = omega arith in
      rw (e, digit-alone (omega arith)) (ap (λ (x : ℕ). (48 + x) ∷ []) d))
