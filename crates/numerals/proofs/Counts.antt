-- How many digits a number is written with: the count from the top down, a step at a time, what it bounds, and the test for few of them.
use mathlib.Core.Path.{◌≡◌, refl, sym, ◌∙◌, ap}
use Prim.Native.Nat.{ℕ, zero, suc, ◌-◌, ◌^◌, ◌≤◌, ◌<◌, ◌+◌, ◌%◌, min}
use borrow.Author.Tests.{eq-eqb, ne_eqb, le-ltb, lt-ltb, ltb-true, ltb-false, eqb-true, eqb-false, leb-true, leb-false, le-leb, lt-leb}
use native.Mathlib.Omega.{arith}
use lib.Dec.{ltb, leb, eqb}
use mathlib.Core.Bool.{true}
use native.Mathlib.Nat.{mod-one}
use Rattle.laws.specs.Digits.{places, short}
use Rattle.laws.proofs.Tens.{ten-up, ten-pos}
use Rattle.laws.proofs.Tests.{by-test}
use Rattle.laws.proofs.Shorts.{places-above, places-below}
use Rattle.number.specs.Tens.{ten_to}
use Rattle.numerals.specs.Numerals.{count}

pub count-zero : (none k n : ℕ) → n ≡ 0 → count none k n ≡ none
unfolding count
count-zero none k n e = rw (eq-eqb n 0 e)

pub count-some : (none k n : ℕ) → (n ≡ 0 → ⊥) → count none k n ≡ places k n
unfolding count
count-some none k n e = rw (ne_eqb n 0 e)

-- at a place i the count stops, or goes on below
pub places-stop : (i n : ℕ) → 0 < i → 10 ^ (i - 1) ≤ n → places i n ≡ i
unfolding places
places-stop zero n p h = absurd (omega arith)
places-stop (suc i) n p h =
    let e : suc i - 1 ≡ i = omega arith in
    let g : 10 ^ i ≤ n = rw e at h in
    rw (le-ltb n (10 ^ i) g)

pub places-go : (i n : ℕ) → 0 < i → n < 10 ^ (i - 1) → places i n ≡ places (i - 1) n
unfolding places
places-go zero n p h = absurd (omega arith)
places-go (suc i) n p h =
    let e : suc i - 1 ≡ i = omega arith in
    let g : n < 10 ^ i = rw e at h in
    rw (lt-ltb n (10 ^ i) g, e)

pub places-end : (n : ℕ) → places 0 n ≡ 0
unfolding places
places-end n = refl

-- a number has no places past those that it is below
pub places-past : (k d n : ℕ) → n < 10 ^ k → places (k + d) n ≡ places k n
places-past k zero n h =
    let e : k + zero ≡ k = omega arith in
    ap (λ (j : ℕ). places j n) e
places-past k (suc d) n h =
    let e : k + suc d - 1 ≡ k + d = omega arith in
    let l : k ≤ k + d = omega arith in
    let b : n < 10 ^ (k + suc d - 1) = rw e (omega (arith, ten-up l)) in
    places-go (k + suc d) n (omega arith) b ∙ ap (λ (j : ℕ). places j n) e ∙ places-past k d n h

-- nor past the twenty that 64 bits have
pub places-enough : (k n : ℕ) → n < 10 ^ 20 → places (min k 20) n ≡ places k n
places-enough k n h =
    by-test (leb k 20) (λ t. ap (λ (j : ℕ). places j n) (omega (arith, leb-true k 20 t))) (λ t. ap (λ (j : ℕ). places j n) (omega (arith, leb-false k 20 t)) ∙ past (leb-false k 20 t))
  where
    past : 20 < k → places 20 n ≡ places k n
    past l =
        let e : 20 + (k - 20) ≡ k = omega arith in
        sym (places-past 20 (k - 20) n h) ∙ ap (λ (j : ℕ). places j n) e

pub places-most : (k n : ℕ) → places k n ≤ k
unfolding places
places-most zero n = omega arith
places-most (suc k) n =
    by-test (ltb n (10 ^ k)) (λ e. rw e (omega (arith, places-most k n))) (λ e. rw e (omega arith))

module _ (none k n : ℕ) where
  pub count_most : none ≤ k → count none k n ≤ k
  count_most h =
      by-test (eqb n 0) (λ e. rw (count-zero none k n (eqb-true n 0 e)) h)
      (λ e. rw (count-some none k n (eqb-false n 0 e)) (places-most k n))

  -- the number is below the power of ten that its digits reach
  pub count-above : n < 10 ^ k → n < 10 ^ count none k n
  count-above h =
      by-test (eqb n 0) (λ e. rw (eqb-true n 0 e) (ten-pos (count none k 0)))
      (λ e. rw (count-some none k n (eqb-false n 0 e)) (places-above k n h))

  -- a digit at least, where zero is given one
  pub count-least : 1 ≤ none → n < 10 ^ k → 1 ≤ count none k n
  count-least h l =
      by-test (eqb n 0) (λ e. rw (count-zero none k n (eqb-true n 0 e)) h)
      (λ e. rw (count-some none k n (eqb-false n 0 e)) (go (places k n) refl (eqb-false n 0 e)))
    where
      go : (p : ℕ) → places k n ≡ p → (n ≡ 0 → ⊥) → 1 ≤ places k n
      go zero e some =
          let b : n < 1 = rw e at (places-above k n l) in
          absurd (some (omega arith))
      go (suc p) e some = omega arith

  -- a number below a power of ten has no more digits than that power has zeros
  pub count_small : (j : ℕ) → none ≤ j → j ≤ k → n < 10 ^ j → count none k n ≤ j
  count_small j h l b =
      by-test (eqb n 0) (λ e. rw (count-zero none k n (eqb-true n 0 e)) h)
      (λ e. rw (count-some none k n (eqb-false n 0 e)) (go (eqb-false n 0 e)))
    where
      go : (n ≡ 0 → ⊥) → places k n ≤ j
      go some =
          let up : 10 ^ j ≤ 10 ^ k = ten-up l in
          by-test (leb (places k n) j) (λ e. leb-true (places k n) j e) (λ e. absurd (over (leb-false (places k n) j e) up some))
        where
          over : j < places k n → 10 ^ j ≤ 10 ^ k → (n ≡ 0 → ⊥) → ⊥
          over g up some =
              let a : j ≤ places k n - 1 = omega arith in
              let p : 0 < n = omega (arith, some) in
              omega (arith, ten-up a, places-below k n p (omega arith))

-- j digits are enough exactly for the numbers below that power of ten; zero needs one
pub enough : (k j n : ℕ) → 0 < k → n < 10 ^ k → 0 < n + j → ltb n (10 ^ j) ≡ leb (count 1 k n) j
enough k j n p h some =
    by-test (ltb n (10 ^ j)) (λ e. e ∙ sym (le-leb (count 1 k n) j (few (ltb-true n (10 ^ j) e))))
    (λ e. e ∙ sym (lt-leb (count 1 k n) j (many (ltb-false n (10 ^ j) e))))
  where
    one : (j : ℕ) → 0 < n + j → n < 10 ^ j → 1 ≤ j
    one zero s b = absurd (omega arith)
    one (suc j) s b = omega arith

    few : n < 10 ^ j → count 1 k n ≤ j
    few b =
        by-test (leb j k) (λ e. count_small 1 k n j (one j some b) (leb-true j k e) b)
        (λ e. omega (arith, leb-false j k e, count_most 1 k n p))

    many : 10 ^ j ≤ n → j < count 1 k n
    many b =
        by-test (leb (count 1 k n) j) (λ e. absurd (omega (arith, ten-up (leb-true (count 1 k n) j e), count-above 1 k n h)))
        (λ e. leb-false (count 1 k n) j e)

-- all digits are among the first p, or the test asks
pub short-all : (k p n : ℕ) → places k n ≤ p → short k p n ≡ true
unfolding short
short-all k p n h =
    let e : places k n - p ≡ 0 = omega arith in
    rw e (eq-eqb (n % 1) 0 (mod-one n))

-- a number below the power of ten has no digit past those
pub short-small : (p n : ℕ) → n < ten_to p → short 18 p n ≡ true
unfolding ten_to
short-small p n h =
    by-test (ltb p 19)
    (λ e.
    let q : p < 19 = ltb-true p 19 e in
    let s : p + (18 - p) ≡ 18 = omega arith in
    let m : places 18 n ≡ places p n = ap (λ (k : ℕ). places k n) (sym s) ∙ places-past p (18 - p) n (rw e at h) in
    short-all 18 p n (rw m (places-most p n)))
    (λ e.
    let z : n < 0 = rw e at h in
    absurd (omega arith))

pub short-test : (k p n : ℕ) → short k p n ≡ eqb (n % 10 ^ (places k n - p)) 0
unfolding short
short-test k p n = refl
