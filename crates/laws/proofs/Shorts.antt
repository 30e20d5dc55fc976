-- How many digits a number has, and that a number is short exactly when it is a few digits followed by zeros.
use mathlib.Core.Bool.{cond, Bool, true, false}
use mathlib.Core.Path.{◌≡◌, refl, sym, ◌∙◌, ap, subst}
use Prim.Native.Nat.{ℕ, suc, ◌^◌, zero, ◌<◌, ◌-◌, ◌≤◌, ◌*◌, ◌+◌, ◌/◌, ◌%◌}
use lib.Dec.{ltb}
use borrow.Author.Tests.{ltb-true, ltb-false, eqb-true, eq-eqb}
use native.Mathlib.Omega.{arith}
use native.Mathlib.Nat.{div-add-mod', div-lt_iff_lt-mul, mul-mod_left, mul_assoc, mul-lt-mul_of_pos_right, zero-mod}
use native.Mathlib.Decide.{dec_le}
use lib.Pow.{pow-add}
use Rattle.laws.specs.Digits.{places, short}
use Rattle.laws.proofs.Tens.{ten-pos, ten-up}

places-suc : (k n : ℕ) → places (suc k) n ≡ cond (ltb n (10 ^ k)) (places k n) (suc k)
unfolding places
places-suc k n = refl

-- a number is below the power of ten that has its digits
pub places-above : (k n : ℕ) → n < 10 ^ k → n < 10 ^ places k n
unfolding places
places-above zero n h = h
places-above (suc k) n h = go (places-above k n) (ltb n (10 ^ k)) refl
  where
    go : (n < 10 ^ k → n < 10 ^ places k n) → (b : Bool) → ltb n (10 ^ k) ≡ b → n < 10 ^ places (suc k) n
    go ih true e = rw (places-suc k n, e) (ih (ltb-true n (10 ^ k) e))
    go ih false e = rw (places-suc k n, e) h

-- and not below the one that has a digit less
pub places-below : (k n : ℕ) → 0 < n → n < 10 ^ k → 10 ^ (places k n - 1) ≤ n
unfolding places
places-below zero n p h = absurd (omega (arith, h))
places-below (suc k) n p h = go (places-below k n p) (ltb n (10 ^ k)) refl
  where
    go : (n < 10 ^ k → 10 ^ (places k n - 1) ≤ n) → (b : Bool) → ltb n (10 ^ k) ≡ b → 10 ^ (places (suc k) n - 1) ≤ n
    go ih true e = rw (places-suc k n, e) (ih (ltb-true n (10 ^ k) e))
    go ih false e =
        let q : suc k - 1 ≡ k = omega arith in
        rw (places-suc k n, e, q) (ltb-false n (10 ^ k) e)

-- p digits and zeros after them
pub record FewDigits (p n : ℕ) : Type 0 where
  pub front : ℕ
  pub zeros : ℕ
  pub below : front < 10 ^ p
  pub is : n ≡ front * 10 ^ zeros

module _ (k p n : ℕ) (h : n < 10 ^ k) where
  pub short-few : short k p n ≡ true → FewDigits p n
  unfolding short
  short-few t =
      let z = places k n - p in
      let m : n % 10 ^ z ≡ 0 = eqb-true (n % 10 ^ z) 0 t in
      let le : places k n ≤ p + z = omega arith in
      let up : 10 ^ places k n ≤ 10 ^ (p + z) = ten-up le in
      let up' : 10 ^ places k n ≤ 10 ^ p * 10 ^ z = subst (λ (x : ℕ). 10 ^ places k n ≤ x) (pow-add 10 p z) up in
      let lt : n < 10 ^ p * 10 ^ z = omega (arith, places-above k n h) in
      record {
        front = n / 10 ^ z;
        zeros = z;
        below = (div-lt_iff_lt-mul (ten-pos z)).1 lt;
        is = sym (omega (arith, div-add-mod' n (10 ^ z)));
      }

  -- zeros that the front leaves are enough for the places past the first p
  zeros-enough : 0 < n → (f : FewDigits p n) → places k n - p ≤ f.zeros
  zeros-enough q f = go (dec_le (places k n - p) f.zeros)
    where
      go : Dec (places k n - p ≤ f.zeros) → places k n - p ≤ f.zeros
      go (yes l) = l
      go (no l) =
          let a : p + f.zeros ≤ places k n - 1 = omega arith in
          let b : 10 ^ (p + f.zeros) ≤ 10 ^ (places k n - 1) = ten-up a in
          let c : n < 10 ^ p * 10 ^ f.zeros = rw f.is (mul-lt-mul_of_pos_right f.below (ten-pos f.zeros)) in
          let d : 10 ^ (p + f.zeros) ≡ 10 ^ p * 10 ^ f.zeros = pow-add 10 p f.zeros in
          absurd (omega (arith, places-below k n q h))

  pub few-short : FewDigits p n → short k p n ≡ true
  unfolding short
  few-short f = eq-eqb (n % 10 ^ (places k n - p)) 0 (go n refl)
    where
      go : (x : ℕ) → n ≡ x → n % 10 ^ (places k n - p) ≡ 0
      go zero e = rw e (zero-mod (10 ^ (places k zero - p)))
      go (suc x) e =
          let q : 0 < n = omega arith in
          let z = places k n - p in
          let l : z ≤ f.zeros = zeros-enough q f in
          let s : f.zeros ≡ (f.zeros - z) + z = omega arith in
          let r : n ≡ f.front * 10 ^ (f.zeros - z) * 10 ^ z =
          f.is
          ∙ ap (λ (y : ℕ). f.front * 10 ^ y) s
          ∙ ap (λ (y : ℕ). f.front * y) (pow-add 10 (f.zeros - z) z)
          ∙ sym (mul_assoc f.front (10 ^ (f.zeros - z)) (10 ^ z))
          in
          ap (λ (y : ℕ). y % 10 ^ z) r ∙ mul-mod_left (f.front * 10 ^ (f.zeros - z)) (10 ^ z)
