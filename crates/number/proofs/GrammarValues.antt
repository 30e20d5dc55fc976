-- The tests of `billionths` say what the grammar says of a real value: carried by the laws of powers of ten and of `short`.
use mathlib.Core.Bool.{Bool, true, false}
use Prim.Native.Nat.{ℕ, ◌+◌, ◌*◌, ◌/◌, ◌%◌, ◌^◌, ◌<◌}
use mathlib.Core.Path.{◌≡◌, sym, ◌∙◌, ap}
use native.Mathlib.Nat.{div-add-mod', div-lt_iff_lt-mul, lt_of_mul-lt-mul_right, mul_assoc, mul_comm, mul-div_cancel, mul-mod_left}
use native.Mathlib.Omega.{arith}
use borrow.Author.Tests.{leb-true, le-leb, lt-leb, eqb-true, eq-eqb}
use lib.Dec.{leb, eqb}
use lib.Pow.{pow-add}
use Rattle.laws.specs.Sign.{signed, ◌and◌}
use Rattle.laws.specs.Digits.{short}
use Rattle.laws.proofs.Shorts.{short-few, few-short}
use Rattle.laws.proofs.Tens.{ten-pos}
use Rattle.laws.proofs.Tests.{clash, and_first, and_second, and_both, by-test}
use Rattle.number.specs.declared.Reading.{Reading}
use Rattle.number.specs.Integer.{read, refused}
use Rattle.number.specs.Grammar.{Large, Billionths, raised, sunk}
use Rattle.number.specs.Real.{billionths}

-- the three ways of a value that has its form: too large (7), too fine or too many digits (8), or read
pub data Valued (negative : Bool) (m p : ℕ) (l : Bool) (e : ℕ) : Reading → Type 0 where
  large : Large m p l e → Valued negative m p l e (refused 7)
  fine : (Large m p l e → ⊥) → ((n : ℕ) → Billionths m p l e n → ⊥) → Valued negative m p l e (refused 8)
  exact : (n : ℕ) → (Large m p l e → ⊥) → Billionths m p l e n → Valued negative m p l e (read (signed negative n))

module _ (m p : ℕ) (l : Bool) (e : ℕ) where
  -- the value in billionths is top / bottom
  abbrev top : ℕ
  top = m * 10 ^ (9 + raised l e)

  abbrev bottom : ℕ
  bottom = 10 ^ (p + sunk l e)

  abbrev whole : Bool
  whole = eqb (top % bottom) 0

  abbrev few : Bool
  few = short 18 15 (top / bottom)

  top-is : m * 10 ^ raised l e * 10 ^ 9 ≡ top
  top-is =
      mul_assoc m (10 ^ raised l e) (10 ^ 9)
      ∙ ap (λ x. m * x) (mul_comm (10 ^ raised l e) (10 ^ 9) ∙ sym (pow-add 10 9 (raised l e)))

  large-test : Large m p l e → leb (10 ^ 18 * bottom) top ≡ true
  large-test h = le-leb (10 ^ 18 * bottom) top (omega (arith, top-is))

  test-large : leb (10 ^ 18 * bottom) top ≡ true → Large m p l e
  test-large h = omega (arith, top-is, leb-true (10 ^ 18 * bottom) top h)

  module _ (modest : Large m p l e → ⊥) where
    modest-top : top < 10 ^ 18 * bottom
    modest-top = omega (arith, top-is)

    modest-test : leb (10 ^ 18 * bottom) top ≡ false
    modest-test = lt-leb (10 ^ 18 * bottom) top modest-top

    test-exact : (whole and few) ≡ true → Billionths m p l e (top / bottom)
    test-exact h =
        let lt : top / bottom < 10 ^ 18 = (div-lt_iff_lt-mul (ten-pos (p + sunk l e))).1 modest-top in
        let f = short-few 18 15 (top / bottom) lt (and_second whole few h) in
        let z : top % bottom ≡ 0 = eqb-true (top % bottom) 0 (and_first whole few h) in
        let q : top ≡ top / bottom * bottom = omega (arith, div-add-mod' top bottom) in
        record { fraction = top-is ∙ q; front = f.front; zeros = f.zeros; few = f.below; digits = f.is }

    module _ (n : ℕ) (b : Billionths m p l e n) where
      quotient : top / bottom ≡ n
      quotient = ap (λ x. x / bottom) (sym top-is ∙ b.fraction) ∙ mul-div_cancel n (ten-pos (p + sunk l e))

      exact-test : (whole and few) ≡ true
      exact-test =
          let z : top % bottom ≡ 0 = ap (λ x. x % bottom) (sym top-is ∙ b.fraction) ∙ mul-mod_left n bottom in
          let lt : n < 10 ^ 18 = lt_of_mul-lt-mul_right bottom (omega (arith, modest-top, top-is, b.fraction)) in
          let f = few-short 18 15 n lt (record { front = b.front; zeros = b.zeros; below = b.few; is = b.digits }) in
          rw quotient (and_both (eq-eqb (top % bottom) 0 z) f)

  pub valued : (negative : Bool) → Valued negative m p l e (billionths negative m (9 + raised l e) (p + sunk l e))
  unfolding billionths
  valued negative = by-test (leb (10 ^ 18 * bottom) top) (λ h. rw h (large (test-large h))) go
    where
      go : leb (10 ^ 18 * bottom) top ≡ false → Valued negative m p l e (billionths negative m (9 + raised l e) (p + sunk l e))
      go h =
          let modest : Large m p l e → ⊥ = λ k. clash (sym (large-test k) ∙ h) in
          by-test (whole and few) (λ k. rw (h, k) (exact (top / bottom) modest (test-exact modest k)))
          (λ k. rw (h, k) (fine modest (λ n b. clash (sym (exact-test modest n b) ∙ k))))

  pub valued-is : {negative : Bool} {r : Reading} → Valued negative m p l e r
      → billionths negative m (9 + raised l e) (p + sunk l e) ≡ r
  unfolding billionths
  valued-is (large h) = rw (large-test h)
  valued-is (fine h none) =
      by-test (whole and few) (λ k. absurd (none (top / bottom) (test-exact h k))) (λ k. rw (modest-test h, k))
  valued-is (exact n h b) = rw (modest-test h, exact-test h n b, quotient h n b)
