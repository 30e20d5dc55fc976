-- What a real that reads is bound to: its size is below 10 ^ 18 billionths and has at most 15 significant digits; the tests of `billionths` say so.
-- And an integer, whether it reads or not, to six digits.
use mathlib.Core.Bool.{true, Bool, false}
use mathlib.Core.Path.{◌≡◌, refl}
use Prim.Native.Nat.{◌^◌, ◌<◌, ◌≤◌, ℕ, ◌+◌, ◌*◌, ◌/◌, ◌%◌}
use lib.IntN.{ℤ, nat_abs}
use native.Mathlib.Nat.{div-lt_iff_lt-mul, lt_of_lt_of_le}
use native.Mathlib.Omega.{arith}
use borrow.Author.Tests.{leb-false, leb-true}
use lib.Dec.{leb, eqb, lit<}
use mathlib.Core.List.{List, [], ◌∷◌}
use lib.ListN.{length}
use Rattle.laws.specs.Digits.{short}
use Rattle.laws.specs.Sign.{◌and◌}
use Rattle.laws.proofs.Integers.{signed-size}
use Rattle.laws.proofs.Tens.{ten-pos, ten-up}
use Rattle.laws.proofs.Tests.{and_second, by-test}
use Rattle.number.specs.Real.{billionths, real, real_form, mantissa_digits, up, down}
use Rattle.number.specs.Bytes.{is_blank, is_sign, is_digit, starts, past_one, past_all, digits, number}
use Rattle.number.specs.Integer.{unsigned_part, says_minus, integer, integer_form, integer_value}
use Rattle.number.proofs.Places.{one-length}
use Rattle.number.proofs.GrammarParts.{digits-every}
use Rattle.number.proofs.Runs.{number-below}

abbrev pub Limited : ℤ → Type 0
Limited z = (nat_abs z < 10 ^ 18) × (short 18 15 (nat_abs z) ≡ true)

module _ (minus : Bool) (m u d : ℕ) (z : (billionths minus m u d).kind ≡ 0) where
  abbrev top : ℕ
  top = m * 10 ^ u

  abbrev large : Bool
  large = leb (10 ^ 18 * 10 ^ d) top

  abbrev exact : Bool
  exact = eqb (top % 10 ^ d) 0 and short 18 15 (top / 10 ^ d)

  seven : large ≡ true → ⊥
  unfolding billionths
  seven e =
      let q : ◌≡◌ {A = ℕ} 7 0 = rw e at z in
      omega arith

  eight : large ≡ false → exact ≡ false → ⊥
  unfolding billionths
  eight e g =
      let q : ◌≡◌ {A = ℕ} 8 0 = rw (e, g) at z in
      omega arith

  good : large ≡ false → exact ≡ true → Limited (billionths minus m u d).value
  unfolding billionths
  good e g =
      rw (e, g, signed-size minus (top / 10 ^ d)) (
        (div-lt_iff_lt-mul (ten-pos d)).1 (leb-false (10 ^ 18 * 10 ^ d) top e),
        and_second (eqb (top % 10 ^ d) 0) (short 18 15 (top / 10 ^ d)) g,
      )

  billionths-limited : Limited (billionths minus m u d).value
  billionths-limited = by-test large (λ e. absurd (seven e)) (λ e. by-test exact (good e) (λ g. absurd (eight e g)))

module _ (s : List ℕ) (z : (real s).kind ≡ 0) where
  abbrev fits : Bool
  fits = leb 1 (length s) and leb (length s) 24

  abbrev form : Bool
  form = real_form (unsigned_part s)

  one : fits ≡ false → ⊥
  unfolding real
  one e =
      let q : ◌≡◌ {A = ℕ} 1 0 = rw e at z in
      omega arith

  six : fits ≡ true → form ≡ false → ⊥
  unfolding real
  six e g =
      let q : ◌≡◌ {A = ℕ} 6 0 = rw (e, g) at z in
      omega arith

  formed : fits ≡ true → form ≡ true → Limited (real s).value
  unfolding real
  formed e g =
      let u = unsigned_part s in
      rw (e, g)
      (billionths-limited (says_minus s) (number 0 (mantissa_digits u)) (up u) (down (length s) u) (rw (e, g) at z))

  pub real-limits : Limited (real s).value
  real-limits = by-test fits (λ e. by-test form (formed e) (λ g. absurd (six e g))) (λ e. absurd (one e))

-- ---- integers: no more digits than bytes

past-one-short : (is : ℕ → Bool) (s : List ℕ) → length (past_one is s) ≤ length s
past-one-short is s = omega (arith, one-length is s (starts is s) refl)

past-all-short : (is : ℕ → Bool) (s : List ℕ) → length (past_all is s) ≤ length s
past-all-short is [] = omega arith
past-all-short is (c ∷ s) =
    let i = past-all-short is s in
    by-test (is c) (λ e. rw e (omega (arith, i))) (λ e. rw e (omega arith))

digits-short : (s : List ℕ) → length (digits s) ≤ length s
digits-short [] = omega arith
digits-short (c ∷ s) =
    let i = digits-short s in
    by-test (is_digit c) (λ e. rw e (omega (arith, i))) (λ e. rw e (omega arith))

value-small : (s : List ℕ) → length s ≤ 6 → nat_abs (integer_value s) < 10 ^ 6
value-small s h =
    let u = unsigned_part s in
    let k : 0 + length (digits u) ≤ 6 =
    omega (arith, h, digits-short u, past-one-short is_sign (past_all is_blank s), past-all-short is_blank s)
    in
    let b : number 0 (digits u) < 10 ^ (0 + length (digits u)) = number-below 0 0 (digits u) (digits-every u) (lit< tt) in
    let t : 10 ^ (0 + length (digits u)) ≤ 10 ^ 6 = ten-up k in
    rw (signed-size (says_minus s) (number 0 (digits u))) (lt_of_lt_of_le b t)

pub integer-limits : (s : List ℕ) → nat_abs (integer s).value < 10 ^ 6
unfolding integer
integer-limits s =
    by-test (leb 1 (length s) and leb (length s) 6)
    (λ e. rw e
    (by-test (integer_form s)
    (λ f. rw f (value-small s (leb-true (length s) 6 (and_second (leb 1 (length s)) (leb (length s) 6) e))))
    (λ f. rw f (omega arith))))
    (λ e. rw e (omega arith))

-- a real too, whether it reads or not, is below 10 ^ 18 billionths
billionths-small : (minus : Bool) (m u d : ℕ) → nat_abs (billionths minus m u d).value < 10 ^ 18
unfolding billionths
billionths-small minus m u d =
    by-test (leb (10 ^ 18 * 10 ^ d) (m * 10 ^ u)) (λ e. rw e (omega arith))
    (λ e. by-test (eqb (m * 10 ^ u % 10 ^ d) 0 and short 18 15 (m * 10 ^ u / 10 ^ d))
    (λ f. rw (e, f, signed-size minus (m * 10 ^ u / 10 ^ d))
    ((div-lt_iff_lt-mul (ten-pos d)).1 (leb-false (10 ^ 18 * 10 ^ d) (m * 10 ^ u) e)))
    (λ f. rw (e, f) (omega arith)))

pub real-small : (s : List ℕ) → nat_abs (real s).value < 10 ^ 18
unfolding real
real-small s =
    by-test (leb 1 (length s) and leb (length s) 24)
    (λ e. by-test (real_form (unsigned_part s))
    (λ f. rw (e, f)
    (billionths-small (says_minus s) (number 0 (mantissa_digits (unsigned_part s))) (up (unsigned_part s)) (down (length s) (unsigned_part s))))
    (λ f. rw (e, f) (omega arith)))
    (λ e. rw e (omega arith))
