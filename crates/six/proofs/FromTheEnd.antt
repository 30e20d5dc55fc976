-- An integer field by its last byte that is no digit: what stands before the digits, where that is of the form.
use mathlib.Core.Bool.{Bool, true, false}
use mathlib.Core.List.{List, [], ◌∷◌, ◌++◌}
use mathlib.Core.Path.{◌≡◌, refl, sym, ◌∙◌, ap}
use Prim.Native.Nat.{ℕ, ◌<◌}
use native.Mathlib.Omega.{arith}
use borrow.Author.Tests.{eqb-true, ne_eqb, leb-true}
use lib.Dec.{eqb, leb}
use lib.IntN.{ℤ}
use lib.ListN.{length}
use Rattle.laws.specs.Sign.{signed}
use Rattle.laws.specs.Texts.{every}
use Rattle.laws.proofs.Tests.{by-test, split}
use Rattle.number.specs.Bytes.{is_blank, is_digit, is_minus, is_sign, is_empty, starts, past_one, past_all, digits, number}
use Rattle.number.specs.Integer.{read, unsigned_part, integer_form, integer_value, integer}
use Rattle.six.specs.Steps.{is_front}

-- ---- a digit is no blank and no sign

digit_not : (d n : ℕ) → n < 48 → is_digit d ≡ true → eqb d n ≡ false
digit_not d n low t =
    let p = split (leb 48 d) _ t in
    ne_eqb d n (λ e. omega (arith, e, low, leb-true 48 d p.0))

digit-not-sign : (d : ℕ) → is_digit d ≡ true → is_sign d ≡ false
digit-not-sign d t = rw (digit_not d 43 (omega arith) t, digit_not d 45 (omega arith) t)

-- ---- digits alone

all_digits : (ds : List ℕ) → every is_digit ds ≡ true → digits ds ≡ ds
all_digits [] t = refl
all_digits (d ∷ ds) t =
    let p = split (is_digit d) (every is_digit ds) t in
    rw p.0 (ap (λ (l : List ℕ). d ∷ l) (all_digits ds p.1))

past-digits : (ds : List ℕ) → every is_digit ds ≡ true → past_all is_digit ds ≡ []
past-digits [] t = refl
past-digits (d ∷ ds) t =
    let p = split (is_digit d) (every is_digit ds) t in
    rw p.0 (past-digits ds p.1)

no-blanks : (ds : List ℕ) → every is_digit ds ≡ true → past_all is_blank ds ≡ ds
no-blanks [] t = refl
no-blanks (d ∷ ds) t = let p = split (is_digit d) (every is_digit ds) t in rw (digit_not d 32 (omega arith) p.0)

no_sign : (ds : List ℕ) → every is_digit ds ≡ true → past_one is_sign ds ≡ ds
no_sign [] t = refl
no_sign (d ∷ ds) t = let p = split (is_digit d) (every is_digit ds) t in rw (digit-not-sign d p.0)

no_minus : (ds : List ℕ) → every is_digit ds ≡ true → starts is_minus ds ≡ false
no_minus [] t = refl
no_minus (d ∷ ds) t = let p = split (is_digit d) (every is_digit ds) t in digit_not d 45 (omega arith) p.0

-- ---- a field of six bytes by its form and its value

module _ (s : List ℕ) (long : length s ≡ 6) where
  pub right : (z : ℤ) → integer_form s ≡ true → integer_value s ≡ z → integer s ≡ read z
  unfolding integer
  right z e v = rw (long, e) (ap read v)

-- past blanks and a sign only digits are left: what they say
module _ (s ds : List ℕ) (u : unsigned_part s ≡ ds) (t : every is_digit ds ≡ true) where
  formed : is_empty ds ≡ false → integer_form s ≡ true
  formed e = rw (u, all_digits ds t, past-digits ds t, e)

  said : (m : Bool) → starts is_minus (past_all is_blank s) ≡ m → integer_value s ≡ signed m (number 0 ds)
  said m e = rw (e, u, all_digits ds t)

-- ---- what stands before

past-front : (p r : List ℕ) → every is_blank p ≡ true → past_all is_blank (p ++ r) ≡ past_all is_blank r
past-front [] r t = refl
past-front (x ∷ p) r t =
    let q = split (is_blank x) (every is_blank p) t in
    rw q.0 (past-front p r q.1)

module _ (p : List ℕ) (c : ℕ) (ds : List ℕ) where
  abbrev s : List ℕ
  s = p ++ (c ∷ ds)

  module _ (blank : every is_blank p ≡ true) (digit : every is_digit ds ≡ true) where
    unsigned_is : is_front c ≡ true → unsigned_part s ≡ ds
    unsigned_is e =
        ap (past_one is_sign) (past-front p (c ∷ ds) blank)
        ∙ by-test (is_blank c) (λ b. rw (b, no-blanks ds digit) (no_sign ds digit))
        (λ b. let g : is_sign c ≡ true = rw b at e in rw (b, g))

    minus_is : is_front c ≡ true → starts is_minus (past_all is_blank s) ≡ is_minus c
    minus_is e =
        ap (starts is_minus) (past-front p (c ∷ ds) blank)
        ∙ by-test (is_blank c)
        (λ b.
        let n : c ≡ 32 = eqb-true c 32 b in
        rw (b, no-blanks ds digit) (no_minus ds digit ∙ sym (ap is_minus n)))
        (λ b. rw b)

    pub good-front : is_front c ≡ true → is_empty ds ≡ false → (integer_form s ≡ true) × (integer_value s ≡ signed (is_minus c) (number 0 ds))
    good-front e some = (formed s ds (unsigned_is e) digit some, said s ds (unsigned_is e) digit (is_minus c) (minus_is e))

-- six digits
pub digits-alone : (ds : List ℕ) → every is_digit ds ≡ true → is_empty ds ≡ false
    → (integer_form ds ≡ true) × (integer_value ds ≡ signed false (number 0 ds))
digits-alone ds t some =
    let u : unsigned_part ds ≡ ds = ap (past_one is_sign) (no-blanks ds t) ∙ no_sign ds t in
    (formed ds ds u t some, said ds ds u t false (ap (starts is_minus) (no-blanks ds t) ∙ no_minus ds t))
