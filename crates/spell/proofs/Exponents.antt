-- A power's text read again, and the value that digits and power name together.
use mathlib.Core.Bool.{Bool, cond, true}
use Prim.Native.Nat.{ℕ, ◌-◌, ◌≤◌, ◌<◌, ◌+◌, ◌*◌, ◌^◌}
use lib.Dec.{ltb}
use mathlib.Core.List.{List, [], ◌∷◌, ◌++◌}
use mathlib.Core.Path.{◌≡◌, subst, sym, ◌∙◌, ap}
use native.Mathlib.Omega.{arith}
use native.Mathlib.Nat.{mul_assoc, mul-one}
use borrow.Author.Tests.{ltb-true, ltb-false}
use lib.Pow.{pow-add}
use Rattle.laws.proofs.Tests.{by-test}
use Rattle.numerals.specs.Numerals.{spell}
use Rattle.numerals.proofs.Spelling.{spell-length}
use Rattle.numerals.proofs.Spelled.{spell-digits, spell-number}
use Rattle.number.specs.Bytes.{is_letter}
use Rattle.number.specs.Grammar.{Sign, Exponent, raised, sunk}
use Rattle.number.specs.Grammar.Exponent.{lettered}
use Rattle.number.specs.Grammar.Sign.{plus, minus}
use Rattle.spell.specs.Spell.{power_text}

-- the power of a number that has c digits in billionths: below zero where it has less than 9
abbrev pub lowered : ℕ → Bool
lowered c = ltb c 9

abbrev pub power : ℕ → ℕ
power c = cond (ltb c 9) (9 - c) (c - 9)

pub exponent-is : (letter c : ℕ) → is_letter letter ≡ true → c ≤ 18 → Exponent (power_text letter c) (lowered c) (power c)
exponent-is letter c t h =
    by-test (ltb c 9) (λ e. rw e (written (45 ∷ []) minus (9 - c) (omega arith)))
    (λ e. rw e (written (43 ∷ []) plus (c - 9) (omega arith)))
  where
    written : (sign : List ℕ) {negative : Bool} → Sign sign negative → (e : ℕ) → e < 100
        → Exponent (letter ∷ (sign ++ spell 2 e)) negative e
    written sign s e l =
        subst (Exponent (letter ∷ (sign ++ spell 2 e)) _) (spell-number 2 e l)
        (lettered letter sign (spell 2 e) t s (spell-digits 2 e l) (omega (arith, spell-length 2 e)) (omega (arith, spell-length 2 e)))

-- with m × 10 ^ c = n × 10 ^ p, the digits m after the point and the power name n billionths
pub fraction-is : (m n p c : ℕ) → m * 10 ^ c ≡ n * 10 ^ p
    → m * 10 ^ raised (lowered c) (power c) * 10 ^ 9 ≡ n * 10 ^ (p + sunk (lowered c) (power c))
fraction-is m n p c h = by-test (ltb c 9) (λ e. rw e (low (ltb-true c 9 e))) (λ e. rw e (high (ltb-false c 9 e)))
  where
    low : c < 9 → m * 10 ^ 0 * 10 ^ 9 ≡ n * 10 ^ (p + (9 - c))
    low l =
        let s : c + (9 - c) ≡ 9 = omega arith in
        let t : 10 ^ 9 ≡ 10 ^ c * 10 ^ (9 - c) = ap (λ (x : ℕ). 10 ^ x) (sym s) ∙ pow-add 10 c (9 - c) in
        ap (λ (x : ℕ). m * 1 * x) t
        ∙ ap (λ (x : ℕ). x * (10 ^ c * 10 ^ (9 - c))) (mul-one m)
        ∙ sym (mul_assoc m (10 ^ c) (10 ^ (9 - c)))
        ∙ ap (λ (x : ℕ). x * 10 ^ (9 - c)) h
        ∙ mul_assoc n (10 ^ p) (10 ^ (9 - c))
        ∙ ap (λ (x : ℕ). n * x) (sym (pow-add 10 p (9 - c)))

    high : 9 ≤ c → m * 10 ^ (c - 9) * 10 ^ 9 ≡ n * 10 ^ (p + 0)
    high l =
        let s : (c - 9) + 9 ≡ c = omega arith in
        mul_assoc m (10 ^ (c - 9)) (10 ^ 9)
        ∙ ap (λ (x : ℕ). m * x) (sym (pow-add 10 (c - 9) 9) ∙ ap (λ (x : ℕ). 10 ^ x) s)
        ∙ h
        ∙ ap (λ (x : ℕ). n * 10 ^ x) (omega arith)
