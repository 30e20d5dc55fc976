-- Digits read again: they are digits, and the number they spell is the one they were made of. One induction on their count each.
use mathlib.Core.Bool.{true}
use mathlib.Core.Path.{◌≡◌, refl, sym, ◌∙◌, ap}
use Prim.Native.Nat.{ℕ, ◌+◌, ◌<◌, zero, suc, ◌/◌, ◌%◌, ◌^◌, ◌*◌, ◌-◌}
use native.Mathlib.Omega.{arith}
use borrow.Author.Tests.{le-leb}
use native.Mathlib.Nat.{mod-lt, add-mul, div-add-mod', mul_assoc, mul_comm, pow-suc}
use Rattle.laws.specs.Texts.{every}
use Rattle.laws.proofs.Tests.{and_both}
use Rattle.laws.proofs.Tens.{ten-pos}
use Rattle.number.specs.Bytes.{is_digit, number}
use Rattle.numerals.specs.Numerals.{spell}
use Rattle.numerals.proofs.Spelling.{first_small}

pub digit-byte : (d : ℕ) → d < 10 → is_digit (48 + d) ≡ true
digit-byte d h = and_both (le-leb 48 (48 + d) (omega arith)) (le-leb (48 + d) 57 (omega arith))

pub spell-digits : (k n : ℕ) → n < 10 ^ k → every is_digit (spell k n) ≡ true
unfolding spell
spell-digits zero n h = refl
spell-digits (suc k) n h =
    and_both (digit-byte (n / 10 ^ k) (first_small k n h)) (spell-digits k (n % 10 ^ k) (mod-lt n (ten-pos k)))

spell-after : (before k n : ℕ) → n < 10 ^ k → number before (spell k n) ≡ before * 10 ^ k + n
unfolding spell
spell-after before zero n h = omega arith
spell-after before (suc k) n h =
    let q = n / 10 ^ k in
    let e : before * 10 + (48 + q - 48) ≡ before * 10 + q = omega arith in
    let p : before * 10 ^ suc k ≡ before * 10 * 10 ^ k =
    ap (λ (x : ℕ). before * x) (pow-suc 10 k ∙ mul_comm (10 ^ k) 10) ∙ sym (mul_assoc before 10 (10 ^ k))
    in
    ap (λ (x : ℕ). number x (spell k (n % 10 ^ k))) e
    ∙ spell-after (before * 10 + q) k (n % 10 ^ k) (mod-lt n (ten-pos k))
    ∙ omega (arith, add-mul (before * 10) q (10 ^ k), div-add-mod' n (10 ^ k), p)

pub spell-number : (k n : ℕ) → n < 10 ^ k → number 0 (spell k n) ≡ n
spell-number k n h = spell-after 0 k n h ∙ omega arith
