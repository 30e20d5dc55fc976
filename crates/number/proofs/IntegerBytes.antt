-- The byte of an integer field of wrong form: where a walk finds it, and that it is the very byte of any form that says what `integer_form` says.
use mathlib.Core.Bool.{Bool, true, false, not}
use mathlib.Core.List.{List, [], ◌∷◌}
use mathlib.Core.Logic.{◌↔◌}
use mathlib.Core.Path.{◌≡◌, refl, sym, ◌∙◌, ap}
use Prim.Native.Nat.{ℕ, zero, suc, ◌≤◌}
use lib.ListN.{length, drop, replicate, length-replicate}
use Rattle.laws.specs.Sign.{◌and◌}
use Rattle.laws.specs.Starts.{run, VeryByte, Anyhow}
use Rattle.laws.proofs.Tests.{clash, by-test}
use Rattle.laws.proofs.Starts.{Knows, lost-is, lost-anyhow, walked, lost-at}
use Rattle.number.specs.Bytes.{is_blank, is_sign, is_digit, is_empty, past_all, digits}
use Rattle.number.specs.Integer.{integer_form, unsigned_part}
use Rattle.number.specs.IntegerStarts.{Place, step, is_lost, integer_byte}
use Rattle.number.specs.IntegerStarts.Place.{in_blanks, past_sign, in_digits, lost}
use Rattle.number.specs.Steps.{stopped_at}

-- ---- a walk goes past the blanks, the sign and the digits; it ends well where that is the whole field, with a digit
abbrev ended : Place → Bool
ended in_blanks = false
ended past_sign = false
ended in_digits = true
ended lost = false

abbrev walk : Place → List ℕ → List ℕ × Bool
walk = walked step is_lost ended

walk-digits : (s : List ℕ) → walk in_digits s ≡ (past_all is_digit s, is_empty (past_all is_digit s))
walk-digits [] = refl
walk-digits (c ∷ s) = by-test (is_digit c) (λ e. rw e (walk-digits s)) (λ e. rw e)

walk-sign : (s : List ℕ) → walk past_sign s ≡ (past_all is_digit s, not (is_empty (digits s)) and is_empty (past_all is_digit s))
walk-sign [] = refl
walk-sign (c ∷ s) = by-test (is_digit c) (λ e. rw e (walk-digits s)) (λ e. rw e)

walk-blanks : (s : List ℕ) → walk in_blanks s ≡ (past_all is_digit (unsigned_part s), integer_form s)
walk-blanks [] = refl
walk-blanks (c ∷ s) =
    by-test (is_blank c) (λ b. rw b (walk-blanks s))
    (λ b.
    by-test (is_sign c) (λ g. rw (b, g) (walk-sign s))
    (λ g. by-test (is_digit c) (λ e. rw (b, g, e) (walk-digits s)) (λ e. rw (b, g, e))))

-- the place of what is left, counted from 0, tells the byte
pub integer-byte-found : (s : List ℕ) (next : ℕ) → drop next s ≡ past_all is_digit (unsigned_part s)
    → integer_byte s ≡ stopped_at next (length s)
unfolding integer_byte
integer-byte-found s next is =
    lost-at step is_lost ended in_blanks s next (is ∙ ap (λ (w : List ℕ × Bool). w.0) (sym (walk-blanks s)))

zeros-end : (r : ℕ) → ended (run step in_digits (replicate r 48)) ≡ true
zeros-end zero = refl
zeros-end (suc r) = zeros-end r

-- ---- the very byte, whatever the length of the fields that are tried
module _ {Field : List ℕ → Type 0} (form : (s : List ℕ) → Field s ↔ (integer_form s ≡ true)) where
  knows : Knows step is_lost in_blanks Field
  knows =
      record {
        good = ended;
        exactly = λ s. (λ f. ends s ∙ (form s).0 f, λ e. (form s).1 (sym (ends s) ∙ e));
        stays = stays;
        never = never;
        begins = refl;
        behind = λ q r. replicate (suc r) 48;
        so-many = λ q r. length-replicate (suc r) 48;
        completes = completes;
      }
    where
      ends : (s : List ℕ) → (walk in_blanks s).1 ≡ integer_form s
      ends s = ap (λ (w : List ℕ × Bool). w.1) (walk-blanks s)

      stays : (q : Place) (c : ℕ) → is_lost q ≡ true → is_lost (step q c) ≡ true
      stays in_blanks c e = clash (sym e)
      stays past_sign c e = clash (sym e)
      stays in_digits c e = clash (sym e)
      stays lost c e = refl

      never : (q : Place) → is_lost q ≡ true → ended q ≡ false
      never in_blanks e = refl
      never past_sign e = refl
      never in_digits e = clash (sym e)
      never lost e = refl

      completes : (q : Place) (r : ℕ) → is_lost q ≡ false → ended (run step q (replicate (suc r) 48)) ≡ true
      completes in_blanks r e = zeros-end r
      completes past_sign r e = zeros-end r
      completes in_digits r e = zeros-end r
      completes lost r e = clash e

  module _ (s : List ℕ) (wrong : Field s → ⊥) where
    pub integer-byte-is : 1 ≤ length s → VeryByte Field s (integer_byte s)
    unfolding integer_byte
    integer-byte-is = lost-is knows s wrong

    pub integer-byte-any : Anyhow Field s (integer_byte s)
    unfolding integer_byte
    integer-byte-any = lost-anyhow knows s wrong
