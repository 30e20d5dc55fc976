-- An integer field judged by the places that the code found, and the lengths that a field may have.
use mathlib.Core.List.{List, [], ◌∷◌}
use mathlib.Core.Path.{◌≡◌, refl, ◌∙◌, sym, ap}
use Prim.Native.Nat.{ℕ, ◌<◌, ◌≤◌}
use borrow.Author.Tests.{lt-leb, le-leb}
use lib.ListN.{length, drop, length-drop}
use lib.Dec.{leb}
use mathlib.Core.Bool.{true, false, not}
use mathlib.Core.Logic.{◌⊎◌, inl, inr}
use native.Mathlib.Omega.{arith}
use Rattle.laws.proofs.Tests.{and-fails-second}
use Rattle.number.specs.Integer.{of_length, refused, wrong_form, integer, integer_form, integer_value, read, unsigned_part}
use Rattle.number.specs.IntegerStarts.{integer_byte}
use Rattle.number.specs.declared.Reading.{Reading}
use Rattle.number.specs.Bytes.{is_empty, is_blank, is_sign, is_digit, past_one, past_all, digits}
use Rattle.number.specs.Steps.{Past, stopped_at}
use Rattle.number.proofs.IntegerBytes.{integer-byte-found}
use Rattle.number.proofs.Runs.{run_length}

pub not-within : (most : ℕ) (s : List ℕ) (r : Reading) → (length s < 1) ⊎ ((1 ≤ length s) × (most < length s)) → of_length most s r ≡ refused 1
not-within most s r (inl h) = simp (lt-leb 1 (length s) h)
not-within most s r (inr h) = simp (and-fails-second (leb 1 (length s)) (lt-leb (length s) most h.1))

pub within-good : (most : ℕ) (s : List ℕ) (r : Reading) → 1 ≤ length s → length s ≤ most → of_length most s r ≡ r
within-good most s r h k = simp (le-leb 1 (length s) h, le-leb (length s) most k)

pub empty-none : (l : List ℕ) → length l ≤ 0 → is_empty l ≡ true
empty-none [] h = refl
empty-none (c ∷ l) h = absurd (omega arith)

pub empty-some : (l : List ℕ) → 0 < length l → is_empty l ≡ false
empty-some [] h = absurd (omega arith)
empty-some (c ∷ l) h = refl

module _ (s : List ℕ) (h : 1 ≤ length s) (k : length s ≤ 6) where
  pub integer-wrong : integer_form s ≡ false → integer s ≡ wrong_form (integer_byte s)
  unfolding integer
  integer-wrong f = within-good 6 s _ h k ∙ simp f

  pub integer-good : integer_form s ≡ true → integer s ≡ read (integer_value s)
  unfolding integer
  integer-good f = within-good 6 s _ h k ∙ simp f

module _ (s : List ℕ) (t u : ℕ) (b : Past (past_all is_blank) s 0 t) (g : Past (past_one is_sign) s t u) where
  pub unsigned_is : drop u s ≡ unsigned_part s
  unsigned_is = g.is ∙ ap (past_one is_sign) b.is

  module _ (n : ℕ) (d : Past (past_all is_digit) s u n) where
    -- the byte that a field of wrong form is refused at
    pub byte_at : integer_byte s ≡ stopped_at n (length s)
    byte_at = integer-byte-found s n (d.is ∙ ap (past_all is_digit) unsigned_is)

    pub form-none : n ≡ u → integer_form s ≡ false
    form-none e =
        let h : length (digits (drop u s)) ≤ 0 = omega (arith, run_length s u n d) in
        let k : is_empty (digits (drop u s)) ≡ true = empty-none (digits (drop u s)) h in
        rw (← unsigned_is, k)

    pub form-short : n < length s → integer_form s ≡ false
    form-short h =
        let k : is_empty (past_all is_digit (drop u s)) ≡ false =
        ap is_empty (sym d.is) ∙ empty-some (drop n s) (omega (arith, length-drop n s))
        in
        rw (← unsigned_is) (and-fails-second (not (is_empty (digits (drop u s)))) k)

    pub form-good : (n ≡ u → ⊥) → length s ≤ n → integer_form s ≡ true
    form-good f h =
        let k : is_empty (past_all is_digit (drop u s)) ≡ true =
        ap is_empty (sym d.is) ∙ empty-none (drop n s) (omega (arith, length-drop n s))
        in
        let m : is_empty (digits (drop u s)) ≡ false =
        empty-some (digits (drop u s)) (omega (arith, run_length s u n d, d.onward, f))
        in
        rw (← unsigned_is, k, m)
