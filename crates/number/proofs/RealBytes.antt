-- The byte of a real field of wrong form: where a walk finds it, and that it is the very byte of any form that says what `real_form` says.
use mathlib.Core.Bool.{Bool, true, false, cond}
use mathlib.Core.List.{List, [], ◌∷◌}
use mathlib.Core.Logic.{◌↔◌}
use mathlib.Core.Path.{◌≡◌, refl, sym, ◌∙◌, ap}
use Prim.Native.Nat.{ℕ, zero, suc, ◌≤◌}
use native.Mathlib.Omega.{arith}
use borrow.Author.Tests.{leb-true, leb-false, le-leb, lt-leb, ne_eqb}
use lib.Dec.{leb}
use lib.ListN.{length, drop, replicate, length-replicate}
use Rattle.laws.specs.Sign.{◌and◌}
use Rattle.laws.specs.Starts.{run, VeryByte, Anyhow}
use Rattle.laws.proofs.Tests.{clash, by-test}
use Rattle.laws.proofs.Starts.{Knows, lost-is, lost-anyhow, walked, lost-at}
use Rattle.number.specs.Bytes.{is_blank, is_sign, is_digit, is_point, is_letter, is_empty, starts, past_one, past_all, digits}
use Rattle.number.specs.Integer.{unsigned_part}
use Rattle.number.specs.RealStarts.{Place, leaves, step, is_lost, real_byte}
use Rattle.number.specs.Real.{real_form, mantissa_digits, past_mantissa, power_form, past_power}
use Rattle.number.specs.RealStarts.Place.{in_blanks, past_sign, in_whole, bare_point, in_fraction, past_letter, past_power_sign, one_digit, two_digits, in_rest, lost}
use Rattle.number.specs.Steps.{stopped_at, power_stop}
use Rattle.number.proofs.Places.{digit-range}

abbrev ended : Place → Bool
ended in_blanks = false
ended past_sign = false
ended in_whole = true
ended bare_point = false
ended in_fraction = true
ended past_letter = false
ended past_power_sign = false
ended one_digit = true
ended two_digits = true
ended in_rest = true
ended lost = false

abbrev walk : Place → List ℕ → List ℕ × Bool
walk = walked step is_lost ended

-- what is left must be nothing
abbrev whole : List ℕ → List ℕ × Bool
whole x = (x, is_empty x)

digit-no-blank : (c : ℕ) → is_digit c ≡ true → is_blank c ≡ false
digit-no-blank c e = let r = digit-range c e in ne_eqb c 32 (λ q. omega (arith, r, q))

-- ---- blanks to the end
walk-rest : (s : List ℕ) → walk in_rest s ≡ whole (past_all is_blank s)
walk-rest [] = refl
walk-rest (c ∷ s) = by-test (is_blank c) (λ e. rw e (walk-rest s)) (λ e. rw e)

walk-two : (s : List ℕ) → walk two_digits s ≡ whole (past_all is_blank s)
walk-two [] = refl
walk-two (c ∷ s) = by-test (is_blank c) (λ e. rw e (walk-rest s)) (λ e. rw e)

-- ---- the digits of a power: one or two

-- the digits that the text starts with, and what is past them, where it starts with none
no_digit : (s : List ℕ) → starts is_digit s ≡ false → (digits s ≡ []) × (past_all is_digit s ≡ s)
no_digit [] e = (refl, refl)
no_digit (c ∷ s) e = rw e (refl, refl)

some-digit : (s : List ℕ) → starts is_digit s ≡ true → (1 ≤ length (digits s)) × (walk two_digits s ≡ (s, false))
some-digit [] e = clash (sym e)
some-digit (c ∷ s) e = rw (e, digit-no-blank c e) (omega arith, refl)

walk-one : (s : List ℕ)
    → walk one_digit s ≡ cond (leb (length (digits s)) 1) (whole (past_all is_blank (past_all is_digit s))) (drop 1 s, false)
walk-one [] = refl
walk-one (c ∷ s) =
    by-test (is_digit c)
    (λ e.
    by-test (starts is_digit s)
    (λ d.
    let n = some-digit s d in
    let l : leb (suc (length (digits s))) 1 ≡ false = lt-leb (suc (length (digits s))) 1 (omega (arith, n.0)) in
    rw (e, l) n.1)
    (λ d. let n = no_digit s d in rw (e, n.0, n.1) (walk-two s)))
    (λ e. rw e (by-test (is_blank c) (λ b. rw b (walk-rest s)) (λ b. rw b)))

one_less : (n : ℕ) → leb (suc n) 2 ≡ leb n 1
one_less n =
    by-test (leb n 1) (λ e. le-leb (suc n) 2 (omega (arith, leb-true n 1 e)) ∙ sym e)
    (λ e. lt-leb (suc n) 2 (omega (arith, leb-false n 1 e)) ∙ sym e)

-- the digits of a power are y's
abbrev few_digits : List ℕ → Bool
few_digits y = leb 1 (length (digits y)) and leb (length (digits y)) 2

walk-power-sign : (y : List ℕ)
    → walk past_power_sign y
    ≡ cond (few_digits y) (whole (past_all is_blank (past_all is_digit y))) (cond (is_empty (digits y)) y (drop 2 y), false)
walk-power-sign [] = refl
walk-power-sign (c ∷ s) =
    by-test (is_digit c)
    (λ e. rw (e, le-leb 1 (suc (length (digits s))) (omega arith), one_less (length (digits s))) (walk-one s))
    (λ e. rw e)

walk-letter : (x : List ℕ) → walk past_letter x ≡ walk past_power_sign (past_one is_sign x)
walk-letter [] = refl
walk-letter (c ∷ s) = by-test (is_sign c) (λ e. rw e) (λ e. rw e)

-- ---- behind a mantissa
abbrev behind : List ℕ → List ℕ × Bool
behind x = cond (power_form x) (whole (past_all is_blank (past_power x))) (power_stop x, false)

walk-leaves : (c : ℕ) (s : List ℕ) → cond (is_lost (leaves c)) (c ∷ s, false) (walk (leaves c) s) ≡ behind (c ∷ s)
walk-leaves c s =
    by-test (is_letter c) (λ e. rw e (walk-letter s ∙ walk-power-sign (past_one is_sign s)))
    (λ e. rw e (by-test (is_blank c) (λ b. rw b (walk-rest s)) (λ b. rw b)))

walk-fraction : (s : List ℕ) → walk in_fraction s ≡ behind (past_all is_digit s)
walk-fraction [] = refl
walk-fraction (c ∷ s) = by-test (is_digit c) (λ e. rw e (walk-fraction s)) (λ e. rw e (walk-leaves c s))

walk-whole : (s : List ℕ) → walk in_whole s ≡ behind (past_mantissa s)
walk-whole [] = refl
walk-whole (c ∷ s) =
    by-test (is_digit c) (λ e. rw e (walk-whole s))
    (λ e. by-test (is_point c) (λ p. rw (e, p) (walk-fraction s)) (λ p. rw (e, p, e) (walk-leaves c s)))

-- ---- a mantissa, and what stands before it
abbrev mantissa : List ℕ → List ℕ × Bool
mantissa u = cond (is_empty (mantissa_digits u)) (past_mantissa u, false) (behind (past_mantissa u))

walk-bare : (s : List ℕ) → walk bare_point s ≡ cond (is_empty (digits s)) (past_all is_digit s, false) (behind (past_all is_digit s))
walk-bare [] = refl
walk-bare (c ∷ s) = by-test (is_digit c) (λ e. rw e (walk-fraction s)) (λ e. rw e)

walk-sign : (s : List ℕ) → walk past_sign s ≡ mantissa s
walk-sign [] = refl
walk-sign (c ∷ s) =
    by-test (is_digit c) (λ e. rw e (walk-whole s))
    (λ e. by-test (is_point c) (λ p. rw (e, p) (walk-bare s)) (λ p. rw (e, p, e)))

walk-blanks : (s : List ℕ) → walk in_blanks s ≡ mantissa (unsigned_part s)
walk-blanks [] = refl
walk-blanks (c ∷ s) =
    by-test (is_blank c) (λ b. rw b (walk-blanks s))
    (λ b. by-test (is_sign c) (λ g. rw (b, g) (walk-sign s)) (λ g. rw (b, g) (walk-sign (c ∷ s))))

-- ---- the place of what is left, counted from 0, tells the byte: past a mantissa without a digit, where a power breaks off, or past the last blanks
real-byte-found : (s : List ℕ) (next : ℕ) → drop next s ≡ (mantissa (unsigned_part s)).0 → real_byte s ≡ stopped_at next (length s)
unfolding real_byte
real-byte-found s next is =
    lost-at step is_lost ended in_blanks s next (is ∙ ap (λ (w : List ℕ × Bool). w.0) (sym (walk-blanks s)))

module _ (s : List ℕ) (next : ℕ) where
  abbrev u : List ℕ
  u = unsigned_part s

  pub byte-no-digit : is_empty (mantissa_digits u) ≡ true → drop next s ≡ past_mantissa u → real_byte s ≡ stopped_at next (length s)
  byte-no-digit e is = real-byte-found s next (rw e is)

  module _ (some : is_empty (mantissa_digits u) ≡ false) where
    pub byte-no-power : power_form (past_mantissa u) ≡ false → drop next s ≡ power_stop (past_mantissa u)
        → real_byte s ≡ stopped_at next (length s)
    byte-no-power p is = real-byte-found s next (rw (some, p) is)

    pub byte-no-end : power_form (past_mantissa u) ≡ true → drop next s ≡ past_all is_blank (past_power (past_mantissa u))
        → real_byte s ≡ stopped_at next (length s)
    byte-no-end p is = real-byte-found s next (rw (some, p) is)

-- ---- it ends well exactly where the form is right
mantissa-ends : (u : List ℕ) → (mantissa u).1 ≡ real_form u
mantissa-ends u =
    by-test (is_empty (mantissa_digits u)) (λ e. rw e)
    (λ e. by-test (power_form (past_mantissa u)) (λ p. rw (e, p)) (λ p. rw (e, p)))

ends : (s : List ℕ) → (walk in_blanks s).1 ≡ real_form (unsigned_part s)
ends s = ap (λ (w : List ℕ × Bool). w.1) (walk-blanks s) ∙ mantissa-ends (unsigned_part s)

-- ---- and can do so from wherever it is not lost: by a digit, or a blank where none may follow, and blanks
abbrev onward : Place → ℕ
onward in_blanks = 48
onward past_sign = 48
onward in_whole = 48
onward bare_point = 48
onward in_fraction = 48
onward past_letter = 48
onward past_power_sign = 48
onward one_digit = 48
onward two_digits = 32
onward in_rest = 32
onward lost = 32

rest-ends : (r : ℕ) → ended (run step in_rest (replicate r 32)) ≡ true
rest-ends zero = refl
rest-ends (suc r) = rest-ends r

-- the places where a field may end go on by blanks
blanks-end : (q : Place) (r : ℕ) → ended q ≡ true → step q 32 ≡ in_rest → ended (run step q (replicate r 32)) ≡ true
blanks-end q zero e s = e
blanks-end q (suc r) e s = ap (λ (x : Place). ended (run step x (replicate r 32))) s ∙ rest-ends r

-- ---- the very byte, whatever the length of the fields that are tried
module _ {Field : List ℕ → Type 0} (form : (s : List ℕ) → Field s ↔ (real_form (unsigned_part s) ≡ true)) where
  knows : Knows step is_lost in_blanks Field
  knows =
      record {
        good = ended;
        exactly = λ s. (λ f. ends s ∙ (form s).0 f, λ e. (form s).1 (sym (ends s) ∙ e));
        stays = stays;
        never = never;
        begins = refl;
        behind = λ q r. onward q ∷ replicate r 32;
        so-many = λ q r. ap suc (length-replicate r 32);
        completes = completes;
      }
    where
      stays : (q : Place) (c : ℕ) → is_lost q ≡ true → is_lost (step q c) ≡ true
      stays in_blanks c e = clash (sym e)
      stays past_sign c e = clash (sym e)
      stays in_whole c e = clash (sym e)
      stays bare_point c e = clash (sym e)
      stays in_fraction c e = clash (sym e)
      stays past_letter c e = clash (sym e)
      stays past_power_sign c e = clash (sym e)
      stays one_digit c e = clash (sym e)
      stays two_digits c e = clash (sym e)
      stays in_rest c e = clash (sym e)
      stays lost c e = refl

      never : (q : Place) → is_lost q ≡ true → ended q ≡ false
      never in_blanks e = refl
      never past_sign e = refl
      never in_whole e = clash (sym e)
      never bare_point e = refl
      never in_fraction e = clash (sym e)
      never past_letter e = refl
      never past_power_sign e = refl
      never one_digit e = clash (sym e)
      never two_digits e = clash (sym e)
      never in_rest e = clash (sym e)
      never lost e = refl

      completes : (q : Place) (r : ℕ) → is_lost q ≡ false → ended (run step q (onward q ∷ replicate r 32)) ≡ true
      completes in_blanks r e = blanks-end in_whole r refl refl
      completes past_sign r e = blanks-end in_whole r refl refl
      completes in_whole r e = blanks-end in_whole r refl refl
      completes bare_point r e = blanks-end in_fraction r refl refl
      completes in_fraction r e = blanks-end in_fraction r refl refl
      completes past_letter r e = blanks-end one_digit r refl refl
      completes past_power_sign r e = blanks-end one_digit r refl refl
      completes one_digit r e = blanks-end two_digits r refl refl
      completes two_digits r e = rest-ends r
      completes in_rest r e = rest-ends r
      completes lost r e = clash e

  module _ (s : List ℕ) (wrong : Field s → ⊥) where
    pub real-byte-is : 1 ≤ length s → VeryByte Field s (real_byte s)
    unfolding real_byte
    real-byte-is = lost-is knows s wrong

    pub real-byte-any : Anyhow Field s (real_byte s)
    unfolding real_byte
    real-byte-any = lost-anyhow knows s wrong
