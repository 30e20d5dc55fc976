-- A text has the grammar's form exactly when the form's test passes, and is taken apart alike: carried by the laws of its parts.
use mathlib.Core.Bool.{true, false, not, cond, Bool}
use mathlib.Core.List.{List, [], ◌∷◌, ◌++◌, append-nil}
use mathlib.Core.Path.{◌≡◌, sym, refl, ◌∙◌, ap}
use Prim.Native.Nat.{ℕ, ◌≤◌, ◌+◌}
use native.Mathlib.Omega.{arith}
use lib.ListN.{length}
use Rattle.laws.specs.Sign.{signed, ◌and◌}
use Rattle.laws.proofs.Tests.{clash, and_both, and_first, and_second}
use Rattle.number.specs.Bytes.{is_empty, is_digit, past_all, digits, is_blank, is_minus, starts, number, is_point, past_one}
use Rattle.number.specs.Integer.{integer_form, integer_value, unsigned_part}
use Rattle.number.specs.Grammar.{IntegerText, raised, sunk, RealText}
use Rattle.number.specs.Real.{real_form, real_value, billionths, fraction_part, past_mantissa, mantissa_digits, power_form, past_power, power_minus, power_size, has_point, decimals, assumed}
use Rattle.number.proofs.Fields.{empty-some}
use Rattle.number.proofs.GrammarParts.{Headed, digits_of, past_of, digits-open, head-past, head-minus, digits-past, digits-every, head-found, mantissa-opens, exponent-starts, fraction-read, power-read, past-every, past-stops, fraction-found, power-found}

some_byte : (l : List ℕ) → not (is_empty l) ≡ true → 1 ≤ length l
some_byte [] h = clash (sym h)
some_byte (c ∷ l) h = omega arith

no_byte : (l : List ℕ) → is_empty l ≡ true → l ≡ []
no_byte [] h = refl
no_byte (c ∷ l) h = clash (sym h)

pub record IntegerRead (s : List ℕ) (negative : Bool) (size : ℕ) : Type 0 where
  pub form : integer_form s ≡ true
  pub value : integer_value s ≡ signed negative size

pub integer-read : {s : List ℕ} {n : Bool} {size : ℕ} → IntegerText s n size → IntegerRead s n size
integer-read {s} {n} i =
    let xs = i.digits in
    let t : s ≡ i.blanks ++ (i.sign ++ (xs ++ [])) = rw append-nil i.text in
    let h : Headed s n (xs ++ []) =
    record { blanks = i.blanks; sign = i.sign; text = t; blank = i.blank; signs = i.signs } in
    let o = digits-open xs [] i.digit i.some in
    let d : digits (unsigned_part s) ≡ xs = ap digits (head-past h o) ∙ digits_of xs [] i.digit refl in
    let r : past_all is_digit (unsigned_part s) ≡ [] =
    ap (past_all is_digit) (head-past h o) ∙ past_of is_digit xs [] i.digit refl in
    record { form = rw (d, r) (and_both (ap not (empty-some xs i.some)) refl); value = rw (head-minus h o, d, i.spells) }

pub integer-found : (s : List ℕ) → integer_form s ≡ true
    → IntegerText s (starts is_minus (past_all is_blank s)) (number 0 (digits (unsigned_part s)))
integer-found s f =
    let h = head-found s in
    let u = unsigned_part s in
    let some = not (is_empty (digits u)) in
    let done = is_empty (past_all is_digit u) in
    let e : past_all is_digit u ≡ [] = no_byte (past_all is_digit u) (and_second some done f) in
    let t : u ≡ digits u = digits-past u ∙ ap (λ r. digits u ++ r) e ∙ append-nil (digits u) in
    record {
      blanks = h.blanks;
      sign = h.sign;
      digits = digits u;
      text = h.text ∙ ap (λ r. h.blanks ++ (h.sign ++ r)) t;
      blank = h.blank;
      signs = h.signs;
      digit = digits-every u;
      some = some_byte (digits u) (and_first some done f);
      spells = refl;
    }

-- no point stands, or one does: one choice
point-or-not : (b : Bool) (standing put : ℕ) → cond b standing put ≡ cond (not b) put standing
point-or-not true standing put = refl
point-or-not false standing put = refl

pub record RealRead (s : List ℕ) (negative : Bool) (mantissa places : ℕ) (lowered : Bool) (power : ℕ) : Type 0 where
  pub form : real_form (unsigned_part s) ≡ true
  pub value : real_value (starts is_minus (past_all is_blank s)) (length s) (unsigned_part s)
      ≡ billionths negative mantissa (9 + raised lowered power) (places + sunk lowered power)

pub real_read : {s : List ℕ} {n : Bool} {m p : ℕ} {l : Bool} {e : ℕ} → RealText s n m p l e → RealRead s n m p l e
real_read {s} {n} t =
    let u = unsigned_part s in
    let xs = t.digits in
    let y = t.exponent ++ t.rest in
    let h : Headed s n (xs ++ (t.after ++ y)) =
    record { blanks = t.blanks; sign = t.sign; text = t.text; blank = t.blank; signs = t.signs } in
    let o = mantissa-opens xs t.fractions y t.digit t.some in
    let no-point = exponent-starts is_point refl refl refl t.exponents t.rest t.ends in
    let no_digit = exponent-starts is_digit refl refl refl t.exponents t.rest t.ends in
    let f = fraction-read t.fractions y no-point no_digit in
    let w = power-read t.exponents t.rest t.ends in
    let d : digits u ≡ xs = ap digits (head-past h o) ∙ digits_of xs (t.after ++ y) t.digit f.stops in
    let r : past_all is_digit u ≡ t.after ++ y =
    ap (past_all is_digit) (head-past h o) ∙ past_of is_digit xs (t.after ++ y) t.digit f.stops in
    let p : is_empty t.after ≡ not (has_point u) = f.stands ∙ ap (λ a. not (starts is_point a)) (sym r) in
    let k : digits (fraction_part u) ≡ t.fraction = ap (λ a. digits (past_one is_point a)) r ∙ f.digits in
    let places = point-or-not (has_point u) (length t.fraction) (assumed (length s)) ∙ rw p at t.decimals in
    let x : past_mantissa u ≡ y = ap (λ a. past_all is_digit (past_one is_point a)) r ∙ f.past in
    let q : past_all is_blank t.rest ≡ [] = rw append-nil at (past_of is_blank t.rest [] t.ends refl) in
    record {
      form = rw (d, k, x, w.form, w.past, q) (and_both (ap not (empty-some (xs ++ t.fraction) t.some)) refl);
      value = rw (d, k, x, w.minus, w.size, head-minus h o, t.spells, places);
    }

pub real-found : (s : List ℕ) → real_form (unsigned_part s) ≡ true
    → let u = unsigned_part s in
    RealText s (starts is_minus (past_all is_blank s)) (number 0 (mantissa_digits u)) (decimals (length s) u)
    (power_minus (past_mantissa u)) (power_size (past_mantissa u))
real-found s f =
    let h = head-found s in
    let u = unsigned_part s in
    let x = past_mantissa u in
    let some = not (is_empty (mantissa_digits u)) in
    let good = power_form x in
    let done = is_empty (past_all is_blank (past_power x)) in
    let g = and_second some (good and done) f in
    let a = fraction-found (past_all is_digit u) (past-stops is_digit u) in
    let w = power-found x (and_first good done g) in
    let t : u ≡ digits u ++ (a.after ++ (w.exponent ++ past_power x)) =
    digits-past u ∙ ap (λ r. digits u ++ r) (a.text ∙ ap (λ r. a.after ++ r) w.text) in
    record {
      blanks = h.blanks;
      sign = h.sign;
      digits = digits u;
      after = a.after;
      fraction = digits (fraction_part u);
      exponent = w.exponent;
      rest = past_power x;
      text = h.text ∙ ap (λ r. h.blanks ++ (h.sign ++ r)) t;
      blank = h.blank;
      signs = h.signs;
      digit = digits-every u;
      fractions = a.is;
      some = some_byte (mantissa_digits u) (and_first some (good and done) f);
      spells = refl;
      decimals = rw a.stands (sym (point-or-not (has_point u) (length (digits (fraction_part u))) (assumed (length s))));
      exponents = w.is;
      ends = past-every is_blank (past_power x) (and_second good done g);
    }
