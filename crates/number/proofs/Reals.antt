-- A real field judged by the places that the code found, and its value from the kept digits.
use mathlib.Core.Bool.{true, false, Bool, not, cond}
use lib.Dec.{ltb, eqb}
use mathlib.Core.List.{List}
use mathlib.Core.Path.{◌≡◌, ◌∙◌, sym, ap, subst⁻¹}
use Prim.Native.Nat.{ℕ, ◌≤◌, ◌+◌, ◌<◌, ◌-◌}
use lib.ListN.{length, drop, length-drop}
use native.Mathlib.Nat.{add-zero}
use native.Mathlib.Omega.{arith}
use Rattle.laws.proofs.Tests.{and-fails-first, and-fails-second, and_both, by-test}
use Rattle.number.specs.Bytes.{is_blank, is_minus, starts, past_all, is_empty, digits, is_digit, number}
use Rattle.number.specs.Integer.{unsigned_part, wrong_form}
use Rattle.number.specs.Grammar.{raised, sunk}
use Rattle.number.specs.Real.{real, real_form, real_value, mantissa_digits, fraction_part, past_mantissa, power_form, power_minus, power_size, past_power, decimals, assumed}
use Rattle.number.specs.RealStarts.{real_byte}
use Rattle.number.specs.declared.Unread.{Unread}
use Rattle.number.specs.Steps.{Past, stopped_at, power_stop, MantissaAt, PowerIs, PowerStops, ScaledAt, Leads, none, kept_all, reading_of}
use Rattle.number.specs.declared.decimal.Kept.{Kept}
use Rattle.number.specs.declared.decimal.Mantissa.{Mantissa}
use Rattle.number.specs.declared.decimal.Power.{Power}
use Rattle.kinds.specs.declared.Kind.{Kind}
use Rattle.std.specs.Prelude.{Result}
use Rattle.number.proofs.Fields.{within-good, empty-none, empty-some}
use Rattle.number.proofs.GrammarParts.{digits-every}
use Rattle.number.proofs.RealBytes.{byte-no-digit, byte-no-power, byte-no-end}
use Rattle.number.proofs.Scale.{leads-none, leads-all, every_append}

module _ (s : List ℕ) (h : 1 ≤ length s) (k : length s ≤ 24) where
  pub real-wrong : real_form (unsigned_part s) ≡ false → real s ≡ wrong_form (real_byte s)
  unfolding real
  real-wrong f = within-good 24 s _ h k ∙ simp f

  pub real-good : real_form (unsigned_part s) ≡ true → real s ≡ real_value (starts is_minus (past_all is_blank s)) (length s) (unsigned_part s)
  unfolding real
  real-good f = within-good 24 s _ h k ∙ simp f

module _ (s : List ℕ) (u : ℕ) (is : drop u s ≡ unsigned_part s) (m : Mantissa) (ma : MantissaAt s u m) where
  no_digit : m.digits ≡ 0 → is_empty (mantissa_digits (unsigned_part s)) ≡ true
  no_digit e = ap (λ l. is_empty (mantissa_digits l)) (sym is) ∙ empty-none (mantissa_digits (drop u s)) (omega (arith, ma.count, e))

  some-digit : (m.digits ≡ 0 → ⊥) → is_empty (mantissa_digits (unsigned_part s)) ≡ false
  some-digit d = ap (λ l. is_empty (mantissa_digits l)) (sym is) ∙ empty-some (mantissa_digits (drop u s)) (omega (arith, ma.count, d))

  at-power : drop m.next s ≡ past_mantissa (unsigned_part s)
  at-power = ma.past.is ∙ ap past_mantissa is

  pub form-no-digit : m.digits ≡ 0 → real_form (unsigned_part s) ≡ false
  form-no-digit e = rw (no_digit e)

  pub byte-at-digit : m.digits ≡ 0 → real_byte s ≡ stopped_at m.next (length s)
  byte-at-digit e = byte-no-digit s m.next (no_digit e) at-power

  module _ (w : Unread) (pa : PowerStops s m.next w) where
    no_power : power_form (past_mantissa (unsigned_part s)) ≡ false
    no_power = ap power_form (sym at-power) ∙ pa.form

    pub form-no-power : real_form (unsigned_part s) ≡ false
    form-no-power =
        and-fails-second (not (is_empty (mantissa_digits (unsigned_part s))))
        (and-fails-first (is_empty (past_all is_blank (past_power (past_mantissa (unsigned_part s))))) no_power)

    pub byte-at-power : (m.digits ≡ 0 → ⊥) → real_byte s ≡ stopped_at pa.stop (length s)
    byte-at-power d = byte-no-power s pa.stop (some-digit d) no_power (pa.past.is ∙ ap power_stop at-power)

  module _ (p : Power) (pa : PowerIs s m.next p) where
    form-of-power : power_form (past_mantissa (unsigned_part s)) ≡ true
    form-of-power = ap power_form (sym at-power) ∙ pa.form

    module _ (end : ℕ) (rest : Past (past_all is_blank) s p.next end) where
      at-end : drop end s ≡ past_all is_blank (past_power (past_mantissa (unsigned_part s)))
      at-end = rest.is ∙ ap (past_all is_blank) (pa.past.is ∙ ap past_power at-power)

      pub form-no-end : end < length s → real_form (unsigned_part s) ≡ false
      form-no-end l =
          let e : is_empty (past_all is_blank (past_power (past_mantissa (unsigned_part s)))) ≡ false =
          ap is_empty (sym at-end) ∙ empty-some (drop end s) (omega (arith, length-drop end s))
          in
          and-fails-second (not (is_empty (mantissa_digits (unsigned_part s))))
          (and-fails-second (power_form (past_mantissa (unsigned_part s))) e)

      pub byte-at-end : (m.digits ≡ 0 → ⊥) → real_byte s ≡ stopped_at end (length s)
      byte-at-end d = byte-no-end s end (some-digit d) form-of-power at-end

      pub form-real : (m.digits ≡ 0 → ⊥) → length s ≤ end → real_form (unsigned_part s) ≡ true
      form-real d l =
          let e : is_empty (past_all is_blank (past_power (past_mantissa (unsigned_part s)))) ≡ true =
          ap is_empty (sym at-end) ∙ empty-none (drop end s) (omega (arith, length-drop end s))
          in
          rw (some-digit d, form-of-power, e)

      kept-leads : Leads (number 0 (mantissa_digits (unsigned_part s))) m.kept
      kept-leads =
          subst⁻¹ (Leads (number 0 (mantissa_digits (unsigned_part s)))) (ma.kept ∙ ap (λ l. kept_all none (mantissa_digits l)) is)
          (leads-all 0 none (mantissa_digits (unsigned_part s))
          (every_append is_digit (digits (unsigned_part s)) (digits (fraction_part (unsigned_part s)))
          ∙ and_both (digits-every (unsigned_part s)) (digits-every (fraction_part (unsigned_part s))))
          leads-none)

      size_is : p.size ≡ power_size (past_mantissa (unsigned_part s))
      size_is = pa.size ∙ ap power_size at-power

      minus_is : p.minus ≡ power_minus (past_mantissa (unsigned_part s))
      minus_is = pa.minus ∙ ap power_minus at-power

      -- the digits behind the point, as the code has them
      module _ (places : ℕ) (placed : places ≡ cond (ltb m.whole m.point) (m.next - m.point) (assumed (length s))) where
        places_is : places ≡ decimals (length s) (unsigned_part s)
        places_is = placed ∙ rw (ma.pointed, ma.standing, is)

        pub value-is : (r : Result ℕ Kind)
            → ScaledAt m.kept (9 + raised p.minus p.size) (places + sunk p.minus p.size) r → (minus : Bool)
            → real_value minus (length s) (unsigned_part s) ≡ reading_of minus r
        value-is r sc minus = rw (← minus_is, ← size_is, ← places_is) (sc.is _ kept-leads minus)

-- what the code scales by, on either side of its test of the exponent's sign
module _ (k : Kept) (places size : ℕ) (b : Bool) (r : Result ℕ Kind) where
  pub scaled-lowered : b ≡ true → ScaledAt k 9 (places + size) r → ScaledAt k (9 + raised b size) (places + sunk b size) r
  scaled-lowered e sc = rw e sc

  pub scaled-raised : b ≡ false → ScaledAt k (9 + size) places r → ScaledAt k (9 + raised b size) (places + sunk b size) r
  scaled-raised e sc = rw (e, add-zero) sc

pub assumed-between : (bytes : ℕ) → (1 ≤ assumed bytes) × (assumed bytes ≤ 15)
assumed-between bytes =
    by-test (eqb bytes 12) (λ e. rw e (omega arith, omega arith))
    (λ e. by-test (eqb bytes 7) (λ f. rw (e, f) (omega arith, omega arith)) (λ f. rw (e, f) (omega arith, omega arith)))

pub decimals-few : (pointed : Bool) (standing bytes : ℕ) → standing ≤ 24 → cond pointed standing (assumed bytes) ≤ 24
decimals-few true standing bytes h = h
decimals-few false standing bytes h = omega (arith, (assumed-between bytes).1)
