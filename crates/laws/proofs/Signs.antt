-- A sign and a size put together and taken apart, and numbers with a sign read back, as the machine does it.
use Prim.Native.Nat.{ℕ, zero, suc, ◌≤◌, ◌^◌, ◌<◌, ◌+◌}
use native.Mathlib.Omega.{arith}
use lib.IntN.{pos, neg_ℤ, ℤ, ◌-ℤ◌, +ℤ_idl, negsuc, nat_abs, ◌+ℤ◌, +ℤ_one, neg_ℤ-neg_ℤ}
use lib.Signed.{mag, lt_z, non_neg}
use mathlib.Core.Bool.{true, false}
use mathlib.Core.Path.{◌≡◌, ◌∙◌, ap, subst⁻¹}
use mir.Syntax.{w64, Width}
use mir.Val.{to_z, SFits, of_z, Fits, bits, hbits}
use mir.Facts.{to_z_pos, to_z-of_z, Fits-nat_abs}
use lib.Dec.{T, ltb}
use native.Mathlib.Nat.{lt_of_le_of_lt}
use borrow.Author.Tests.{ltb-true}
use Rattle.laws.specs.Sign.{signed}
use Rattle.laws.proofs.Tests.{clash}

-- the size of a negated number
pub mag-signed : (n : ℕ) → mag (neg_ℤ (pos n)) ≤ n
mag-signed zero = omega arith
mag-signed (suc n) = omega arith

pub negated : (n : ℕ) → n < 2 ^ 63 → pos 0 -ℤ to_z w64 n ≡ signed true n
negated n h = ap (λ (z : ℤ). pos 0 -ℤ z) (to_z_pos w64 h) ∙ +ℤ_idl (neg_ℤ (pos n))

pub negated_fits : (n : ℕ) → n < 2 ^ 63 → SFits w64 (pos 0 -ℤ to_z w64 n)
negated_fits n h = record { sfits = subst⁻¹ (λ (z : ℤ). mag z < 2 ^ 63) (negated n h) (omega (arith, mag-signed n)) }

-- a number read back from the bits that carry it
pub back : (z : ℤ) → mag z < 2 ^ 63 → to_z w64 (of_z w64 z) ≡ z
back z h = to_z-of_z {w = w64} (record { sfits = h })

-- what a call gave for a number, both read back
pub read_back : {w : Width} (f : ℤ → ℤ) {v r : ℤ} → SFits w v → SFits w r → r ≡ f (to_z w (of_z w v)) → to_z w (of_z w r) ≡ f v
read_back f p q e = to_z-of_z q ∙ e ∙ ap f (to_z-of_z p)

-- a number that is not below zero is its own size
pub as-unsigned : {w w' : Width}
    → T (ltb (hbits w) (bits w')) → (z : ℤ) → SFits w z → lt_z z (pos 0) ≡ false → T (non_neg z) × Fits w' (nat_abs z)
as-unsigned l (pos n) f t = (tt, Fits-nat_abs l f)
as-unsigned l (negsuc n) f t = clash t

-- One below zero is raised by one before its sign is turned: the least number of a width has no opposite in it.
pub record Turned (w : Width) (z : ℤ) : Type 0 where
  pub fits-raised : SFits w (z +ℤ pos 1)
  pub opposite : pos 0 -ℤ (z +ℤ pos 1) ≡ pos (mag z)
  pub size : mag z + 1 ≡ nat_abs z

raised : (n : ℕ) → negsuc n +ℤ pos 1 ≡ neg_ℤ (pos n)
raised zero = +ℤ_one (negsuc zero)
raised (suc n) = +ℤ_one (negsuc (suc n))

pub turned : {w : Width} (z : ℤ) → SFits w z → lt_z z (pos 0) ≡ true → Turned w z
turned (pos n) f t = absurd (omega (arith, ltb-true n 0 t))
turned (negsuc n) f t =
    record {
      fits-raised = rw (raised n) (record { sfits = lt_of_le_of_lt (mag-signed n) f.sfits });
      opposite = rw (raised n) (+ℤ_idl (neg_ℤ (neg_ℤ (pos n))) ∙ neg_ℤ-neg_ℤ (pos n));
      size = omega arith;
    }
