-- Differences of reals, as the machine keeps them.
use mathlib.Core.Path.{◌≡◌, refl, ◌∙◌, ap}
use Prim.Native.Nat.{zero, suc, ◌≤◌, ◌<◌, ◌^◌}
use borrow.Author.Tests.{lt-ltb}
use lib.IntN.{ℤ, pos, negsuc, nat_abs, neg_ℤ, ◌+ℤ◌, ◌-ℤ◌, +ℤ_idl}
use native.Mathlib.Omega.{arith}
use mir.Facts.{to_z-of_z}
use mir.Syntax.{w64}
use mir.Val.{to_z, of_z}
use Rattle.std.specs.Int.{int_max}
use Rattle.laws.specs.Sign.{not_negative}
use Rattle.laws.proofs.Integers.{size-sum, size-minus, size_fits}

abbrev pub kept : ℤ → ℤ
kept z = to_z w64 (of_z w64 z)

pub size_kept : (z : ℤ) → nat_abs z < 2 ^ 63 → kept z ≡ z
size_kept z h = to_z-of_z (size_fits {w = w64} z h)

-- one below the other, with one more counted or not
pub less-small : (a b : ℤ) → nat_abs a ≤ 10 ^ 18 → nat_abs b < 10 ^ 18 → nat_abs (a -ℤ b) < 2 ^ 63
less-small a b p q = omega (arith, size-sum a (neg_ℤ b), size-minus b)

pub turned : (z : ℤ) → nat_abs z < 10 ^ 18 → kept (pos 0 -ℤ kept z) ≡ neg_ℤ z
turned z p =
    ap (λ y. kept (pos 0 -ℤ y)) (size_kept z (omega arith))
    ∙ ap kept (+ℤ_idl (neg_ℤ z))
    ∙ size_kept (neg_ℤ z) (omega (arith, size-minus z))

pub raised : (z : ℤ) → nat_abs z < 10 ^ 18 → (nat_abs (z +ℤ pos 1) ≤ 10 ^ 18) × (kept (z +ℤ pos 1) ≡ z +ℤ pos 1)
raised z p =
    let h : nat_abs (z +ℤ pos 1) ≤ 10 ^ 18 = omega (arith, size-sum z (pos 1)) in
    (h, size_kept (z +ℤ pos 1) (omega arith))

pub not_below : (z : ℤ) → nat_abs (int_max z (pos 0)) ≡ not_negative z
not_below (pos zero) = refl
not_below (pos (suc n)) = rw (lt-ltb 0 (suc n) (omega arith))
not_below (negsuc n) = refl
