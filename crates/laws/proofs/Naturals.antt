-- Numbers with a sign that are meant to have none.
use mathlib.Core.Bool.{true, false}
use mathlib.Core.Path.{◌≡◌, refl}
use native.Mathlib.Omega.{arith}
use borrow.Author.Tests.{ltb-true}
use lib.IntN.{ℤ, pos, negsuc, nat_abs}
use lib.Signed.{lt_z}
use Rattle.laws.specs.Sign.{not_negative}
use Rattle.laws.proofs.Tests.{clash}

pub below_none : (z : ℤ) → lt_z z (pos 0) ≡ true → not_negative z ≡ 0
below_none (pos n) t = absurd (omega (arith, ltb-true n 0 t))
below_none (negsuc n) t = refl

pub above-size : (z : ℤ) → lt_z z (pos 0) ≡ false → nat_abs z ≡ not_negative z
above-size (pos n) t = refl
above-size (negsuc n) t = clash t
