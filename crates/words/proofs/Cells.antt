-- A word of 32 bits is the cell that two's complement says, and what the machine works out of it fits.
use Prim.Native.Nat.{◌^◌, ◌≤◌, ◌<◌, ℕ}
use native.Mathlib.Omega.{arith}
use lib.IntN.{ℤ, pos, negsuc, ◌-ℤ◌, neg_ℤ}
use mir.Syntax.{w32, w64}
use mir.Val.{SFits, to_z}
use mathlib.Core.Path.{◌≡◌, ap, subst⁻¹}
use borrow.Author.Tests.{lt-ltb, le-ltb}
use mir.Facts.{to_z_pos, sfits_widen}
use Rattle.laws.proofs.Integers.{above, below, sum-parts}
use Rattle.words.specs.Words.{twos}

-- the least number of 32 bits lies one further from zero than the greatest
within : (z : ℤ) → above z < 2 ^ 31 → below z ≤ 2 ^ 31 → SFits w32 z
within (pos n) a b = record { sfits = a }
within (negsuc n) a b = record { sfits = omega arith }

pub low_word : (n : ℕ) → n < 2147483648 → twos n ≡ pos n
low_word n h = simp (lt-ltb n 2147483648 h)

pub high_word : (n : ℕ) → 2147483648 ≤ n → twos n ≡ pos n -ℤ pos 4294967296
high_word n h = simp (le-ltb n 2147483648 h)

pub lowered-fits : (n : ℕ) → 2147483648 ≤ n → n < 2 ^ 32 → SFits w32 (pos n -ℤ pos 4294967296)
lowered-fits n h k =
    let s = sum-parts (pos n) (neg_ℤ (pos 4294967296)) in
    within (pos n -ℤ pos 4294967296) (omega (arith, s.above-is)) (omega (arith, s.below-is))

-- what the machine works out in 64 bits, and that it fits
pub lowered : (n : ℕ) → n < 2 ^ 32 → to_z w64 n -ℤ pos 4294967296 ≡ pos n -ℤ pos 4294967296
lowered n h = ap (λ (z : ℤ). z -ℤ pos 4294967296) (to_z_pos w64 {n = n} (omega arith))

pub lowered-fits-64 : (n : ℕ) → 2147483648 ≤ n → n < 2 ^ 32 → SFits w64 (to_z w64 n -ℤ pos 4294967296)
lowered-fits-64 n h k = subst⁻¹ (SFits w64) (lowered n k) (sfits_widen {w = w32} tt (lowered-fits n h k))
