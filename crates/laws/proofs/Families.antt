-- What holds of the two families that we know holds of each.
use mathlib.Core.Bool.{true}
use mathlib.Core.Path.{◌≡◌}
use Prim.Native.Nat.{ℕ, zero, suc, ◌<◌}
use borrow.Author.Tests.{ltb-true}
use native.Mathlib.Omega.{arith}
use Rattle.laws.specs.Family.{known}

pub each-family {ℓ} : (P : ℕ → Type ℓ) (family : ℕ) → known family ≡ true → P 0 → P 1 → P family
each-family P zero k usgs canadian = usgs
each-family P (suc zero) k usgs canadian = canadian
each-family P (suc (suc n)) k usgs canadian =
    let h : suc (suc n) < 2 = ltb-true (suc (suc n)) 2 k in
    absurd (omega (arith, h))
