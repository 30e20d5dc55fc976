-- Powers of ten.
use Prim.Native.Nat.{ℕ, ◌^◌, ◌<◌, ◌≤◌, suc, ◌+◌, ◌*◌, ◌-◌}
use native.Mathlib.Nat.{one-le-pow, pow-le-pow_right, pow-suc}
use lib.Dec.{lit<}
use mathlib.Core.Path.{◌≡◌}
use native.Mathlib.Omega.{arith}

pub ten-pos : (k : ℕ) → 0 < 10 ^ k
ten-pos k = one-le-pow k 10 (lit< tt)

pub ten-up : {i j : ℕ} → i ≤ j → 10 ^ i ≤ 10 ^ j
ten-up h = pow-le-pow_right (lit< tt) h

-- one digit more needs one place more
pub room : (v d from i : ℕ) → from ≤ i → v < 10 ^ (i - from) → d < 10 → v * 10 + d < 10 ^ (i + 1 - from)
room v d from i f h k =
    let e : i + 1 - from ≡ suc (i - from) = omega arith in
    rw (e, pow-suc 10 (i - from)) (omega arith)
