-- Decimal digits of a number. Nothing here knows the format.
use Rattle.std.specs.Prelude.{cond, Bool, ℕ, zero, suc, ◌^◌, ◌-◌, ◌%◌, ltb, eqb}

-- how many decimal digits n has, where it has at most k; zero has none
unfoldable pub places : ℕ → ℕ → ℕ
places zero n = 0
places (suc k) n = cond (ltb n (10 ^ k)) (places k n) (suc k)

-- of the digits of n, which are at most k, those after the first p are all zero:
-- there are at most p from the first to the last that is not zero
unfoldable pub short : ℕ → ℕ → ℕ → Bool
short k p n = eqb (n % 10 ^ (places k n - p)) 0
