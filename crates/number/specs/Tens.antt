-- The powers of ten that the readings and writings of a field use. Any other is answered 0, so that every k has an answer.
use Rattle.std.specs.Prelude.{cond, ℕ, ◌^◌, ltb}

unfoldable pub ten_to : ℕ → ℕ
ten_to k = cond (ltb k 19) (10 ^ k) 0
