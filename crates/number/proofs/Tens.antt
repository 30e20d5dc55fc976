-- The power of ten that is answered, where it is one.
use mathlib.Core.Path.{◌≡◌, ◌∙◌}
use Prim.Native.Nat.{ℕ, ◌^◌, ◌<◌}
use borrow.Author.Tests.{lt-ltb}
use Rattle.number.specs.Tens.{ten_to}

pub ten-is : {k r : ℕ} → r ≡ ten_to k → k < 19 → r ≡ 10 ^ k
unfolding ten_to
ten-is {k} e h = e ∙ simp (lt-ltb k 19 h)
