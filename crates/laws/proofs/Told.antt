-- A number with a sign that a struct holds, read back from its bits, and a test in the form that the machine makes.
use mathlib.Core.Path.{◌≡◌, ◌∙◌, ap}
use Prim.Native.Nat.{◌^◌, ◌<◌}
use lib.IntN.{ℤ}
use lib.Signed.{mag}
use mir.Syntax.{w64}
use mir.Val.{to_z, of_z}
use Rattle.laws.proofs.Signs.{back}

-- what a call answered for it
pub told : {X : Type 0} (f : ℤ → X) {r : X} (z : ℤ) → r ≡ f (to_z w64 (of_z w64 z)) → mag z < 2 ^ 63 → r ≡ f z
told f z e h = e ∙ ap f (back z h)
