-- Five reals one behind the other: each begins where the one before it ends.
use Rattle.std.proofs.Common.{List, [], ◌∷◌, ℕ, ℤ, ap, w64, to_z, of_z, FitsSigned}
use Rattle.std.proofs.Math.Facts.{to_z-of_z}
use Rattle.written.specs.Painted.Field.{decimal}
use Rattle.paint.specs.FieldSteps.{Paints}
use Rattle.paint.proofs.FieldLaws.{named, behind}
use Rattle.paint.proofs.write_reals.Goals as goal

-- each field by the number that was given
given : {before after : List ℕ} {at end : ℕ} {z : ℤ} → FitsSigned w64 z
    → Paints before at (decimal (to_z w64 (of_z w64 z)) ∷ []) after end → Paints before at (decimal z ∷ []) after end
given f p = named (ap (λ (v : ℤ). decimal v ∷ []) (to_z-of_z f)) p

pub returns : goal.returns
returns c =
    let r = c.ranges in
    behind
    (behind
    (behind (behind (given r.x c.put_real-y_at.ensures) (given r.y c.put_real-datum_at.ensures)) c.put_real-least_at.ensures)
    (given r.least c.put_real-greatest_at.ensures))
    (given r.greatest c.put_real.ensures)
