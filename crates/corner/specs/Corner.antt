-- Document 02, request 2: the south-west corner as bytes 110-135 of a Canadian record A write it.
use Rattle.std.specs.Prelude.{Bool, List, ℕ, ◌+◌, ◌*◌, ◌^◌, ℤ, nat_abs}
use Rattle.laws.specs.Sign.{signed, same_z, ◌and◌}
use Rattle.number.specs.Integer.{integer, says_minus}
use Rattle.number.specs.Real.{real}
use Rattle.field.specs.Field.{stretch}

-- "signed degrees (4), minutes (2) and seconds (7 bytes)", from `first` on, in billionths of an arc-second; "the sign taken over all three
-- parts" is that of the degrees as they are written, so `-0` degrees make the minutes and seconds count below zero
unfoldable pub arc_seconds : ℕ → List ℕ → ℤ
arc_seconds first block =
    signed (says_minus (stretch first 4 block))
    (nat_abs (integer (stretch first 4 block)).value * (3600 * 10 ^ 9)
    + nat_abs (integer (stretch (first + 4) 2 block)).value * (60 * 10 ^ 9)
    + nat_abs (real (stretch (first + 6) 7 block)).value)

-- "longitude then latitude": it says a corner whose x is the longitude and whose y is the latitude
abbrev pub says_corner : List ℕ → ℤ → ℤ → Bool
says_corner block x y = same_z (arc_seconds 110 block) x and same_z (arc_seconds 123 block) y
