-- 02, request 2, computed: the sign over all three parts, `-0` degrees included, and what may stand in the fields.
use mathlib.Core.Path.{◌≡◌, refl}
use Prim.Native.Nat.{ℕ, ◌*◌, ◌^◌}
use Prim.Native.String.{String}
use lib.IntN.{ℤ, pos, neg_ℤ}
use Rattle.laws.specs.Texts.{bytes}
use Rattle.laws.specs.Digits.{short, places}
use Rattle.number.specs.Integer.{integer}
use Rattle.number.specs.Real.{real, billionths}
use Rattle.corner.specs.Corner.{arc_seconds}

-- degrees, minutes and seconds alone, in the 13 bytes that they take
abbrev said : String → ℤ
said text = arc_seconds 1 (bytes text)

abbrev below : ℕ → ℤ
below seconds = neg_ℤ (pos (seconds * 10 ^ 9))

-- 75 degrees and a half, west
pub western : said " -7530 0.0000" ≡ below 271800
unfolding arc_seconds integer real billionths short places
western = refl

-- half a degree west of Greenwich: the minus stands before zero degrees
pub minus-zero : said "  -03000.0000" ≡ below 1800
unfolding arc_seconds integer real billionths short places
minus-zero = refl

pub plus-zero : said "  +03000.0000" ≡ pos (1800 * 10 ^ 9)
unfolding arc_seconds integer real billionths short places
plus-zero = refl

-- a minus before nothing at all is no other corner
pub no-degrees : said "  -0 0 0.0000" ≡ pos 0
unfolding arc_seconds integer real billionths short places
no-degrees = refl

-- seconds of fewer or more decimals, left in their field, or with an exponent
pub quarter : said "  4515 0.75  " ≡ pos (162900750 * 10 ^ 6)
unfolding arc_seconds integer real billionths short places
quarter = refl

pub raised : said "  45151.5E+01" ≡ pos (162915 * 10 ^ 9)
unfolding arc_seconds integer real billionths short places
raised = refl
