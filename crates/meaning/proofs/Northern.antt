-- A Canadian block 0 that GDAL wrote (samples/C_TAKEN.DEM, byte for byte), computed: it begins a sheet of family 1, no sheet of another, and with a
-- wrong corner, pair or profile count the verdict is the request's. A whole Canadian sheet has 9,609 blocks: those are run.
use mathlib.Core.List.{List, [], ◌∷◌}
use mathlib.Core.Path.{◌≡◌, refl}
use Prim.Native.Nat.{ℕ, ◌*◌, ◌^◌}
use Prim.Native.String.{String}
use lib.IntN.{ℤ, pos, neg_ℤ}
use Rattle.laws.specs.Digits.{places, short}
use Rattle.laws.specs.Lists.{joined}
use Rattle.laws.specs.Texts.{bytes}
use Rattle.number.specs.Integer.{integer}
use Rattle.number.specs.Real.{real, billionths}
use Rattle.lattice.specs.Lattice.{lattice_of}
use Rattle.corner.specs.Corner.{arc_seconds}
use Rattle.frame.specs.declared.Corner.{Corner}
use Rattle.frame.specs.declared.Header.{Header}
use Rattle.heading.specs.Heading.{header_of}
use Rattle.sheet.specs.RecordA.{record_of, canadian_front, usgs_front, back}
use Rattle.session.specs.Session.{opened, sound}
use Rattle.delivery.specs.Deliver.{Verdict, verdict_of, begins, wrong}
use Rattle.meaning.specs.PaperSheet.{blanks, field, times}

-- by the 26 bytes of the corner, x and y spacing, and n
unfoldable pub northern_by : String → String → String → String → List ℕ
northern_by corner x y n =
    joined
    (field 40 "001n06DEMe"
    ∷ field 60 "Made-up heights, written by GDAL"
    ∷ blanks 9
    ∷ bytes corner
    ∷ bytes "8    NL  "
    -- level, pattern, system, zone
    ∷ field 6 "1"
    ∷ field 6 "1"
    ∷ field 6 "0"
    ∷ field 6 "0"
    ∷ times 15 (field 24 "0.0")
    -- ground unit, vertical unit, sides
    ∷ field 6 "3"
    ∷ field 6 "2"
    ∷ field 6 "4"
    -- SW, NW, NE, SE corners, each x then y
    ∷ field 24 "-1.917000000000000D+05"
    ∷ field 24 "1.701000000000000D+05"
    ∷ field 24 "-1.917000000000000D+05"
    ∷ field 24 "1.710000000000000D+05"
    ∷ field 24 "-1.908000000000000D+05"
    ∷ field 24 "1.710000000000000D+05"
    ∷ field 24 "-1.908000000000000D+05"
    ∷ field 24 "1.701000000000000D+05"
    -- least and greatest elevation
    ∷ field 24 "-4.000000000000000D+01"
    ∷ field 24 "1.196000000000000D+03"
    -- angle, accuracy
    ∷ field 24 "0.0"
    ∷ field 6 "0"
    -- x, y, z spacing
    ∷ field 12 x
    ∷ field 12 y
    ∷ field 12 "1.000000D+00"
    -- m, n
    ∷ field 6 "1"
    ∷ field 6 n
    -- later elements
    ∷ blanks 23
    ∷ bytes "2 1 41020   5"
    ∷ blanks 124
    ∷ [])

abbrev corner_said : String
corner_said = " -5315 0.0000  4715 0.0000"

abbrev northern_a : List ℕ
northern_a = northern_by corner_said "7.500000D-01" "7.500000D-01" "1201"

abbrev corner : ℤ → ℕ → Corner
corner x y = record { x = x; y = pos (y * 10 ^ 9) }

abbrev west : ℕ → ℤ
west x = neg_ℤ (pos (x * 10 ^ 9))

abbrev northern_header : Header
northern_header =
    record {
      level = 1;
      system = 0;
      zone = 0;
      ground = 3;
      vertical = 2;
      sw = corner (west 191700) 170100;
      nw = corner (west 191700) 171000;
      ne = corner (west 190800) 171000;
      se = corner (west 190800) 170100;
      least = west 40;
      greatest = pos (1196 * 10 ^ 9);
      accuracy = 0;
      xstep = 75 * 10 ^ 7;
      ystep = 75 * 10 ^ 7;
      zstep = 10 ^ 9;
      profiles = 1201;
    }

-- block 0 delivered to a fresh session of a family, with so many cells lent
abbrev judged : ℕ → List ℕ → ℕ → Verdict
judged family block cells = verdict_of (opened family) 0 block (record { cells = cells })

pub northern-begins : judged 1 northern_a 1442401 ≡ begins northern_header
unfolding verdict_of sound record_of canadian_front back header_of lattice_of arc_seconds integer real billionths places short northern_by
northern-begins = refl

-- a cell too few
pub northern-short : judged 1 northern_a 1442400 ≡ wrong 12 0 0
unfolding verdict_of sound record_of canadian_front back header_of lattice_of arc_seconds integer real billionths places short northern_by
northern-short = refl

-- lower case in the name is no USGS text, and there is no family 2
pub not-usgs : judged 0 northern_a 1442401 ≡ wrong 5 0 1
unfolding verdict_of sound record_of usgs_front back northern_by
not-usgs = refl

pub no-such-family : judged 2 northern_a 1442401 ≡ wrong 2 0 0
unfolding verdict_of sound northern_by
no-such-family = refl

-- the minus lost; the corner's halves exchanged
pub eastern-corner : judged 1 (northern_by "  5315 0.0000  4715 0.0000" "7.500000D-01" "7.500000D-01" "1201") 1442401 ≡ wrong 15 0 110
unfolding verdict_of sound record_of canadian_front back header_of lattice_of arc_seconds integer real billionths places short northern_by
eastern-corner = refl

pub corner-exchanged : judged 1 (northern_by "  4715 0.0000 -5315 0.0000" "7.500000D-01" "7.500000D-01" "1201") 1442401 ≡ wrong 15 0 110
unfolding verdict_of sound record_of canadian_front back header_of lattice_of arc_seconds integer real billionths places short northern_by
corner-exchanged = refl

-- the pair of 003's element 15 read as x, y; a spacing of zero
pub pair-exchanged : judged 1 (northern_by corner_said "7.500000D-01" "1.500000D+00" "1201") 1442401 ≡ wrong 7 0 817
unfolding verdict_of sound record_of canadian_front back header_of lattice_of arc_seconds integer real billionths places short northern_by
pair-exchanged = refl

pub no-spacing : judged 1 (northern_by corner_said "0.0" "7.500000D-01" "1201") 1442401 ≡ wrong 7 0 817
unfolding verdict_of sound record_of canadian_front back header_of lattice_of arc_seconds integer real billionths places short northern_by
no-spacing = refl

-- a listed pair that makes another lattice; n as a bound
pub lattice-half : judged 1 (northern_by corner_said "1.500000D+00" "7.500000D-01" "1201") 1442401 ≡ wrong 10 0 817
unfolding verdict_of sound record_of canadian_front back header_of lattice_of arc_seconds integer real billionths places short northern_by
lattice-half = refl

pub fewer-profiles : judged 1 (northern_by corner_said "7.500000D-01" "7.500000D-01" "1200") 1442401 ≡ wrong 7 0 859
unfolding verdict_of sound record_of canadian_front back header_of lattice_of arc_seconds integer real billionths places short northern_by
fewer-profiles = refl
