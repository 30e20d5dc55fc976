-- Document 01, "Record A": corners, lattices, columns and rows, and the rules over the whole record.
use Rattle.std.specs.Prelude.{Option}
use Rattle.std.specs.Prelude.{Bool, true, false, cond, List, [], ◌∷◌, ℤ, ℕ, ◌*◌, ◌/◌, ◌^◌, leb, eqb}
use Rattle.std.specs.Int.Signed.{lt_z}
use Rattle.laws.specs.Family.{is_canadian}
use Rattle.laws.specs.Sign.{◌and◌, lesser, greater}
use Rattle.lattice.specs.Lattice.{lattice_of, place_of}
use Rattle.field.specs.declared.Fault.{Fault}
use Rattle.field.specs.Field.{fault}
use Rattle.frame.specs.declared.Header.{Header}

-- "SW.x < SE.x, NW.x < NE.x, SW.y < NW.y, SE.y < NE.y"
abbrev pub corners_in_order : Header → Bool
corners_in_order h =
    lt_z h.sw.x h.se.x and lt_z h.nw.x h.ne.x and lt_z h.sw.y h.nw.y and lt_z h.se.y h.ne.y

-- least and greatest over all four corners, x and y apart
abbrev pub west : Header → ℤ
west h = lesser (lesser h.sw.x h.nw.x) (lesser h.ne.x h.se.x)

abbrev pub east : Header → ℤ
east h = greater (greater h.sw.x h.nw.x) (greater h.ne.x h.se.x)

abbrev pub south : Header → ℤ
south h = lesser (lesser h.sw.y h.nw.y) (lesser h.ne.y h.se.y)

abbrev pub north : Header → ℤ
north h = greater (greater h.sw.y h.nw.y) (greater h.ne.y h.se.y)

abbrev pub columns_of : Header → ℕ
columns_of h = (lattice_of (west h) (east h) h.xstep).count

abbrev pub rows_of : Header → ℕ
rows_of h = (lattice_of (south h) (north h) h.ystep).count

-- "Columns and rows each 1-2048"
abbrev pub one_to2048 : ℕ → Bool
one_to2048 n = leb 1 n and leb n 2048

-- "10 at 547", "10 at 817", "10 at 859", in this order
abbrev pub whole_fault : Header → Fault
whole_fault h =
    cond (corners_in_order h)
    (cond (one_to2048 (columns_of h) and one_to2048 (rows_of h))
    (cond (leb h.profiles (columns_of h)) (fault 0 0) (fault 10 859))
    (fault 10 817))
    (fault 10 547)

-- 02, request 2: "latitude then longitude: 0.75 with 0.75, 1.5 or 3; 3 with 3, 6 or 12". x is the longitude, y the latitude, in billionths
abbrev pub pairs : List (ℕ × ℕ)
pairs =
    (75 * 10 ^ 7, 75 * 10 ^ 7)
    ∷ (150 * 10 ^ 7, 75 * 10 ^ 7)
    ∷ (300 * 10 ^ 7, 75 * 10 ^ 7)
    ∷ (300 * 10 ^ 7, 300 * 10 ^ 7)
    ∷ (600 * 10 ^ 7, 300 * 10 ^ 7)
    ∷ (1200 * 10 ^ 7, 300 * 10 ^ 7)
    ∷ []

abbrev pub listed : ℕ → ℕ → List (ℕ × ℕ) → Bool
listed x y [] = false
listed x y (p ∷ ps) = cond (eqb x p.0 and eqb y p.1) true (listed x y ps)

-- a Canadian sheet: "7 spacing pair not listed, at 817", then the corners, then "a lattice other than 1201 by 1201 is 10 at 817"
abbrev pub canadian_fault : Header → Fault
canadian_fault h =
    cond (listed h.xstep h.ystep pairs)
    (cond (corners_in_order h)
    (cond (eqb (columns_of h) 1201 and eqb (rows_of h) 1201) (fault 0 0) (fault 10 817))
    (fault 10 547))
    (fault 7 817)

-- the rules over the whole record, of either family
abbrev pub family_fault : ℕ → Header → Fault
family_fault family h = cond (is_canadian family) (canadian_fault h) (whole_fault h)

abbrev pub cells_of : Header → ℕ
cells_of h = columns_of h * rows_of h

-- the z spacing in hundredths
abbrev pub z_of : Header → ℕ
z_of h = h.zstep / 10 ^ 7

-- where an x stands among the columns, and a y among the rows
abbrev pub column_place_of : Header → ℤ → Option ℕ
column_place_of h x = place_of (lattice_of (west h) (east h) h.xstep) h.xstep x

abbrev pub row_place_of : Header → ℤ → Option ℕ
row_place_of h y = place_of (lattice_of (south h) (north h) h.ystep) h.ystep y
