-- Document 01, "Record A", the lattice: places are whole numbers of billionths, a multiple is named by how many spacings it is.
use Rattle.std.specs.Prelude.{None, Option, Some}
use Rattle.std.specs.Prelude.{ℕ, ◌+◌, ◌-◌, ◌/◌, suc, ◌^◌, ◌%◌, ℤ, pos, negsuc, neg_ℤ, ◌+ℤ◌, ◌-ℤ◌, nat_abs, Bool, cond, ltb, leb, eqb}
use Rattle.laws.specs.Sign.{not_negative, ◌and◌}
use Rattle.lattice.specs.declared.Lattice.{Lattice}

-- v / s rounded up
abbrev pub upward : ℕ → ℕ → ℕ
upward v s = (v + (s - 1)) / s

-- "the first is the least multiple not below", "signs respected"
abbrev pub first_multiple : ℤ → ℕ → ℤ
first_multiple (pos v) s = pos (upward v s)
first_multiple (negsuc v) s = neg_ℤ (pos (suc v / s))

-- "the last the greatest multiple not above"
abbrev pub last_multiple : ℤ → ℕ → ℤ
last_multiple (pos v) s = pos (v / s)
last_multiple (negsuc v) s = neg_ℤ (pos (upward (suc v) s))

abbrev pub many_from : ℤ → ℤ → ℕ
many_from first last = not_negative (last +ℤ pos 1 -ℤ first)

-- what a real field can hold: below 10 ^ 18 billionths
abbrev pub is_real : ℤ → Bool
is_real z = ltb (nat_abs z) (10 ^ 18)

abbrev pub empty_lattice : Lattice
empty_lattice = record { first = pos 0; count = 0 }

-- each multiple of the spacing from one corner value to the other, both ends too; none for what is no real or no spacing
unfoldable pub lattice_of : ℤ → ℤ → ℕ → Lattice
lattice_of least greatest spacing =
    cond (is_real least and is_real greatest and leb 1 spacing)
    (record { first = first_multiple least spacing; count = many_from (first_multiple least spacing) (last_multiple greatest spacing) })
    empty_lattice

-- how many spacings a whole multiple is
abbrev pub multiple_of : ℤ → ℕ → ℤ
multiple_of (pos v) s = pos (v / s)
multiple_of (negsuc v) s = neg_ℤ (pos (suc v / s))

abbrev pub place_within : ℤ → ℕ → Option ℕ
place_within (pos i) count = cond (ltb i count) (Some i) None
place_within (negsuc i) count = None

-- where a place stands on the lattice, counted from its first multiple; off it where it is no multiple, or one outside
unfoldable pub place_of : Lattice → ℕ → ℤ → Option ℕ
place_of l spacing z =
    cond (is_real z and is_real l.first and leb 1 spacing and eqb (nat_abs z % spacing) 0)
    (place_within (multiple_of z spacing -ℤ l.first) l.count)
    None

abbrev pub place_number : Option ℕ → ℕ
place_number (Some i) = i
place_number None = 0
