-- Places sent stand on the lattice, and places and extremes fit their fields: between the corners, in thousands of billionths.
use Rattle.std.specs.Prelude.{Some}
use mathlib.Core.Bool.{true, false}
use mathlib.Core.Path.{◌≡◌, refl, ◌∙◌, ap}
use Prim.Native.Nat.{ℕ, ◌*◌, ◌%◌, ◌^◌, ◌≤◌, ◌<◌, suc, ◌/◌, zero}
use native.Mathlib.Nat.{dvd_of_mod-eq-zero, dvd-mul_left_of_dvd, mod-eq-zero_of_dvd, mul-le-mul, div-add-mod'}
use native.Mathlib.Omega.{arith}
use lib.IntN.{ℤ, pos, nat_abs, ◌+ℤ◌, ◌*ℤ◌, negsuc}
use lib.Signed.{lt_z}
use mathlib.Core.List.{List, [], ◌∷◌}
use lib.ListN.{length, get_or}
use borrow.Author.Tests.{leb-true}
use Rattle.laws.specs.Sign.{lesser, greater, same_z}
use Rattle.laws.proofs.Integers.{parts, le_parts, size-multiple}
use Rattle.laws.proofs.Tests.{by-test}
use Rattle.lattice.specs.Lattice.{is_real, lattice_of, place_of}
use Rattle.lattice.proofs.Cases.{real-small, small-real}
use Rattle.lattice.proofs.LatticeLaws.{lattice-is, on-place, first-real}
use Rattle.frame.specs.Frame.{columns_of, rows_of, west, east, south, north, cells_of}
use Rattle.frame.specs.declared.Header.{Header}
use Rattle.heading.specs.Heading.{header_obeys}
use Rattle.heading.proofs.HeadingFacts.{Ranged, Heading, header-facts, spacing_limits}
use Rattle.ground.specs.Posts.{void}
use Rattle.ground.specs.Extremes.{least_of, greatest_of, filled_only, least_stated, greatest_stated}
use Rattle.spell.specs.Spell.{real_fits}
use Rattle.spell.proofs.Fits.{thousands-fit, real-fits}
use Rattle.written.specs.Cells.{column_cells, first_row, quotient_fits, can_send, sendable}
use Rattle.written.specs.Blocks.{x_sent, y_of_row, y_sent}
use Rattle.written.proofs.ColumnsSent.{some-cells, cells-room, EachSends, each-sends}
use Rattle.written.proofs.SheetSent.{column-length}
use Rattle.written.proofs.PiecesSent.{HeaderReals, header-reals}
use Rattle.written.proofs.PostsSent.{filled-can}

-- ---- a multiple of the spacing between two reals

module _ (least greatest : ℤ) (s : ℕ) (rl : is_real least ≡ true) (rg : is_real greatest ≡ true) (p : 1 ≤ s) (i : ℕ)
    (here : i < (lattice_of least greatest s).count) where
  abbrev multiple : ℤ
  multiple = (lattice_of least greatest s).first +ℤ pos i

  abbrev place : ℤ
  place = multiple *ℤ pos s

  place-small : nat_abs place < 10 ^ 18
  place-small =
      let b = (lattice-is least greatest s rl rg p multiple).1 (i, here, refl) in
      let low = le_parts least place b.0 in
      let high = le_parts place greatest b.1 in
      omega (arith, low, high, parts least, parts greatest, parts place, real-small least rl, real-small greatest rg)

  place-stands : place_of (lattice_of least greatest s) s place ≡ Some i
  place-stands =
      on-place (lattice_of least greatest s) s place (small-real place place-small) (first-real least greatest s) p i (here, refl)

  place-fits : s % 10 ^ 3 ≡ 0 → real_fits 15 24 place ≡ true
  place-fits whole =
      let rest : nat_abs multiple * s % 10 ^ 3 ≡ 0 =
      mod-eq-zero_of_dvd (10 ^ 3) (dvd-mul_left_of_dvd (10 ^ 3) (dvd_of_mod-eq-zero (10 ^ 3) whole) (nat_abs multiple))
      in
      thousands-fit place place-small (ap (λ (n : ℕ). n % 10 ^ 3) (size-multiple multiple s) ∙ rest)

-- ---- the corners of a header are reals

-- what holds of both numbers holds of the lesser and of the greater one
module _ (P : ℤ → Type 0) where
  lesser-of : (a b : ℤ) → P a → P b → P (lesser a b)
  lesser-of a b p q = by-test (lt_z b a) (λ e. rw e q) (λ e. rw e p)

  greater-of : (a b : ℤ) → P a → P b → P (greater a b)
  greater-of a b p q = by-test (lt_z a b) (λ e. rw e q) (λ e. rw e p)

  least-of-four : (a b c d : ℤ) → P a → P b → P c → P d → P (lesser (lesser a b) (lesser c d))
  least-of-four a b c d p q r s = lesser-of (lesser a b) (lesser c d) (lesser-of a b p q) (lesser-of c d r s)

  greatest-of-four : (a b c d : ℤ) → P a → P b → P c → P d → P (greater (greater a b) (greater c d))
  greatest-of-four a b c d p q r s = greater-of (greater a b) (greater c d) (greater-of a b p q) (greater-of c d r s)

abbrev Fits : ℤ → Type 0
Fits z = real_fits 15 24 z ≡ true

fits-is_real : (z : ℤ) → Fits z → is_real z ≡ true
fits-is_real z f = small-real z (real-fits 15 24 z f).modest

-- a spacing is a whole number of units
spacing-some : (s : ℕ) → Ranged spacing_limits s → 1 ≤ s
spacing-some s r = omega (arith, r.least)

spacing-whole : (s : ℕ) → Ranged spacing_limits s → s % 10 ^ 3 ≡ 0
spacing-whole s r = omega (arith, r.step)

module _ (h : Header) (obeys : header_obeys h ≡ true) where
  facts : Heading h
  facts = header-facts h obeys

  corners : HeaderReals h
  corners = header-reals h obeys

  west-real : is_real (west h) ≡ true
  west-real =
      fits-is_real (west h)
      (least-of-four Fits h.sw.x h.nw.x h.ne.x h.se.x corners.sw.0 corners.nw.0 corners.ne.0 corners.se.0)

  east-real : is_real (east h) ≡ true
  east-real =
      fits-is_real (east h)
      (greatest-of-four Fits h.sw.x h.nw.x h.ne.x h.se.x corners.sw.0 corners.nw.0 corners.ne.0 corners.se.0)

  south-real : is_real (south h) ≡ true
  south-real =
      fits-is_real (south h)
      (least-of-four Fits h.sw.y h.nw.y h.ne.y h.se.y corners.sw.1 corners.nw.1 corners.ne.1 corners.se.1)

  north-real : is_real (north h) ≡ true
  north-real =
      fits-is_real (north h)
      (greatest-of-four Fits h.sw.y h.nw.y h.ne.y h.se.y corners.sw.1 corners.nw.1 corners.ne.1 corners.se.1)

  -- ---- places

  -- the x of a column
  pub x-stands : (c : ℕ) → c < columns_of h → place_of (lattice_of (west h) (east h) h.xstep) h.xstep (x_sent h c) ≡ Some c
  x-stands c here =
      place-stands (west h) (east h) h.xstep west-real east-real (spacing-some h.xstep facts.xstep) c here

  pub x_fits : (c : ℕ) → c < columns_of h → real_fits 15 24 (x_sent h c) ≡ true
  x_fits c here =
      place-fits (west h) (east h) h.xstep west-real east-real (spacing-some h.xstep facts.xstep) c here
      (spacing-whole h.xstep facts.xstep)

  pub y-stands : (r : ℕ) → r < rows_of h → place_of (lattice_of (south h) (north h) h.ystep) h.ystep (y_of_row h r) ≡ Some r
  y-stands r here =
      place-stands (south h) (north h) h.ystep south-real north-real (spacing-some h.ystep facts.ystep) r here

  pub y-fits : (r : ℕ) → r < rows_of h → real_fits 15 24 (y_of_row h r) ≡ true
  y-fits r here =
      place-fits (south h) (north h) h.ystep south-real north-real (spacing-some h.ystep facts.ystep) r here
      (spacing-whole h.ystep facts.ystep)

  -- the y of a column's profile, where its southern post stands
  module _ (grid : List ℤ) (room : cells_of h ≤ length grid) (c : ℕ) (here : c < columns_of h) where
    first-row-stands : first_row (column_cells h grid c) < rows_of h
    first-row-stands =
        let column = column_cells h grid c in
        let long = column-length h grid room c here in
        let some : 1 ≤ length column = omega (arith, long, facts.rows) in
        omega (arith, long, some-cells column, cells-room column some)

    pub y-sent-stands : place_of (lattice_of (south h) (north h) h.ystep) h.ystep (y_sent h grid c)
        ≡ Some (first_row (column_cells h grid c))
    y-sent-stands = y-stands (first_row (column_cells h grid c)) first-row-stands

    pub y-sent-fits : real_fits 15 24 (y_sent h grid c) ≡ true
    y-sent-fits = y-fits (first_row (column_cells h grid c)) first-row-stands

-- ---- extremes

-- no cell that can be sent lies farther from zero than 32767 spacings
quotient-most : (z : ℕ) (cell : ℤ) → quotient_fits z cell ≡ true → nat_abs cell / z ≤ 32767
quotient-most z (pos n) t = leb-true (n / z) 32767 t
quotient-most z (negsuc n) t = omega (arith, leb-true (suc n / z) 32766 t)

cell-small : (z : ℕ) (cell : ℤ) → z ≤ 100 → can_send z cell ≡ true → same_z cell void ≡ false → nat_abs cell ≤ 3276700
cell-small z cell most t filled =
    let n = nat_abs cell in
    let f = filled-can z cell t filled in
    let size : n / z * z ≤ 32767 * 100 = mul-le-mul (quotient-most z cell f.1) most in
    omega (arith, size, f.0, div-add-mod' n z)

abbrev SmallCell : ℤ → Type 0
SmallCell cell = nat_abs cell ≤ 3276700

abbrev Small : List ℤ → Type 0
Small cells = (i : ℕ) → i < length cells → SmallCell (get_or cells i void)

least-small : (cells : List ℤ) → Small cells → SmallCell (least_of cells)
least-small [] s = omega arith
least-small (c ∷ []) s = s 0 (omega arith)
least-small (c ∷ (d ∷ cs)) s =
    lesser-of SmallCell c (least_of (d ∷ cs)) (s 0 (omega arith)) (least-small (d ∷ cs) (λ i k. s (suc i) (omega (arith, k))))

greatest-small : (cells : List ℤ) → Small cells → SmallCell (greatest_of cells)
greatest-small [] s = omega arith
greatest-small (c ∷ []) s = s 0 (omega arith)
greatest-small (c ∷ (d ∷ cs)) s =
    greater-of SmallCell c (greatest_of (d ∷ cs)) (s 0 (omega arith)) (greatest-small (d ∷ cs) (λ i k. s (suc i) (omega (arith, k))))

hundredths-fit : (v : ℤ) → nat_abs v ≤ 3276700 → real_fits 15 24 (v *ℤ pos 10000000) ≡ true
hundredths-fit v small =
    let size = size-multiple v 10000000 in
    thousands-fit (v *ℤ pos 10000000) (omega (arith, size, small)) (omega (arith, size))

module _ (z : ℕ) (most : z ≤ 100) where
  filled-small : (cells : List ℤ) → EachSends z cells → Small (filled_only cells)
  filled-small [] f = λ i k. absurd (omega (arith, k))
  filled-small (c ∷ cs) f =
      let rest = filled-small cs (λ j k. f (suc j) (omega (arith, k))) in
      by-test (same_z c void) (λ e. rw e rest) (λ e. rw e (one (cell-small z c most (f 0 (omega arith)) e) rest))
    where
      one : nat_abs c ≤ 3276700 → Small (filled_only cs) → Small (c ∷ filled_only cs)
      one first rest zero k = first
      one first rest (suc i) k = rest i (omega (arith, k))

  -- the extremes of cells that can all be sent
  pub least_fits : (cells : List ℤ) → sendable z cells ≡ length cells → real_fits 15 24 (least_stated cells) ≡ true
  least_fits cells all =
      hundredths-fit (least_of (filled_only cells))
      (least-small (filled_only cells) (filled-small cells (each-sends z cells all)))

  pub greatest-fits : (cells : List ℤ) → sendable z cells ≡ length cells → real_fits 15 24 (greatest_stated cells) ≡ true
  greatest-fits cells all =
      hundredths-fit (greatest_of (filled_only cells))
      (greatest-small (filled_only cells) (filled-small cells (each-sends z cells all)))
