-- A profile's place lies between the corners: so the machine's sum and product hold it.
use mathlib.Core.Bool.{true}
use mathlib.Core.Path.{◌≡◌, ◌∙◌, ap}
use Prim.Native.Nat.{ℕ, ◌<◌, ◌^◌}
use native.Mathlib.Omega.{arith}
use lib.IntN.{ℤ, pos, ◌+ℤ◌, ◌*ℤ◌}
use mir.Facts.{to_z-of_z}
use mir.Syntax.{w64}
use mir.Val.{SFits, to_z, of_z}
use Rattle.laws.proofs.Integers.{size-sum, size_fits}
use Rattle.lattice.specs.Lattice.{lattice_of}
use Rattle.lattice.specs.declared.Lattice.{Lattice}
use Rattle.lattice.proofs.Cases.{real-small}
use Rattle.lattice.proofs.LatticeLaws.{first-real}
use Rattle.frame.specs.Frame.{columns_of, rows_of, west, east, south, north}
use Rattle.frame.specs.declared.Header.{Header}
use Rattle.heading.specs.Heading.{header_obeys}
use Rattle.heading.proofs.HeadingFacts.{Heading, header-facts}
use Rattle.spell.proofs.Fits.{real-fits}
use Rattle.written.specs.Blocks.{x_sent, y_of_row}
use Rattle.written.proofs.PlacesSent.{x_fits, y-fits}
use Rattle.send.specs.BlockSteps.{PlaceAsked}

module _ (h : Header) (obeys : header_obeys h ≡ true) where
  facts : Heading h
  facts = header-facts h obeys

  pub x-asked : (column : ℕ) → column < columns_of h → PlaceAsked (lattice_of (west h) (east h) h.xstep).first column h.xstep
  x-asked column here =
      record {
        first_small = real-small (lattice_of (west h) (east h) h.xstep).first (first-real (west h) (east h) h.xstep);
        index-most = omega (arith, here, facts.columns);
        step_small = omega (arith, facts.xstep.greatest);
        place-small = (real-fits 15 24 (x_sent h column) (x_fits h obeys column here)).modest;
      }

  pub y-asked : (row : ℕ) → row < rows_of h → PlaceAsked (lattice_of (south h) (north h) h.ystep).first row h.ystep
  y-asked row here =
      record {
        first_small = real-small (lattice_of (south h) (north h) h.ystep).first (first-real (south h) (north h) h.ystep);
        index-most = omega (arith, here, facts.rows);
        step_small = omega (arith, facts.ystep.greatest);
        place-small = (real-fits 15 24 (y_of_row h row) (y-fits h obeys row here)).modest;
      }

-- the numbers of the machine
module _ {first : ℤ} {index step : ℕ} (a : PlaceAsked first index step) where
  pub step_fits : step < 2 ^ 63
  step_fits = omega (arith, a.step_small)

  pub sum_fits : SFits w64 (first +ℤ pos index)
  sum_fits = size_fits (first +ℤ pos index) (omega (arith, size-sum first (pos index), a.first_small, a.index-most))

  pub place-fits : SFits w64 ((first +ℤ pos index) *ℤ pos step)
  place-fits = size_fits ((first +ℤ pos index) *ℤ pos step) (omega (arith, a.place-small))

  pub first_back : to_z w64 (of_z w64 first) ≡ first
  first_back = to_z-of_z {w = w64} (size_fits first (omega (arith, a.first_small)))

-- the first multiple, as the lattice that was given carries it
pub first-carried : (a b : ℤ) {spacing index : ℕ} (l : Lattice) → l ≡ lattice_of a b spacing
    → PlaceAsked (lattice_of a b spacing).first index spacing → to_z w64 (of_z w64 l.first) ≡ (lattice_of a b spacing).first
first-carried a b l e p = ap (λ (k : Lattice). to_z w64 (of_z w64 k.first)) e ∙ first_back p
