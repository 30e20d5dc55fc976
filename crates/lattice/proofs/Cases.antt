-- A lattice and a place on it, by what their tests decide.
use Rattle.std.specs.Prelude.{None, Some}
use mathlib.Core.Bool.{true, false, Bool, cond}
use mathlib.Core.Path.{◌≡◌, refl, ap, sym, ◌∙◌}
use Prim.Native.Nat.{◌<◌, ◌^◌, ℕ, ◌≤◌, ◌%◌}
use borrow.Author.Tests.{ltb-true, lt-ltb, leb-true, le-leb, eqb-true, eq-eqb}
use lib.IntN.{ℤ, nat_abs, pos, negsuc, ◌-ℤ◌}
use native.Mathlib.Omega.{arith}
use mir.Facts.{to_z-of_z}
use mir.Syntax.{w64}
use mir.Val.{SFits, to_z, of_z}
use lib.Dec.{ltb, leb, eqb}
use Rattle.laws.specs.Sign.{◌and◌}
use Rattle.laws.proofs.Tests.{and_first, and_second}
use Rattle.lattice.specs.Lattice.{is_real, place_within, first_multiple, last_multiple, many_from, empty_lattice, lattice_of, multiple_of, place_of}
use Rattle.lattice.specs.declared.Lattice.{Lattice}

pub real-small : (z : ℤ) → is_real z ≡ true → nat_abs z < 10 ^ 18
real-small z = ltb-true (nat_abs z) (10 ^ 18)

pub small-real : (z : ℤ) → nat_abs z < 10 ^ 18 → is_real z ≡ true
small-real z = lt-ltb (nat_abs z) (10 ^ 18)

-- what the code learns of a number that it read is so of the number
pub real_read : {z : ℤ} {r : Bool} → SFits w64 z → r ≡ is_real (to_z w64 (of_z w64 z)) → r ≡ true → is_real z ≡ true
real_read fits e t = sym (ap is_real (to_z-of_z fits)) ∙ sym e ∙ t

pub off-on : {i : ℕ} → None ≡ Some i → ⊥
off-on e =
    let z : ◌≡◌ {A = ℕ} 0 1 = cc in
    omega arith

pub within_on : (z : ℤ) (count i : ℕ) → place_within z count ≡ Some i → (i < count) × (z ≡ pos i)
within_on (negsuc n) count i e = absurd (off-on e)
within_on (pos n) count i e = go (ltb n count) refl
  where
    go : (t : Bool) → ltb n count ≡ t → (i < count) × (pos n ≡ pos i)
    go true h =
        let k : Some n ≡ Some i = rw h at e in
        let q : n ≡ i = cc in
        (omega (arith, ltb-true n count h), ap pos q)
    go false h = absurd (off-on (rw h at e))

module _ (least greatest : ℤ) (s : ℕ) where
  -- the tests of a lattice, and the lattice where they hold
  abbrev pub has_lattice : Bool
  has_lattice = is_real least and is_real greatest and leb 1 s

  abbrev pub spanned : Lattice
  spanned = record { first = first_multiple least s; count = many_from (first_multiple least s) (last_multiple greatest s) }

  pub lattice-cases : (t : Bool) → has_lattice ≡ t → lattice_of least greatest s ≡ cond t spanned empty_lattice
  unfolding lattice_of
  lattice-cases t e = rw e

  pub lattice-holds : is_real least ≡ true → is_real greatest ≡ true → 1 ≤ s → has_lattice ≡ true
  lattice-holds p q r = rw (p, q) (le-leb 1 s r)

  pub lattice-known : has_lattice ≡ true → (is_real least ≡ true) × (1 ≤ s)
  lattice-known t =
      let u = and_second (is_real least) (is_real greatest and leb 1 s) t in
      (and_first (is_real least) (is_real greatest and leb 1 s) t, leb-true 1 s (and_second (is_real greatest) (leb 1 s) u))

module _ (l : Lattice) (s : ℕ) (z : ℤ) where
  abbrev pub has_place : Bool
  has_place = is_real z and is_real l.first and leb 1 s and eqb (nat_abs z % s) 0

  pub place-cases : (t : Bool) → has_place ≡ t → place_of l s z ≡ cond t (place_within (multiple_of z s -ℤ l.first) l.count) None
  unfolding place_of
  place-cases t e = rw e

  pub place-holds : is_real z ≡ true → is_real l.first ≡ true → 1 ≤ s → nat_abs z % s ≡ 0 → has_place ≡ true
  place-holds p q r e = rw (p, q, le-leb 1 s r) (eq-eqb (nat_abs z % s) 0 e)

  pub place-known : has_place ≡ true → (1 ≤ s) × (nat_abs z % s ≡ 0)
  place-known t =
      let u = leb 1 s and eqb (nat_abs z % s) 0 in
      let v = and_second (is_real l.first) u (and_second (is_real z) (is_real l.first and u) t) in (
        leb-true 1 s (and_first (leb 1 s) (eqb (nat_abs z % s) 0) v),
        eqb-true (nat_abs z % s) 0 (and_second (leb 1 s) (eqb (nat_abs z % s) 0) v),
      )
