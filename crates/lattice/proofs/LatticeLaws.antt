-- What the lattice means, in document 01's words: its ends, exactly the multiples between them, and places on it. The parts of Integers carry it.
use Rattle.std.specs.Prelude.{Some}
use Prim.Native.Nat.{ℕ, suc, ◌+◌, ◌*◌, ◌/◌, ◌≤◌, ◌<◌, ◌-◌, ◌%◌, zero-le}
use native.Mathlib.Nat.{div-mul-le_self, le-div_iff_mul-le, suc-mul, mul-mod_left}
use native.Mathlib.Omega.{arith}
use lib.IntN.{ℤ, pos, negsuc, neg_ℤ, ◌*ℤ◌, ◌+ℤ◌, ◌-ℤ◌, nat_abs}
use lib.Signed.{◌≤ℤ◌}
use mathlib.Core.Path.{◌≡◌, refl, ◌∙◌, sym, ap, subst, subst⁻¹}
use mathlib.Core.Bool.{true, Bool, false}
use mathlib.Core.Logic.{◌↔◌}
use borrow.Author.Tests.{lt-ltb}
use Rattle.laws.specs.Sign.{not_negative}
use Rattle.laws.proofs.Integers.{above, below, le_parts, parts-le, minus-parts, multiple-parts, sum-parts, parts_same, le-through, multiple-le, sum_less, less-is, size-multiple, parts}
use Rattle.lattice.specs.Lattice.{upward, first_multiple, last_multiple, many_from, is_real, lattice_of, multiple_of, place_of}
use Rattle.lattice.specs.declared.Lattice.{Lattice}
use Rattle.lattice.proofs.Multiples.{upward-reaches, upward-least, upward-zero, first-parts, last-parts, multiple-whole, whole_multiple, first-small}
use Rattle.lattice.proofs.Cases.{spanned, lattice-cases, lattice-holds, off-on, within_on, has_place, place-cases, place-holds, place-known, real-small, small-real, has_lattice, lattice-known}

-- the first multiple is the least one that is not below, the last the greatest that is not above
module _ (s : ℕ) (p : 0 < s) where
  pub first-not-below : (v : ℤ) → v ≤ℤ (first_multiple v s *ℤ pos s)
  first-not-below v =
      let f = first_multiple v s in
      parts-le v (f *ℤ pos s)
      (rw ((multiple-parts f s).0, (multiple-parts f s).1, (first-parts s p v).0, (first-parts s p v).1)
      (omega (arith, upward-reaches s p (above v), div-mul-le_self (below v) s)))

  pub last-not-above : (v : ℤ) → (last_multiple v s *ℤ pos s) ≤ℤ v
  last-not-above v =
      let l = last_multiple v s in
      parts-le (l *ℤ pos s) v
      (rw ((multiple-parts l s).0, (multiple-parts l s).1, (last-parts s p v).0, (last-parts s p v).1)
      (omega (arith, upward-reaches s p (below v), div-mul-le_self (above v) s)))

  -- one bound serves both ends, the sides of zero exchanged
  nearest : (v k : ℤ) → above v + below k * s ≤ above k * s + below v → upward (above v) s + below k ≤ above k + below v / s
  nearest (pos v) (pos k) h = omega (arith, upward-least s p v k (omega arith))
  nearest (pos v) (negsuc k) h = absurd (omega (arith, suc-mul k s))
  nearest (negsuc v) (pos k) h = omega (arith, upward-zero s p)
  nearest (negsuc v) (negsuc k) h =
      let q : suc k ≤ suc v / s = (le-div_iff_mul-le p).1 (omega arith) in
      omega (arith, upward-zero s p)

  pub first-least : (v k : ℤ) → v ≤ℤ (k *ℤ pos s) → first_multiple v s ≤ℤ k
  first-least v k h =
      let q = le_parts v (k *ℤ pos s) h in
      let r = nearest v k (rw ((multiple-parts k s).0, (multiple-parts k s).1) at q) in
      parts-le (first_multiple v s) k (rw ((first-parts s p v).0, (first-parts s p v).1) r)

  pub last-greatest : (v k : ℤ) → (k *ℤ pos s) ≤ℤ v → k ≤ℤ last_multiple v s
  last-greatest v k h =
      let q = le_parts (k *ℤ pos s) v h in
      let v⁻ = minus-parts v in
      let k⁻ = minus-parts k in
      let r =
      nearest (neg_ℤ v) (neg_ℤ k)
      (rw (v⁻.0, v⁻.1, k⁻.0, k⁻.1, ← (multiple-parts k s).0, ← (multiple-parts k s).1) (omega arith))
      in
      parts-le k (last_multiple v s)
      (rw ((last-parts s p v).0, (last-parts s p v).1) (omega (arith, rw (v⁻.0, v⁻.1, k⁻.0, k⁻.1) at r)))

not_negative-above : (z : ℤ) → not_negative z ≡ above z
not_negative-above (pos n) = refl
not_negative-above (negsuc n) = refl

many-parts : (f l : ℤ) → many_from f l ≡ above l + 1 + below f - (below l + above f)
many-parts f l =
    let n = l +ℤ pos 1 in
    not_negative-above (n -ℤ f) ∙ omega (arith, (sum-parts n (neg_ℤ f)).above-is, sum-parts l (pos 1), minus-parts f)

-- k times the spacing lies between two corner values, ends included; k is one of a lattice's multiples
abbrev pub Between : ℤ → ℤ → ℕ → ℤ → Type 0
Between least greatest s k = (least ≤ℤ (k *ℤ pos s)) × ((k *ℤ pos s) ≤ℤ greatest)

abbrev pub OnLattice : Lattice → ℤ → Type 0
OnLattice l k = (i : ℕ) × (i < l.count) × (k ≡ l.first +ℤ pos i)

module _ (least greatest : ℤ) (s : ℕ) (rl : is_real least ≡ true) (rg : is_real greatest ≡ true) (p : 1 ≤ s) where
  between-on : (k : ℤ) → Between least greatest s k → OnLattice (spanned least greatest s) k
  between-on k b =
      let f = first_multiple least s in
      let l = last_multiple greatest s in
      let low = le_parts f k (first-least s p least k b.0) in
      let high = le_parts k l (last-greatest s p greatest k b.1) in
      let i = above (k -ℤ f) in
      let d = sum-parts k (neg_ℤ f) in
      let m = minus-parts f in
      (i, omega (arith, many-parts f l), parts_same k (f +ℤ pos i) (omega (arith, sum-parts f (pos i))))

  on-between : (k : ℤ) → OnLattice (spanned least greatest s) k → Between least greatest s k
  on-between k o =
      let f = first_multiple least s in
      let l = last_multiple greatest s in
      let i = o.0 in
      let j = f +ℤ pos i in
      let low : f ≤ℤ j = parts-le f j (omega (arith, sum-parts f (pos i))) in
      let high : j ≤ℤ l = parts-le j l (omega (arith, sum-parts f (pos i), o.1, many-parts f l)) in
      rw o.2 (
        le-through least (f *ℤ pos s) (j *ℤ pos s) (first-not-below s p least) (multiple-le f j s low),
        le-through (j *ℤ pos s) (l *ℤ pos s) greatest (multiple-le j l s high) (last-not-above s p greatest),
      )

  -- the lattice has each multiple of the spacing from one corner value to the other, and no other number
  pub lattice-is : (k : ℤ) → Between least greatest s k ↔ OnLattice (lattice_of least greatest s) k
  lattice-is k =
      rw (lattice-cases least greatest s true (lattice-holds least greatest s rl rg p)) (between-on k, on-between k)

module _ (l : Lattice) (s : ℕ) (z : ℤ) where
  -- z is the lattice's place number i, counted from its first multiple
  abbrev pub PlacedAt : ℕ → Type 0
  PlacedAt i = (i < l.count) × (z ≡ (l.first +ℤ pos i) *ℤ pos s)

  pub place-on : (i : ℕ) → place_of l s z ≡ Some i → PlacedAt i
  place-on i e = go (has_place l s z) refl
    where
      go : (t : Bool) → has_place l s z ≡ t → PlacedAt i
      go false h = absurd (off-on (sym (place-cases l s z false h) ∙ e))
      go true h =
          let m = multiple_of z s in
          let w = within_on (m -ℤ l.first) l.count i (sym (place-cases l s z true h) ∙ e) in
          let known = place-known l s z h in
          (w.0, multiple-whole s known.0 z known.1 ∙ ap (λ k. k *ℤ pos s) (less-is m l.first (pos i) w.1))

  module _ (rz : is_real z ≡ true) (rf : is_real l.first ≡ true) (p : 1 ≤ s) where
    pub on-place : (i : ℕ) → PlacedAt i → place_of l s z ≡ Some i
    on-place i o =
        let f = l.first in
        let k = f +ℤ pos i in
        let rest : nat_abs z % s ≡ 0 =
        ap (λ y. nat_abs y % s) o.1 ∙ ap (λ n. n % s) (size-multiple k s) ∙ mul-mod_left (nat_abs k) s
        in
        let steps : multiple_of z s -ℤ f ≡ pos i =
        ap (λ y. multiple_of y s -ℤ f) o.1 ∙ ap (λ y. y -ℤ f) (whole_multiple s p k) ∙ sum_less f (pos i)
        in
        place-cases l s z true (place-holds l s z rz rf p rest) ∙ rw (steps, lt-ltb i l.count o.0)

    pub place_is : (i : ℕ) → (place_of l s z ≡ Some i) ↔ PlacedAt i
    place_is i = (place-on i, on-place i)

-- a lattice's first multiple lies no farther from zero than the least corner value, and so is a real
module _ (least greatest : ℤ) (s : ℕ) where
  pub first_small : nat_abs (lattice_of least greatest s).first ≤ nat_abs least
  first_small = go (has_lattice least greatest s) refl
    where
      go : (t : Bool) → has_lattice least greatest s ≡ t → nat_abs (lattice_of least greatest s).first ≤ nat_abs least
      go true h =
          rw (lattice-cases least greatest s true h) (first-small s (lattice-known least greatest s h).1 least)
      go false h = rw (lattice-cases least greatest s false h) zero-le

  pub first-real : is_real (lattice_of least greatest s).first ≡ true
  first-real = go (has_lattice least greatest s) refl
    where
      go : (t : Bool) → has_lattice least greatest s ≡ t → is_real (lattice_of least greatest s).first ≡ true
      go true h =
          small-real (lattice_of least greatest s).first
          (omega (arith, first_small, real-small least (lattice-known least greatest s h).0))
      go false h = rw (lattice-cases least greatest s false h)

-- A place is on the lattice exactly where it is a whole number of spacings between the two corner values.
module _ (least greatest : ℤ) (s : ℕ) (z : ℤ) where
  abbrev pub OnSheet : Type 0
  OnSheet = (k : ℤ) × (z ≡ k *ℤ pos s) × (least ≤ℤ z) × (z ≤ℤ greatest)

  module _ (rl : is_real least ≡ true) (rg : is_real greatest ≡ true) (p : 1 ≤ s) where
    between-real : least ≤ℤ z → z ≤ℤ greatest → is_real z ≡ true
    between-real low high =
        let a = le_parts least z low in
        let b = le_parts z greatest high in
        small-real z
        (omega (arith, parts least, parts greatest, parts z, real-small least rl, real-small greatest rg))

    pub sheet-is : ((i : ℕ) × (place_of (lattice_of least greatest s) s z ≡ Some i)) ↔ OnSheet
    sheet-is = (to, from)
      where
        to : (i : ℕ) × (place_of (lattice_of least greatest s) s z ≡ Some i) → OnSheet
        to o =
            let l = lattice_of least greatest s in
            let q = place-on l s z o.0 o.1 in
            let k = l.first +ℤ pos o.0 in
            let b = (lattice-is least greatest s rl rg p k).1 (o.0, q.0, refl) in
            (k, q.1, subst⁻¹ (λ y. least ≤ℤ y) q.1 b.0, subst⁻¹ (λ y. y ≤ℤ greatest) q.1 b.1)

        from : OnSheet → (i : ℕ) × (place_of (lattice_of least greatest s) s z ≡ Some i)
        from o =
            let b =
            (lattice-is least greatest s rl rg p o.0).0
            (subst (λ y. least ≤ℤ y) o.1 o.2, subst (λ y. y ≤ℤ greatest) o.1 o.3)
            in (
              b.0,
              on-place (lattice_of least greatest s) s z (between-real o.2 o.3) (first-real least greatest s) p b.0
                  (b.1, o.1 ∙ ap (λ k. k *ℤ pos s) b.2),
            )
