-- What an origin's number says: k + 1 exactly where bytes 141 to 144 are the k-th code of the sheet's family, 0 exactly where they are none of them. A text's place in any list carries it, with one computed test a family: each code has its own place.
use mathlib.Core.List.{List, [], ◌∷◌}
use mathlib.Core.Path.{◌≡◌, refl, sym, ◌∙◌}
use Prim.Native.Nat.{ℕ, ◌+◌, ◌≤◌, ◌<◌, zero, suc}
use lib.ListN.{length, get_or, get_or-map, take, drop}
use mathlib.Core.Bool.{Bool, true, false, cond}
use mathlib.Core.Logic.{◌⊎◌, inl, inr, ◌↔◌}
use native.Mathlib.Omega.{arith}
use lib.Dec.{eqb}
use native.Mathlib.Decide.{ℕ_discrete}
use borrow.Author.Tests.{ltb-false, ne_eqb}
use Rattle.laws.specs.Family.{known, is_canadian}
use Rattle.laws.specs.Texts.{same}
use Rattle.laws.proofs.Texts.{same-is, same-fails}
use Rattle.laws.proofs.Tables.{entry}
use Rattle.laws.proofs.Answers.{one_answer}
use Rattle.label.specs.Label.{place_in, origins, canadian_origins, origins_of, origin_of, family_origin}
use Rattle.label.proofs.Blocks.{no_origin, family-origin-of, no-family-origin, usgs-origin}

-- a text stands in a list, i places after the first, which is counted as n
record Stands (n : ℕ) (t : List ℕ) (os : List (List ℕ)) : Type 0 where
  i : ℕ
  inside : i < length os
  place : place_in n t os ≡ n + i
  text : t ≡ get_or os i []

find : (n : ℕ) (t : List ℕ) (os : List (List ℕ)) → (place_in n t os ≡ 0) ⊎ Stands n t os
find n t [] = inl refl
find n t (o ∷ os) = go (same t o) refl (find (suc n) t os)
  where
    go : (b : Bool) → same t o ≡ b → (place_in (suc n) t os ≡ 0) ⊎ Stands (suc n) t os → (place_in n t (o ∷ os) ≡ 0) ⊎ Stands n t (o ∷ os)
    go true e r = inr (record { i = 0; inside = omega arith; place = rw e (omega arith); text = (same-is t o).0 e })
    go false e (inl z) = inl (rw e z)
    go false e (inr f) =
        inr (record { i = suc f.i; inside = omega (arith, f.inside); place = rw e (omega (arith, f.place)); text = f.text })

-- the place of the first text of a list that it is
pub stands-at : (t : List ℕ) (os : List (List ℕ)) (n i : ℕ) → i < length os → t ≡ get_or os i [] → ((k : ℕ) → k < i → t ≡ get_or os k [] → ⊥)
    → place_in n t os ≡ n + i
stands-at t [] n i h e before = absurd (omega arith)
stands-at t (o ∷ os) n zero h e before = rw ((same-is t o).1 e) (omega arith)
stands-at t (o ∷ os) n (suc i) h e before =
    rw ((same-fails t o).1 (before 0 (omega arith)))
    (omega (arith, stands-at t os (suc n) i (omega arith) e (λ k l. before (suc k) (omega arith))))

pub stands-nowhere : (t : List ℕ) (os : List (List ℕ)) (n : ℕ) → ((k : ℕ) → k < length os → t ≡ get_or os k [] → ⊥) → place_in n t os ≡ 0
stands-nowhere t [] n none = refl
stands-nowhere t (o ∷ os) n none =
    rw ((same-fails t o).1 (none 0 (omega arith))) (stands-nowhere t os (suc n) (λ k l. none (suc k) (omega arith)))

-- each text of a list has its own place
abbrev Own : List (List ℕ) → Type 0
Own os = (k : ℕ) → k < length os → place_in 1 (get_or os k []) os ≡ k + 1

own-usgs : Own origins
own-usgs k h = sym (get_or-map (λ o. place_in 1 o origins) origins k []) ∙ entry (λ i. i + 1) 6 k h

own-canadian : Own canadian_origins
own-canadian k h = sym (get_or-map (λ o. place_in 1 o canadian_origins) canadian_origins k []) ∙ entry (λ i. i + 1) 15 k h

own_of : (family : ℕ) → Own (origins_of family)
own_of family = go (is_canadian family) (eqb family 0)
  where
    go : (b d : Bool) → Own (cond b canadian_origins (cond d origins []))
    go true d = own-canadian
    go false true = own-usgs
    go false false = λ k h. absurd (omega arith)

module _ (os : List (List ℕ)) (own : Own os) (t : List ℕ) where
  place_is : (k : ℕ) → k < length os → (place_in 1 t os ≡ k + 1) ↔ (t ≡ get_or os k [])
  place_is k h = (go (find 1 t os), λ e. rw e (own k h))
    where
      go : (place_in 1 t os ≡ 0) ⊎ Stands 1 t os → place_in 1 t os ≡ k + 1 → t ≡ get_or os k []
      go (inl z) e = absurd (omega arith)
      go (inr f) e =
          let q : f.i ≡ k = omega (arith, f.place) in
          rw (← q) f.text

  place_none : (place_in 1 t os ≡ 0) ↔ ((k : ℕ) → k < length os → t ≡ get_or os k [] → ⊥)
  place_none = (λ z k h e. omega (arith, (place_is k h).1 e), go (find 1 t os))
    where
      go : (place_in 1 t os ≡ 0) ⊎ Stands 1 t os → ((k : ℕ) → k < length os → t ≡ get_or os k [] → ⊥) → place_in 1 t os ≡ 0
      go (inl z) n = z
      go (inr f) n = absurd (n f.i f.inside f.text)

module _ (family : ℕ) (block : List ℕ) (h : length block ≡ 1024) where
  pub family-origin-is : (k : ℕ) → k < length (origins_of family)
      → (family_origin family block ≡ k + 1) ↔ (take 4 (drop 140 block) ≡ get_or (origins_of family) k [])
  family-origin-is k l =
      rw (← family-origin-of block family h) (place_is (origins_of family) (own_of family) (take 4 (drop 140 block)) k l)

  pub family-origin-none : (family_origin family block ≡ 0)
      ↔ ((k : ℕ) → k < length (origins_of family) → take 4 (drop 140 block) ≡ get_or (origins_of family) k [] → ⊥)
  family-origin-none =
      rw (← family-origin-of block family h) (place_none (origins_of family) (own_of family) (take 4 (drop 140 block)))

module _ (block : List ℕ) (h : length block ≡ 1024) where
  pub origin-is : (k : ℕ) → k < 6 → (origin_of block ≡ k + 1) ↔ (take 4 (drop 140 block) ≡ get_or origins k [])
  origin-is k l = rw (← usgs-origin block) (family-origin-is 0 block h k l)

  pub origin-none : (origin_of block ≡ 0) ↔ ((k : ℕ) → k < 6 → take 4 (drop 140 block) ≡ get_or origins k [] → ⊥)
  origin-none = rw (← usgs-origin block) (family-origin-none 0 block h)

module _ (block : List ℕ) where
  pub origin-elsewhere : (length block ≡ 1024 → ⊥) → origin_of block ≡ 0
  origin-elsewhere h = sym (no_origin block h)

  pub one-origin : {first second : ℕ} → first ≡ origin_of block → second ≡ origin_of block → first ≡ second
  one-origin = one_answer

module _ (family : ℕ) (block : List ℕ) where
  pub family-origin-elsewhere : (length block ≡ 1024 → ⊥) → family_origin family block ≡ 0
  family-origin-elsewhere h = sym (no-family-origin block family h)

  -- a family that we do not know has no origins
  pub unknown-origin : known family ≡ false → family_origin family block ≡ 0
  unknown-origin h = go (ℕ_discrete (length block) 1024)
    where
      l : 2 ≤ family
      l = ltb-false family 2 h

      go : Dec (length block ≡ 1024) → family_origin family block ≡ 0
      go (yes e) =
          sym (family-origin-of block family e) ∙ rw (ne_eqb family 1 (λ q. omega (arith, l)), ne_eqb family 0 (λ q. omega (arith, l)))
      go (no e) = family-origin-elsewhere e
