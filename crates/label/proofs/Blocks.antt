-- What the length of a block decides: at 1024 bytes the places of its fields count, at any other there is neither origin nor name.
use mathlib.Core.Path.{◌≡◌, refl}
use mathlib.Core.List.{List}
use Prim.Native.Nat.{ℕ}
use borrow.Author.Tests.{eq-eqb, ne_eqb}
use lib.ListN.{length, take, drop}
use Rattle.label.specs.Label.{origins_of, place_in, origin_of, family_origin, filled, name_length}

module _ (b : List ℕ) where
  pub no_origin : (length b ≡ 1024 → ⊥) → 0 ≡ origin_of b
  unfolding origin_of
  no_origin h = rw (ne_eqb (length b) 1024 h)

  pub family-origin-of : (family : ℕ) → length b ≡ 1024 → place_in 1 (take 4 (drop 140 b)) (origins_of family) ≡ family_origin family b
  unfolding family_origin
  family-origin-of family h = rw (eq-eqb (length b) 1024 h)

  pub no-family-origin : (family : ℕ) → (length b ≡ 1024 → ⊥) → 0 ≡ family_origin family b
  unfolding family_origin
  no-family-origin family h = rw (ne_eqb (length b) 1024 h)

  -- the origin of 01 is that of a USGS sheet
  pub usgs-origin : family_origin 0 b ≡ origin_of b
  unfolding family_origin origin_of
  usgs-origin = refl

  pub name_of : length b ≡ 1024 → filled (take 40 b) ≡ name_length b
  unfolding name_length
  name_of h = rw (eq-eqb (length b) 1024 h)

  pub no_name : (length b ≡ 1024 → ⊥) → 0 ≡ name_length b
  unfolding name_length
  no_name h = rw (ne_eqb (length b) 1024 h)
