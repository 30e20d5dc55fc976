-- Posts and heights: what the tests of them decide, and how far from zero a height lies. The sizes of a sum and of a multiple carry it.
use mathlib.Core.Logic.{◌⊎◌, inl, inr}
use mathlib.Core.Path.{◌≡◌, refl, ◌∙◌, ap₂, ap}
use Prim.Native.Nat.{◌≤◌, ℕ, ◌*◌, zero, suc, ◌<◌, suc-le-suc}
use lib.IntN.{ℤ, nat_abs, pos, ◌+ℤ◌, ◌*ℤ◌}
use mathlib.Core.Bool.{Bool, true, false}
use native.Mathlib.Nat.{mul-le-mul, le_of_suc-le-suc}
use native.Mathlib.Omega.{arith}
use mir.Facts.{to_z-of_z, to_z_pos, sfits_lit}
use mir.Syntax.{w32, w64}
use mir.Val.{SFits, to_z, of_z}
use mathlib.Core.List.{List, [], ◌∷◌}
use lib.ListN.{length, length-map, get_or}
use Rattle.laws.specs.Sign.{same_z}
use Rattle.laws.proofs.Integers.{size-sum, size-multiple, size_fits}
use Rattle.laws.proofs.SameNumbers.{same_z-fails}
use Rattle.ground.specs.Posts.{void, void_post, height, Scaled, heights}

-- ---- one number

-- ---- a post's range, by its two ends

-- ---- heights

-- what a cell may hold: the void, or a height within 4,276,700 of zero
abbrev pub Cell : ℤ → Type 0
Cell h = (h ≡ void) ⊎ (nat_abs h ≤ 4276700)

pub height-void : (z : ℕ) (datum : ℤ) → height z datum void_post ≡ void
height-void z datum = refl

module _ (z : ℕ) (datum post : ℤ) (a : Scaled z datum post) where
  pub multiple-most : nat_abs (post *ℤ pos z) ≤ 3276700
  multiple-most =
      let q : nat_abs post * z ≤ 32767 * 100 = mul-le-mul a.post-most a.z-most in
      omega (arith, size-multiple post z, q)

  pub filled-most : nat_abs ((post *ℤ pos z) +ℤ datum) ≤ 4276700
  filled-most = omega (arith, size-sum (post *ℤ pos z) datum, multiple-most, a.datum-most)

  height-cases : Cell (height z datum post)
  height-cases = go (same_z post void_post) refl
    where
      go : (t : Bool) → same_z post void_post ≡ t → Cell (height z datum post)
      go true e = inl (rw e)
      go false e = inr (rw e filled-most)

  pub height-fits : SFits w32 (height z datum post)
  height-fits = go height-cases
    where
      go : Cell (height z datum post) → SFits w32 (height z datum post)
      go (inl e) = rw e (sfits_lit tt)
      go (inr h) = size_fits (height z datum post) (omega arith)

  -- the machine's product and sum are those of the numbers
  module _ (f : SFits w64 post) (g : SFits w64 datum) where
    product_is : to_z w64 (of_z w64 post) *ℤ to_z w64 z ≡ post *ℤ pos z
    product_is = ap₂ ◌*ℤ◌ (to_z-of_z f) (to_z_pos w64 (omega (arith, a.z-most)))

    pub product-fits : SFits w64 (to_z w64 (of_z w64 post) *ℤ to_z w64 z)
    product-fits = rw product_is (size_fits (post *ℤ pos z) (omega (arith, multiple-most)))

    sum_is : to_z w64 (of_z w64 (to_z w64 (of_z w64 post) *ℤ to_z w64 z)) +ℤ to_z w64 (of_z w64 datum) ≡ (post *ℤ pos z) +ℤ datum
    sum_is = ap₂ ◌+ℤ◌ (to_z-of_z product-fits ∙ product_is) (to_z-of_z g)

    pub sum_fits : SFits w64 (to_z w64 (of_z w64 (to_z w64 (of_z w64 post) *ℤ to_z w64 z)) +ℤ to_z w64 (of_z w64 datum))
    sum_fits = rw sum_is (size_fits ((post *ℤ pos z) +ℤ datum) (omega (arith, filled-most)))

    pub machine-height : to_z w64 (of_z w64 (to_z w64 (of_z w64 (to_z w64 (of_z w64 post) *ℤ to_z w64 z)) +ℤ to_z w64 (of_z w64 datum)))
        ≡ (post *ℤ pos z) +ℤ datum
    machine-height = to_z-of_z sum_fits ∙ sum_is

far-from-void : (h : ℤ) → nat_abs h ≤ 4276700 → same_z h void ≡ false
far-from-void h k = same_z-fails h void (λ e. absurd (omega (arith, ap nat_abs e)))

module _ (z : ℕ) (datum post : ℤ) (p : nat_abs post ≤ 32767) (q : z ≤ 100) (d : nat_abs datum ≤ 1000000) where
  scaled : Scaled z datum post
  scaled = record { post-most = p; z-most = q; datum-most = d }

  -- the bound on filled cells, 4,276,700 either way
  pub height_bound : Cell (height z datum post)
  height_bound = height-cases z datum post scaled

  -- no post but the void one has the void for its height
  pub height-filled : (post ≡ void_post → ⊥) → same_z (height z datum post) void ≡ false
  height-filled f =
      rw (same_z-fails post void_post f) (far-from-void ((post *ℤ pos z) +ℤ datum) (filled-most z datum post scaled))

pub heights-length : (z : ℕ) (datum : ℤ) (posts : List ℤ) → length (heights z datum posts) ≡ length posts
heights-length z datum posts = length-map posts (height z datum)

-- posts in their range leave nothing else in a cell
pub heights-cells : (z : ℕ) (datum : ℤ) (posts : List ℤ) → z ≤ 100 → nat_abs datum ≤ 1000000
    → ((i : ℕ) → i < length posts → nat_abs (get_or posts i (pos 0)) ≤ 32767)
    → (i : ℕ) → i < length (heights z datum posts) → Cell (get_or (heights z datum posts) i void)
heights-cells z datum [] q d s i k = inl refl
heights-cells z datum (p ∷ ps) q d s zero k = height_bound z datum p (s 0 (omega arith)) q d
heights-cells z datum (p ∷ ps) q d s (suc i) k =
    heights-cells z datum ps q d (λ j h. s (suc j) (suc-le-suc h)) i (le_of_suc-le-suc k)
