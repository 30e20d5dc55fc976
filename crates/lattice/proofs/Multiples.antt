-- Values in whole spacings: what rounding up and cutting give on each side of zero, and that nothing grows by it.
use mathlib.Core.Path.{◌≡◌, refl, sym, ap, ◌∙◌}
use Prim.Native.Nat.{ℕ, suc, ◌+◌, ◌-◌, ◌*◌, ◌/◌, ◌%◌, ◌≤◌, ◌<◌}
use lib.IntN.{ℤ, pos, negsuc, neg_ℤ, nat_abs, ◌*ℤ◌}
use native.Mathlib.Nat.{div-add-mod', div-le_self, div-lt_iff_lt-mul, div-mul-le_self, le-div_iff_mul-le, le-mul_of_pos_right, lt-div-mul-add, mul-div_cancel, suc-mul, zero-div}
use lib.Signed.{lt_z}
use mathlib.Core.Bool.{false}
use native.Mathlib.Omega.{arith}
use Rattle.laws.proofs.Integers.{above, below, parts_same, minus-parts, multiple-parts, size-minus}
use Rattle.laws.proofs.Tests.{clash}
use Rattle.std.proofs.lemmas.Grind.{div_ceil_times}
use Rattle.std.specs.Int.{div_ceil}
use Rattle.lattice.specs.Lattice.{first_multiple, last_multiple, multiple_of, upward}

module _ (s : ℕ) (p : 0 < s) where
  -- rounded up: the least number of spacings that reaches v
  pub upward-reaches : (v : ℕ) → v ≤ upward v s * s
  upward-reaches v = omega (arith, lt-div-mul-add {a = v + (s - 1)} p)

  pub upward-least : (v k : ℕ) → v ≤ k * s → upward v s ≤ k
  upward-least v k h =
      let q : v + (s - 1) < suc k * s = omega (arith, suc-mul k s) in
      let r : upward v s < suc k = (div-lt_iff_lt-mul p).1 q in
      omega arith

  upward-small : (v : ℕ) → upward v s ≤ v
  upward-small v = upward-least v v (le-mul_of_pos_right v p)

  pub upward-zero : upward 0 s ≡ 0
  upward-zero = omega (arith, upward-small 0)

  pub upward-even : (v : ℕ) → v % s ≡ 0 → upward v s ≡ v / s
  upward-even v e =
      let le : upward v s ≤ v / s = upward-least v (v / s) (omega (arith, div-add-mod' v s)) in
      let ge : v / s ≤ upward v s = (le-div_iff_mul-le p).1 (omega (arith, div-mul-le_self v s)) in
      omega arith

  -- as the machine rounds up
  upward-is : (v : ℕ) → div_ceil v s ≡ upward v s
  upward-is v =
      let b = div_ceil_times v s p in
      let le : upward v s ≤ div_ceil v s = upward-least v (div_ceil v s) b.0 in
      let ge : div_ceil v s ≤ upward v s = (le-div_iff_mul-le p).1 (omega (arith, b.1)) in
      omega arith

  pub first-above : (v : ℤ) → lt_z v (pos 0) ≡ false → pos (div_ceil (nat_abs v) s) ≡ first_multiple v s
  first-above (pos v) t = ap pos (upward-is v)
  first-above (negsuc v) t = clash t

  -- on one side of zero a multiple is rounded up, on the other cut
  pub first-parts : (v : ℤ) → (above (first_multiple v s) ≡ upward (above v) s) × (below (first_multiple v s) ≡ below v / s)
  first-parts (pos v) = (refl, sym (zero-div s))
  first-parts (negsuc v) =
      let m = minus-parts (pos (suc v / s)) in
      (m.0 ∙ sym upward-zero, m.1)

  pub last-parts : (v : ℤ) → (above (last_multiple v s) ≡ above v / s) × (below (last_multiple v s) ≡ upward (below v) s)
  last-parts (pos v) = (refl, sym upward-zero)
  last-parts (negsuc v) =
      let m = minus-parts (pos (upward (suc v) s)) in
      (m.0 ∙ sym (zero-div s), m.1)

  cut_parts : (z : ℤ) → (above (multiple_of z s) ≡ above z / s) × (below (multiple_of z s) ≡ below z / s)
  cut_parts (pos v) = (refl, sym (zero-div s))
  cut_parts (negsuc v) =
      let m = minus-parts (pos (suc v / s)) in
      (m.0 ∙ sym (zero-div s), m.1)

  -- a whole number of spacings is its multiple, and a multiple is its number's
  pub multiple-whole : (z : ℤ) → nat_abs z % s ≡ 0 → z ≡ multiple_of z s *ℤ pos s
  multiple-whole z e =
      let m = multiple_of z s in
      parts_same z (m *ℤ pos s) (rw ((multiple-parts m s).0, (multiple-parts m s).1, (cut_parts z).0, (cut_parts z).1) (whole z e))
    where
      whole : (z : ℤ) → nat_abs z % s ≡ 0 → above z + below z / s * s ≡ above z / s * s + below z
      whole (pos v) e = omega (arith, div-add-mod' v s, div-mul-le_self 0 s)
      whole (negsuc v) e = omega (arith, div-add-mod' (suc v) s, div-mul-le_self 0 s)

  pub whole_multiple : (k : ℤ) → multiple_of (k *ℤ pos s) s ≡ k
  whole_multiple k =
      let z = k *ℤ pos s in
      parts_same (multiple_of z s) k
      (rw ((cut_parts z).0, (cut_parts z).1, (multiple-parts k s).0, (multiple-parts k s).1)
      (omega (arith, mul-div_cancel (above k) p, mul-div_cancel (below k) p)))

  -- the first of the values with their signs turned is the last
  pub last-is : (v : ℤ) → neg_ℤ (first_multiple (neg_ℤ v) s) ≡ last_multiple v s
  last-is v =
      let f = first_multiple (neg_ℤ v) s in
      let m = minus-parts v in
      let n = minus-parts f in
      parts_same (neg_ℤ f) (last_multiple v s)
      (rw (n.0, n.1, (first-parts (neg_ℤ v)).0, (first-parts (neg_ℤ v)).1, (last-parts v).0, (last-parts v).1, m.0, m.1) refl)

  -- a whole multiple is the first that is not below it
  pub first-whole : (z : ℤ) → nat_abs z % s ≡ 0 → first_multiple z s ≡ multiple_of z s
  first-whole (pos v) e = ap pos (upward-even v e)
  first-whole (negsuc v) e = refl

  -- the first lies no farther from zero than the value
  pub first-small : (v : ℤ) → nat_abs (first_multiple v s) ≤ nat_abs v
  first-small (pos v) = upward-small v
  first-small (negsuc v) = rw (size-minus (pos (suc v / s))) (div-le_self (suc v) s)
