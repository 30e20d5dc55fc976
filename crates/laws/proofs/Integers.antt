-- Numbers with a sign, each as how far it lies above zero and how far below: in these parts omega reads orders, sums, multiples and sizes.
use Prim.Native.Nat.{ℕ, suc, min, ◌+◌, ◌≤◌, ◌-◌, ◌<◌, zero, ◌*◌, ◌^◌}
use lib.IntN.{ℤ, pos, negsuc, nat_abs, sub_ℕ, ◌+ℤ◌, neg_ℤ, ◌*ℤ◌, ◌-ℤ◌, +ℤ_comm, +ℤ-neg_ℤ_cancel, -ℤ-+ℤ_cancel}
use mathlib.Core.Path.{◌≡◌, ap, refl, sym, ◌∙◌}
use native.Mathlib.Omega.{arith}
use lib.Dec.{leb→le, le→leb, ltb}
use lib.Signed.{◌≤ℤ◌}
use mathlib.Core.Bool.{Bool, true, false}
use borrow.Author.Tests.{ltb-true, ltb-false}
use native.Mathlib.Nat.{zero-mul, add-mul, mul-le-mul_right}
use mir.Syntax.{Width}
use mir.Val.{SFits, hbits}
use Rattle.laws.specs.Sign.{signed}

abbrev pub above : ℤ → ℕ
above (pos n) = n
above (negsuc n) = 0

abbrev pub below : ℤ → ℕ
below (pos n) = 0
below (negsuc n) = suc n

-- a number lies on one side of zero, and its size is its part there
pub parts : (z : ℤ) → (nat_abs z ≡ above z + below z) × (min (above z) (below z) ≡ 0)
parts (pos n) = (omega arith, omega arith)
parts (negsuc n) = (omega arith, omega arith)

-- the order and the equality of two numbers, by the difference of their parts
pub le_parts : (a b : ℤ) → a ≤ℤ b → above a + below b ≤ above b + below a
le_parts (pos a) (pos b) h = omega (arith, leb→le a b h.le)
le_parts (pos a) (negsuc b) h = absurd h.le
le_parts (negsuc a) (pos b) h = omega arith
le_parts (negsuc a) (negsuc b) h = omega (arith, leb→le b a h.le)

pub parts-le : (a b : ℤ) → above a + below b ≤ above b + below a → a ≤ℤ b
parts-le (pos a) (pos b) h = record { le = le→leb a b (omega arith) }
parts-le (pos a) (negsuc b) h = absurd (omega arith)
parts-le (negsuc a) (pos b) h = record { le = tt }
parts-le (negsuc a) (negsuc b) h = record { le = le→leb b a (omega arith) }

pub parts_same : (a b : ℤ) → above a + below b ≡ above b + below a → a ≡ b
parts_same (pos a) (pos b) h =
    let e : a ≡ b = omega arith in
    ap pos e
parts_same (pos a) (negsuc b) h = absurd (omega arith)
parts_same (negsuc a) (pos b) h = absurd (omega arith)
parts_same (negsuc a) (negsuc b) h =
    let e : a ≡ b = omega arith in
    ap negsuc e

-- up less down, on its side of zero
pub record Difference (z : ℤ) (up down : ℕ) : Type 0 where
  pub above-is : above z ≡ up - down
  pub below-is : below z ≡ down - up

difference : (a b : ℕ) → Difference (sub_ℕ a b) a b
difference a b = go (ltb a b) refl
  where
    go : (t : Bool) → ltb a b ≡ t → Difference (sub_ℕ a b) a b
    go true e =
        let h : a < b = ltb-true a b e in
        rw e (omega arith)
    go false e =
        let h : b ≤ a = ltb-false a b e in
        rw e (omega arith)

pub sum-parts : (a b : ℤ) → Difference (a +ℤ b) (above a + above b) (below a + below b)
sum-parts (pos a) (pos b) = omega arith
sum-parts (pos a) (negsuc b) = omega (arith, difference a (suc b))
sum-parts (negsuc a) (pos b) = omega (arith, difference b (suc a))
sum-parts (negsuc a) (negsuc b) = omega arith

pub minus-parts : (z : ℤ) → (above (neg_ℤ z) ≡ below z) × (below (neg_ℤ z) ≡ above z)
minus-parts (pos zero) = (refl, refl)
minus-parts (pos (suc n)) = (refl, refl)
minus-parts (negsuc n) = (refl, refl)

pub multiple-parts : (k : ℤ) (s : ℕ) → (above (k *ℤ pos s) ≡ above k * s) × (below (k *ℤ pos s) ≡ below k * s)
multiple-parts (pos k) s = (refl, sym (zero-mul s))
multiple-parts (negsuc k) s = ((minus-parts (pos (suc k * s))).0 ∙ sym (zero-mul s), (minus-parts (pos (suc k * s))).1)

pub le-through : (a b c : ℤ) → a ≤ℤ b → b ≤ℤ c → a ≤ℤ c
le-through a b c h k = parts-le a c (omega (arith, le_parts a b h, le_parts b c k))

pub multiple-le : (a b : ℤ) (s : ℕ) → a ≤ℤ b → (a *ℤ pos s) ≤ℤ (b *ℤ pos s)
multiple-le a b s h =
    let q = mul-le-mul_right s (le_parts a b h) in
    parts-le (a *ℤ pos s) (b *ℤ pos s)
    (omega (arith, multiple-parts a s, multiple-parts b s, q, add-mul (above a) (below b) s, add-mul (above b) (below a) s))

-- a difference and the sum that it undoes
pub sum_less : (a b : ℤ) → a +ℤ b -ℤ a ≡ b
sum_less a b = ap (λ c. c -ℤ a) (+ℤ_comm a b) ∙ +ℤ-neg_ℤ_cancel b a

pub less-is : (a b c : ℤ) → a -ℤ b ≡ c → a ≡ b +ℤ c
less-is a b c e = sym (-ℤ-+ℤ_cancel a b) ∙ ap (λ d. d +ℤ b) e ∙ +ℤ_comm c b

-- the sizes of a sum, of a number with its sign turned and of a multiple
pub size-sum : (a b : ℤ) → nat_abs (a +ℤ b) ≤ nat_abs a + nat_abs b
size-sum a b = omega (arith, sum-parts a b, parts (a +ℤ b), parts a, parts b)

pub size-minus : (z : ℤ) → nat_abs (neg_ℤ z) ≡ nat_abs z
size-minus z = omega (arith, minus-parts z, parts (neg_ℤ z), parts z)

pub signed-size : (minus : Bool) (n : ℕ) → nat_abs (signed minus n) ≡ n
signed-size true n = size-minus (pos n)
signed-size false n = refl

pub size-multiple : (k : ℤ) (s : ℕ) → nat_abs (k *ℤ pos s) ≡ nat_abs k * s
size-multiple (pos k) s = refl
size-multiple (negsuc k) s = size-minus (pos (suc k * s))

-- a number is in a width's range where its size is below half the width's power
pub size_fits : {w : Width} (z : ℤ) → nat_abs z < 2 ^ hbits w → SFits w z
size_fits (pos n) h = record { sfits = h }
size_fits (negsuc n) h = record { sfits = omega arith }

-- and no further from zero than that power where it is
pub size-most : {w : Width} (z : ℤ) → SFits w z → nat_abs z ≤ 2 ^ hbits w
size-most (pos n) f = omega (arith, f.sfits)
size-most (negsuc n) f = omega (arith, f.sfits)
