-- One number is another exactly where the test says so, and where the machine's bits are the same.
use mathlib.Core.Bool.{true, Bool, false}
use mathlib.Core.Path.{◌≡◌, refl, sym, ap, ◌∙◌}
use borrow.Author.Tests.{eq-eqb, eqb-true, ne_eqb}
use lib.IntN.{ℤ, pos, negsuc}
use mathlib.Core.Logic.{◌↔◌}
use lib.Dec.{eqb}
use mir.Facts.{to_z-of_z}
use mir.Syntax.{Width}
use mir.Val.{SFits, to_z, of_z}
use Rattle.laws.specs.Sign.{same_z, is_zero}
use Rattle.laws.proofs.Tests.{clash}

same_self : (a : ℤ) → same_z a a ≡ true
same_self (pos a) = eq-eqb a a refl
same_self (negsuc a) = eq-eqb a a refl

one_number : (a b : ℤ) → same_z a b ≡ true → a ≡ b
one_number (pos a) (pos b) t = ap pos (eqb-true a b t)
one_number (pos a) (negsuc b) t = clash (sym t)
one_number (negsuc a) (pos b) t = clash (sym t)
one_number (negsuc a) (negsuc b) t = ap negsuc (eqb-true a b t)

pub same_z-is : (a b : ℤ) → (same_z a b ≡ true) ↔ (a ≡ b)
same_z-is a b = (one_number a b, λ e. rw (← e) (same_self a))

pub same_z-fails : (a b : ℤ) → (a ≡ b → ⊥) → same_z a b ≡ false
same_z-fails a b f = go (same_z a b) refl
  where
    go : (t : Bool) → same_z a b ≡ t → same_z a b ≡ false
    go true e = absurd (f (one_number a b e))
    go false e = e

-- the machine compares bits
pub same_bits : {w : Width} (a b : ℤ) → SFits w a → SFits w b → eqb (of_z w a) (of_z w b) ≡ same_z a b
same_bits {w} a b f g = go (same_z a b) refl
  where
    go : (t : Bool) → same_z a b ≡ t → eqb (of_z w a) (of_z w b) ≡ same_z a b
    go true e = eq-eqb (of_z w a) (of_z w b) (ap (of_z w) (one_number a b e)) ∙ sym e
    go false e =
        ne_eqb (of_z w a) (of_z w b) (λ p. clash (sym ((same_z-is a b).1 (sym (to_z-of_z f) ∙ ap (to_z w) p ∙ to_z-of_z g)) ∙ e)) ∙ sym e

pub zero_same : (z : ℤ) → same_z z (pos 0) ≡ is_zero z
zero_same (pos n) = refl
zero_same (negsuc n) = refl
