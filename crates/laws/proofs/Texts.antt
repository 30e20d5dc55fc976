-- Texts compared byte for byte: the test passes exactly where the two are one text. One induction on both texts carries it.
use mathlib.Core.Bool.{true, Bool, false}
use mathlib.Core.List.{List, [], ◌∷◌}
use mathlib.Core.Path.{◌≡◌, refl, sym, ap₂}
use Prim.Native.Nat.{ℕ}
use borrow.Author.Tests.{eq-eqb, eqb-true}
use lib.Dec.{eqb}
use mathlib.Core.Logic.{◌↔◌}
use Rattle.laws.specs.Texts.{same}
use Rattle.laws.proofs.Tests.{and_both, clash, and_first, and_second}

same_self : (s : List ℕ) → same s s ≡ true
same_self [] = refl
same_self (a ∷ s) = and_both (eq-eqb a a refl) (same_self s)

one-text : (s t : List ℕ) → same s t ≡ true → s ≡ t
one-text [] [] e = refl
one-text [] (b ∷ t) e = clash (sym e)
one-text (a ∷ s) [] e = clash (sym e)
one-text (a ∷ s) (b ∷ t) e =
    ap₂ ◌∷◌ (eqb-true a b (and_first (eqb a b) (same s t) e)) (one-text s t (and_second (eqb a b) (same s t) e))

pub same-is : (s t : List ℕ) → (same s t ≡ true) ↔ (s ≡ t)
same-is s t = (one-text s t, λ e. rw (← e) (same_self s))

-- and it fails exactly where they are two
pub same-fails : (s t : List ℕ) → (same s t ≡ false) ↔ (s ≡ t → ⊥)
same-fails s t = (λ f e. clash (rw f at (sym ((same-is s t).1 e))), go (same s t) refl)
  where
    go : (b : Bool) → same s t ≡ b → (s ≡ t → ⊥) → same s t ≡ false
    go true e h = absurd (h (one-text s t e))
    go false e h = e
