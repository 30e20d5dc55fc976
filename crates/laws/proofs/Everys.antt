-- A test of every byte, as an iterator's `all` tells it: of each place. One induction on the text carries it.
use Rattle.std.proofs.Common.{Bool, true, false, ℕ, zero, suc, List, [], ◌∷◌, ◌≡◌, refl, sym, arith}
use Rattle.std.specs.Prelude.{IsTrue, ◌↔◌, All}
use Rattle.laws.specs.Texts.{every}
use Rattle.laws.proofs.Tests.{and_both, clash, and_first, and_second}

each-place : (is : ℕ → Bool) (xs : List ℕ) → every is xs ≡ true → All (λ x. IsTrue (is x)) xs
each-place is [] e k d below = absurd (omega (arith, below))
each-place is (x ∷ xs) e zero d below = and_first (is x) (every is xs) e
each-place is (x ∷ xs) e (suc k) d below = each-place is xs (and_second (is x) (every is xs) e) k d (omega (arith, below))

from-places : (is : ℕ → Bool) (xs : List ℕ) → All (λ x. IsTrue (is x)) xs → every is xs ≡ true
from-places is [] each = refl
from-places is (x ∷ xs) each =
    and_both (each 0 0 (omega arith)) (from-places is xs (λ k d below. each (suc k) d (omega (arith, below))))

alike : (r e : Bool) → (r ≡ true → e ≡ true) → (e ≡ true → r ≡ true) → r ≡ e
alike true true f g = refl
alike true false f g = clash (sym (f refl))
alike false true f g = clash (sym (g refl))
alike false false f g = refl

pub every-all : (is : ℕ → Bool) (xs : List ℕ) (r : Bool) → (IsTrue r ↔ All (λ x. IsTrue (is x)) xs) → r ≡ every is xs
every-all is xs r told = alike r (every is xs) (λ e. from-places is xs (told.0 e)) (λ e. told.1 (each-place is xs e))
