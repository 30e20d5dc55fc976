-- Numbers of 64 bits with a sign: a count among them, and whether one is negative.
use Rattle.std.specs.Prelude.{ℕ, ◌<◌, ◌^◌, Bool, true, List, [], ◌∷◌, ◌≡◌, ◌≤ℤ◌, IsTrue, ◌↔◌, All}
use Rattle.std.proofs.Common.{zero, suc, refl, sym, ◌∙◌, arith}
use Rattle.std.proofs.lemmas.Int.{ints}
use Rattle.std.proofs.lemmas.Bool.Decides.{same_from_decides}
use borrow.Author.Tests.{le-ltb}
use lib.IntN.{ℤ, pos, negsuc}
use mir.Syntax.{w64}
use mir.Facts.{to_z-of_z}
use mir.Val.{SFits, to_z, of_z}
use Rattle.laws.specs.Sign.{not_negative}
use Rattle.laws.proofs.Tests.{clash}
use Rattle.ledger.specs.Ledger.{none_negative}

pub count-below : (z : ℤ) → SFits w64 z → not_negative z < 2 ^ 63
count-below (pos n) f = f.sfits
count-below (negsuc n) f = omega arith

-- that none is negative, as an iterator's `all` tells it: of each place
each-place : (numbers : List ℤ) → none_negative numbers ≡ true → All (λ z. pos 0 ≤ℤ z) numbers
each-place [] e k d below = absurd (omega (arith, below))
each-place (negsuc n ∷ zs) e k d below = clash (sym e)
each-place (pos n ∷ zs) e zero d below = omega (arith, ints)
each-place (pos n ∷ zs) e (suc k) d below = each-place zs (rw (le-ltb n 0 (omega arith)) at e) k d (omega (arith, below))

from-places : (numbers : List ℤ) → All (λ z. pos 0 ≤ℤ z) numbers → none_negative numbers ≡ true
from-places [] each = refl
from-places (pos n ∷ zs) each =
    rw (le-ltb n 0 (omega arith)) (from-places zs (λ k d below. each (suc k) d (omega (arith, below))))
from-places (negsuc n ∷ zs) each = let here : pos 0 ≤ℤ negsuc n = each 0 (pos 0) (omega arith) in absurd (omega (arith, ints, here))

pub none-all : (numbers : List ℤ) (r : Bool) → (IsTrue r ↔ All (λ z. pos 0 ≤ℤ z) numbers) → r ≡ none_negative numbers
none-all numbers r told = same_from_decides r (none_negative numbers) told (each-place numbers, from-places numbers)

-- a number as the machine hands it on
pub told : {z : ℤ} (r : ℤ) → SFits w64 r → r ≡ z → to_z w64 (of_z w64 r) ≡ z
told r f e = to_z-of_z {w = w64} {z = r} f ∙ e
