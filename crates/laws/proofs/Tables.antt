-- A table's rule, proved at all of its entries by computing the whole table once.
use mathlib.Core.Bool.{Bool, true, false}
use lib.Dec.{T}
use mathlib.Core.List.{List, [], ◌∷◌}
use Prim.Native.Nat.{ℕ, zero, suc, ◌+◌, ◌<◌}
use mathlib.Core.Path.{◌≡◌, sym, ◌∙◌}
use native.Mathlib.Nat.{add-zero, add-suc, suc-add, le_of_suc-le-suc, not-suc-le-zero, zero-add}
use lib.ListN.{get_or, length}
use Rattle.laws.specs.Sign.{◌and◌}

pub and_left : (a b : Bool) → T (a and b) → T a
and_left true b t = tt
and_left false b t = absurd t

pub and_right : (a b : Bool) → T (a and b) → T b
and_right true b t = t
and_right false b t = absurd t

-- the table of a rule: what it gives from i on, n times
abbrev pub table : (ℕ → ℕ) → ℕ → ℕ → List ℕ
table f i zero = []
table f i (suc n) = f i ∷ table f (suc i) n

from : (f : ℕ → ℕ) (i n k : ℕ) → k < n → get_or (table f i n) k 0 ≡ f (i + k)
from f i zero k h = absurd (not-suc-le-zero h)
from f i (suc n) zero h = sym (rw (add-zero i))
from f i (suc n) (suc k) h = from f (suc i) n k (le_of_suc-le-suc h) ∙ rw (suc-add i k, add-suc i k)

pub entry : (f : ℕ → ℕ) (n k : ℕ) → k < n → get_or (table f 0 n) k 0 ≡ f k
entry f n k h = from f 0 n k h ∙ rw (zero-add k)

-- a test of every entry
abbrev pub all {ℓ} : {A : Type ℓ} → (A → Bool) → List A → Bool
all f [] = true
all f (x ∷ xs) = f x and all f xs

-- a test passed by every entry is passed by the one at each place
pub all-at {ℓ} : {A : Type ℓ} (f : A → Bool) (xs : List A) (d : A) → T (all f xs) → (k : ℕ) → k < length xs → T (f (get_or xs k d))
all-at f [] d t k h = absurd (not-suc-le-zero h)
all-at f (x ∷ xs) d t zero h = and_left (f x) (all f xs) t
all-at f (x ∷ xs) d t (suc k) h = all-at f xs d (and_right (f x) (all f xs) t) k (le_of_suc-le-suc h)
