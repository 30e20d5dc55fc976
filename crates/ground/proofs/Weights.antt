-- What filled heights come to by any weight. Weights of 1 count them; by what lies above zero and what lies below they give the sum.
use mathlib.Core.List.{List, [], ◌∷◌, ◌++◌}
use mathlib.Core.Path.{◌≡◌, refl, sym, ◌∙◌, ap}
use mathlib.Core.Bool.{cond, true}
use mathlib.Core.Logic.{inl, inr}
use Prim.Native.Nat.{ℕ, suc, ◌+◌, ◌*◌, ◌≤◌, ◌<◌, suc-le-suc}
use native.Mathlib.Omega.{arith}
use lib.IntN.{ℤ, nat_abs, ◌+ℤ◌, +ℤ_idl, +ℤ_assoc}
use lib.ListN.{length, get_or}
use Rattle.laws.specs.Sign.{same_z}
use Rattle.laws.proofs.Integers.{above, below, Difference, parts_same, sum-parts, size-sum}
use Rattle.laws.proofs.SameNumbers.{same_z-is}
use Rattle.laws.proofs.Tests.{by-test}
use Rattle.ground.specs.Posts.{void, filled_in}
use Rattle.ground.specs.Extremes.{filled_only, sum_of}
use Rattle.ground.proofs.Heights.{Cell}

-- a height by its weight, a void by none
abbrev pub weight : (ℤ → ℕ) → ℤ → ℕ
weight w h = cond (same_z h void) 0 (w h)

abbrev pub weighed : (ℤ → ℕ) → List ℤ → ℕ
weighed w [] = 0
weighed w (h ∷ hs) = weight w h + weighed w hs

pub weighed-append : (w : ℤ → ℕ) (xs ys : List ℤ) → weighed w (xs ++ ys) ≡ weighed w xs + weighed w ys
weighed-append w [] ys = omega arith
weighed-append w (x ∷ xs) ys = omega (arith, weighed-append w xs ys)

-- ---- the count

pub filled-weighed : (hs : List ℤ) → filled_in hs ≡ weighed (λ h. 1) hs
filled-weighed [] = refl
filled-weighed (h ∷ hs) = ap (λ (n : ℕ). cond (same_z h void) 0 1 + n) (filled-weighed hs)

pub filled-append : (xs ys : List ℤ) → filled_in (xs ++ ys) ≡ filled_in xs + filled_in ys
filled-append xs ys =
    omega (arith, weighed-append (λ h. 1) xs ys, filled-weighed (xs ++ ys), filled-weighed xs, filled-weighed ys)

-- ---- the sum

sum-weighed : (hs : List ℤ) → Difference (sum_of (filled_only hs)) (weighed above hs) (weighed below hs)
sum-weighed [] = record { above-is = refl; below-is = refl }
sum-weighed (h ∷ hs) =
    let rest = sum-weighed hs in
    by-test (same_z h void) (λ e. rw e (omega (arith, rest)))
    (λ e. rw e (omega (arith, rest, sum-parts h (sum_of (filled_only hs)))))

-- the same weights above zero and below it have the same sum
pub same_sum : (xs ys : List ℤ) → weighed above xs ≡ weighed above ys → weighed below xs ≡ weighed below ys
    → sum_of (filled_only xs) ≡ sum_of (filled_only ys)
same_sum xs ys p q =
    parts_same (sum_of (filled_only xs)) (sum_of (filled_only ys)) (omega (arith, sum-weighed xs, sum-weighed ys, p, q))

-- ---- heights in two parts

pub filled-parts : (xs ys : List ℤ) → filled_only (xs ++ ys) ≡ filled_only xs ++ filled_only ys
filled-parts [] ys = refl
filled-parts (x ∷ xs) ys =
    let rest = filled-parts xs ys in
    by-test (same_z x void) (λ e. rw e rest) (λ e. rw e (ap (λ (l : List ℤ). x ∷ l) rest))

sum-parts-of : (xs ys : List ℤ) → sum_of (xs ++ ys) ≡ sum_of xs +ℤ sum_of ys
sum-parts-of [] ys = sym (+ℤ_idl (sum_of ys))
sum-parts-of (x ∷ xs) ys = ap (λ (z : ℤ). x +ℤ z) (sum-parts-of xs ys) ∙ sym (+ℤ_assoc x (sum_of xs) (sum_of ys))

pub sum-on : (hs more : List ℤ) → sum_of (filled_only (hs ++ more)) ≡ sum_of (filled_only hs) +ℤ sum_of (filled_only more)
sum-on hs more = ap sum_of (filled-parts hs more) ∙ sum-parts-of (filled_only hs) (filled_only more)

-- ---- how far from zero

-- no further than so many of the greatest height
pub sum_bound : (hs : List ℤ) → ((i : ℕ) → i < length hs → Cell (get_or hs i void)) → nat_abs (sum_of (filled_only hs)) ≤ filled_in hs * 4276700
sum_bound [] s = omega arith
sum_bound (h ∷ hs) s = go (sum_bound hs (λ i k. s (suc i) (suc-le-suc k))) (s 0 (omega arith))
  where
    empty : nat_abs (sum_of (filled_only hs)) ≤ filled_in hs * 4276700 → same_z h void ≡ true
        → nat_abs (sum_of (filled_only (h ∷ hs))) ≤ filled_in (h ∷ hs) * 4276700
    empty rest e = rw e (omega (arith, rest))

    go : nat_abs (sum_of (filled_only hs)) ≤ filled_in hs * 4276700 → Cell h
        → nat_abs (sum_of (filled_only (h ∷ hs))) ≤ filled_in (h ∷ hs) * 4276700
    go rest (inl v) = empty rest ((same_z-is h void).1 v)
    go rest (inr k) = by-test (same_z h void) (empty rest) (λ e. rw e (omega (arith, rest, k, size-sum h (sum_of (filled_only hs)))))
