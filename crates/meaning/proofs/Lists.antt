-- Numbers from a to b, lists joined, and the first broken rule of a list. Each law is one induction on a list or a count.
use mathlib.Core.List.{List, [], ◌∷◌, ◌++◌, map}
use mathlib.Core.Path.{◌≡◌, refl, sym, ◌∙◌, ap}
use borrow.Author.Tests.{eqb-false, eqb-true}
use lib.Dec.{eqb}
use Prim.Native.Nat.{ℕ, zero, suc, ◌+◌, ◌≤◌, ◌<◌}
use native.Mathlib.Omega.{arith}
use Rattle.laws.specs.Lists.{from, joined}
use Rattle.laws.proofs.Tests.{by-test}
use Rattle.meaning.specs.Rules.{Breach, first_broken}

-- ---- the first broken rule

-- every rule of the list is kept
abbrev pub Kept : List Breach → Type 0
Kept bs = (first_broken bs).kind ≡ 0

pub first-append : (xs ys : List Breach) → Kept xs → first_broken (xs ++ ys) ≡ first_broken ys
first-append [] ys h = refl
first-append (x ∷ xs) ys h =
    by-test (eqb x.kind 0) (λ e. rw e (first-append xs ys (rw e at h))) (λ e. absurd (eqb-false x.kind 0 e (rw e at h)))

pub first-front : (xs ys : List Breach) → (Kept xs → ⊥) → first_broken (xs ++ ys) ≡ first_broken xs
first-front [] ys h = absurd (h refl)
first-front (x ∷ xs) ys h = by-test (eqb x.kind 0) (λ e. rw e (first-front xs ys (λ k. h (rw e k)))) (λ e. rw e)

pub kept-front : (xs ys : List Breach) → Kept (xs ++ ys) → Kept xs
kept-front [] ys h = refl
kept-front (x ∷ xs) ys h =
    by-test (eqb x.kind 0) (λ e. rw e (kept-front xs ys (rw e at h))) (λ e. absurd (eqb-false x.kind 0 e (rw e at h)))

pub kept-rest : (xs ys : List Breach) → Kept (xs ++ ys) → Kept ys
kept-rest xs ys h = ap (λ (b : Breach). b.kind) (sym (first-append xs ys (kept-front xs ys h))) ∙ h

pub kept-both : (xs ys : List Breach) → Kept xs → Kept ys → Kept (xs ++ ys)
kept-both xs ys h k = ap (λ (b : Breach). b.kind) (first-append xs ys h) ∙ k

-- the rules of one among many
pub kept_at : (f : ℕ → List Breach) (a n i : ℕ) → Kept (joined (map f (from a n))) → a ≤ i → i < a + n → Kept (f i)
kept_at f a zero i h p q = absurd (omega (arith, p, q))
kept_at f a (suc n) i h p q =
    by-test (eqb a i)
    (λ e. rw (← eqb-true a i e) (kept-front (f a) (joined (map f (from (suc a) n))) h))
    (λ e.
    let ne = eqb-false a i e in
    kept_at f (suc a) n i (kept-rest (f a) (joined (map f (from (suc a) n))) h) (omega (arith, p, ne)) (omega (arith, q)))

pub kept-all : (f : ℕ → List Breach) (a n : ℕ) → ((i : ℕ) → a ≤ i → i < a + n → Kept (f i)) → Kept (joined (map f (from a n)))
kept-all f a zero h = refl
kept-all f a (suc n) h =
    kept-both (f a) (joined (map f (from (suc a) n))) (h a (omega arith) (omega arith))
    (kept-all f (suc a) n (λ i p q. h i (omega (arith, p)) (omega (arith, q))))
