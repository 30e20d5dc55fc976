-- 02, request 6, of a list of rules: where every rule of kind 6 is one of form, a fault of kind 6 points at the very byte of the first field that breaks
-- its rules.
use mathlib.Core.Bool.{true, false}
use mathlib.Core.List.{List, [], ◌∷◌, ◌++◌}
use mathlib.Core.Logic.{◌⊎◌, inl, inr}
use mathlib.Core.Path.{◌≡◌, refl, sym, ◌∙◌, ap, subst}
use Prim.Native.Nat.{ℕ, ◌+◌, ◌-◌}
use native.Mathlib.Omega.{arith}
use borrow.Author.Tests.{eqb-true, eqb-false}
use lib.Dec.{eqb}
use Rattle.laws.specs.Lists.{joined}
use Rattle.laws.proofs.Starts.{one-very-byte}
use Rattle.laws.proofs.Tests.{by-test}
use Rattle.number.specs.declared.Reading.{Reading}
use Rattle.number.specs.Integer.{integer}
use Rattle.number.specs.Real.{real}
use Rattle.number.proofs.Grammar.{integer-points, real-points}
use Rattle.field.specs.Field.{fault, stretch}
use Rattle.field.specs.declared.Fault.{Fault}
use Rattle.field.specs.declared.Limits.{Limits}
use Rattle.field.specs.Rules.{Clause, form_clause, spared, integer_forms, integer_by, real_rules, real_by, KeepsAll, FirstBroken, PointsAt, Pointed}
use Rattle.field.specs.Rules.KeepsAll.{none as kept-none, more}
use Rattle.field.specs.Rules.FirstBroken.{here, later}
use Rattle.field.specs.Rules.PointsAt.{in-integer, in-real}
use Rattle.field.proofs.Rules.{broken_or, kept-or-broken, one-first, keeps-first, broken-first}

-- every rule of kind 6 is one of form
pub data Forms : List Clause → Type 0 where
  none : Forms []
  other : {c : Clause} {cs : List Clause} → eqb c.kind 6 ≡ false → Forms cs → Forms (c ∷ cs)
  integers : (first width : ℕ) {cs : List Clause} → Forms cs → Forms (form_clause first (λ b. integer (stretch first width b)) ∷ cs)
  reals : (first width : ℕ) {cs : List Clause} → Forms cs → Forms (form_clause first (λ b. real (stretch first width b)) ∷ cs)

pub forms-append : {xs ys : List Clause} → Forms xs → Forms ys → Forms (xs ++ ys)
forms-append none g = g
forms-append (other e f) g = other e (forms-append f g)
forms-append (integers first width f) g = integers first width (forms-append f g)
forms-append (reals first width f) g = reals first width (forms-append f g)

-- ---- the rules of a field, by its first byte and its width
module _ (first width : ℕ) where
  pub integer-forms : Forms (integer_forms first width)
  integer-forms = integers first width none

  pub real-forms : Forms (real_rules first width)
  real-forms = reals first width (other refl (other refl none))

  module _ (kind : ℕ) (within : List ℕ → Limits) (n : eqb kind 6 ≡ false) where
    pub integer-by : Forms (integer_by first width kind within)
    integer-by = integers first width (other n none)

    pub real-by : Forms (real_by first width kind within)
    real-by = forms-append real-forms (other n none)

-- fields one behind the other
pub data Each : List (List Clause) → Type 0 where
  end : Each []
  next : {cs : List Clause} {css : List (List Clause)} → Forms cs → Each css → Each (cs ∷ css)

pub forms-joined : {css : List (List Clause)} → Each css → Forms (joined css)
forms-joined end = none
forms-joined (next f fs) = forms-append f (forms-joined fs)

-- ---- what the first broken one points at
not_spared : (r : Reading) → (spared 6 r ≡ true → ⊥) → r.kind ≡ 6
not_spared r b = by-test (eqb r.kind 6) (eqb-true r.kind 6) (λ e. absurd (b (rw e)))

points-head : {block : List ℕ} {c : Clause} {cs : List Clause} → Forms (c ∷ cs) → (c.kept block ≡ true → ⊥) → c.kind ≡ 6
    → PointsAt block c (c.byte block)
points-head (other {c} e f) b k = absurd (eqb-false c.kind 6 e k)
points-head {block} (integers first width f) b k =
    let s = stretch first width block in
    in-integer first width (integer s).byte (integer-points s (not_spared (integer s) b))
points-head {block} (reals first width f) b k =
    let s = stretch first width block in
    in-real first width (real s).byte (real-points s (not_spared (real s) b))

forms-behind : {c : Clause} {cs : List Clause} → Forms (c ∷ cs) → Forms cs
forms-behind (other e f) = f
forms-behind (integers first width f) = f
forms-behind (reals first width f) = f

pub first-points : {block : List ℕ} {c : Clause} {cs : List Clause} → Forms cs → FirstBroken block c cs → c.kind ≡ 6
    → PointsAt block c (c.byte block)
first-points f (here b) k = points-head f b k
first-points f (later h b) k = first-points (forms-behind f) b k

module _ {block : List ℕ} {cs : List Clause} (forms : Forms cs) where
  pub broken-pointed : {c : Clause} {y : ℕ} → FirstBroken block c cs → c.kind ≡ 6 → c.byte block ≡ y → Pointed block cs y
  broken-pointed {c} b k e = record { rule = c; broken = b; points = subst (PointsAt block c) e (first-points forms b k) }

  -- .. and where a verdict is the first broken rule
  pub fault-pointed : (f : Fault) → f ≡ broken_or block cs (fault 0 0) → f.kind ≡ 6 → Pointed block cs f.byte
  fault-pointed f is k = go (kept-or-broken block cs)
    where
      go : KeepsAll block cs ⊎ ((c : Clause) × FirstBroken block c cs) → Pointed block cs f.byte
      go (inl a) = absurd (omega (arith, k, ap (λ (x : Fault). x.kind) (is ∙ keeps-first a (fault 0 0))))
      go (inr b) =
          let e = is ∙ broken-first b.1 (fault 0 0) in
          broken-pointed b.1 (sym (ap (λ (x : Fault). x.kind) e) ∙ k) (sym (ap (λ (x : Fault). x.byte) e))

-- ---- there is one such place at most

first-breaks : {block : List ℕ} {c : Clause} {cs : List Clause} → FirstBroken block c cs → c.kept block ≡ true → ⊥
first-breaks (here n) = n
first-breaks (later k b) = first-breaks b

the-byte : {block : List ℕ} {c : Clause} {y : ℕ} → (c.kept block ≡ true → ⊥) → PointsAt block c y → y ≡ c.byte block
the-byte {block} b (in-integer first width k v) =
    let s = stretch first width block in
    ap (λ (x : ℕ). first + x - 1) (one-very-byte v (integer-points s (not_spared (integer s) b)))
the-byte {block} b (in-real first width k v) =
    let s = stretch first width block in
    ap (λ (x : ℕ). first + x - 1) (one-very-byte v (real-points s (not_spared (real s) b)))

pub one_place : {block : List ℕ} {cs : List Clause} {y z : ℕ} → Pointed block cs y → Pointed block cs z → y ≡ z
one_place {block} p q =
    the-byte (first-breaks p.broken) p.points
    ∙ ap (λ (c : Clause). c.byte block) (one-first p.broken q.broken)
    ∙ sym (the-byte (first-breaks q.broken) q.points)

-- ---- rules with more of them behind, or before them
broken-front : {block : List ℕ} {c : Clause} {xs : List Clause} (ys : List Clause) → FirstBroken block c xs → FirstBroken block c (xs ++ ys)
broken-front ys (here n) = here n
broken-front ys (later k b) = later k (broken-front ys b)

broken-behind : {block : List ℕ} {c : Clause} {xs ys : List Clause} → KeepsAll block xs → FirstBroken block c ys → FirstBroken block c (xs ++ ys)
broken-behind kept-none b = b
broken-behind (more k a) b = later k (broken-behind a b)

pub pointed-front : {block : List ℕ} {xs : List Clause} {y : ℕ} (ys : List Clause) → Pointed block xs y → Pointed block (xs ++ ys) y
pointed-front ys p = record { rule = p.rule; broken = broken-front ys p.broken; points = p.points }

pub pointed-behind : {block : List ℕ} {xs ys : List Clause} {y : ℕ} → KeepsAll block xs → Pointed block ys y → Pointed block (xs ++ ys) y
pointed-behind a p = record { rule = p.rule; broken = broken-behind a p.broken; points = p.points }
