-- Any list of rules: a block keeps all or breaks one first, and the fault of the first broken one says which.
use mathlib.Core.Bool.{Bool, not, true, cond}
use mathlib.Core.List.{List, [], ◌∷◌, ◌++◌}
use mathlib.Core.Logic.{◌⊎◌, inl, inr, ◌↔◌}
use mathlib.Core.Path.{◌≡◌, sym, ◌∙◌, refl, ap}
use Prim.Native.Nat.{ℕ}
use borrow.Author.Tests.{eqb-false, not-true}
use lib.Dec.{eqb}
use Rattle.laws.proofs.Tests.{clash, by-test, and_first, and_second}
use Rattle.laws.proofs.Tables.{all}
use Rattle.field.specs.declared.Fault.{Fault}
use Rattle.field.specs.Field.{fault}
use Rattle.field.specs.Rules.{Clause, KeepsAll, FirstBroken}
use Rattle.field.specs.Rules.KeepsAll.{none, more}
use Rattle.field.specs.Rules.FirstBroken.{here, later}

-- the fault of the first broken rule, and f where all are kept
abbrev pub broken_or : List ℕ → List Clause → Fault → Fault
broken_or block [] f = f
broken_or block (c ∷ cs) f = cond (c.kept block) (broken_or block cs f) (fault c.kind (c.byte block))

pub first-append : (block : List ℕ) (xs ys : List Clause) (f : Fault)
    → broken_or block (xs ++ ys) f ≡ broken_or block xs (broken_or block ys f)
first-append block [] ys f = refl
first-append block (c ∷ xs) ys f = rw (first-append block xs ys f)

-- every rule has a kind
abbrev pub nonzero : ℕ → Bool
nonzero k = not (eqb k 0)

abbrev pub named : Clause → Bool
named c = nonzero c.kind

pub kept-or-broken : (block : List ℕ) (cs : List Clause) → KeepsAll block cs ⊎ ((c : Clause) × FirstBroken block c cs)
kept-or-broken block [] = inl none
kept-or-broken block (c ∷ cs) =
    by-test (c.kept block) (λ e. go e (kept-or-broken block cs)) (λ e. inr (c, here (λ k. clash (sym k ∙ e))))
  where
    go : c.kept block ≡ true → KeepsAll block cs ⊎ ((d : Clause) × FirstBroken block d cs)
        → KeepsAll block (c ∷ cs) ⊎ ((d : Clause) × FirstBroken block d (c ∷ cs))
    go e (inl k) = inl (more e k)
    go e (inr b) = inr (b.0, later e b.1)

pub one-first : {block : List ℕ} {c d : Clause} {cs : List Clause} → FirstBroken block c cs → FirstBroken block d cs → c ≡ d
one-first (here n) (here m) = refl
one-first (here n) (later k b) = absurd (n k)
one-first (later k b) (here n) = absurd (n k)
one-first (later k a) (later l b) = one-first a b

pub keeps-first : {block : List ℕ} {cs : List Clause} → KeepsAll block cs → (f : Fault) → broken_or block cs f ≡ f
keeps-first none f = refl
keeps-first (more k ks) f = rw k (keeps-first ks f)

pub broken-first : {block : List ℕ} {c : Clause} {cs : List Clause} → FirstBroken block c cs → (f : Fault)
    → broken_or block cs f ≡ fault c.kind (c.byte block)
broken-first {block} {c} (here n) f = by-test (c.kept block) (λ e. absurd (n e)) (λ e. rw e)
broken-first (later k b) f = rw k (broken-first b f)

pub broken-named : {block : List ℕ} {c : Clause} {cs : List Clause} → FirstBroken block c cs → all named cs ≡ true → c.kind ≡ 0 → ⊥
broken-named {block} {c} (here {cs} n) t = eqb-false c.kind 0 (not-true _ (and_first (named c) (all named cs) t))
broken-named (later {d} {cs} k b) t = broken-named b (and_second (named d) (all named cs) t)

-- ---- a fault that is the first broken rule's
module _ (block : List ℕ) (cs : List Clause) (f : Fault) (is : f ≡ broken_or block cs (fault 0 0)) (t : all named cs ≡ true) where
  pub fault-first : (c : Clause) → FirstBroken block c cs → f ≡ fault c.kind (c.byte block)
  fault-first c b = is ∙ broken-first b (fault 0 0)

  pub fault-exactly : (f.kind ≡ 0) ↔ KeepsAll block cs
  fault-exactly = (λ z. go z (kept-or-broken block cs), λ k. ap (λ (x : Fault). x.kind) (is ∙ keeps-first k (fault 0 0)))
    where
      go : f.kind ≡ 0 → KeepsAll block cs ⊎ ((c : Clause) × FirstBroken block c cs) → KeepsAll block cs
      go z (inl k) = k
      go z (inr b) =
          absurd (broken-named b.1 t (ap (λ (x : Fault). x.kind) (sym (fault-first b.0 b.1)) ∙ z))
