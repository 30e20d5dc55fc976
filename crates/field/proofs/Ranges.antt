-- Numbers in their limits, and readings that their limits let pass.
use mathlib.Core.Bool.{true, false, Bool}
use mathlib.Core.Path.{◌≡◌, refl, sym}
use native.Mathlib.Omega.{arith}
use borrow.Author.Tests.{ltb-true, leb-true, eqb-false}
use lib.IntN.{ℤ, pos, negsuc}
use lib.Signed.{lt_z}
use lib.Dec.{eqb, leb}
use Prim.Native.Nat.{ℕ, ◌≤◌}
use Rattle.laws.specs.Family.{is_canadian}
use Rattle.laws.specs.Sign.{not_negative}
use Rattle.laws.proofs.Tests.{clash, by-test, either, split, and_first}
use Rattle.number.specs.declared.Reading.{Reading}
use Rattle.field.specs.Field.{limits, posts_limits, in_limits, in_range, ranged}
use Rattle.field.specs.declared.Limits.{Limits}

pub below-limits : (l : Limits) (z : ℤ) → lt_z z (pos 0) ≡ true → in_limits l z ≡ false
below-limits l (pos n) t = absurd (omega (arith, ltb-true n 0 t))
below-limits l (negsuc n) t = refl

pub above-limits : (l : Limits) (z : ℤ) → lt_z z (pos 0) ≡ false → in_range l (not_negative z) ≡ in_limits l z
above-limits l (pos n) t = refl
above-limits l (negsuc n) t = clash t

-- a reading that its limits let pass is the reading itself
pub ranged-value : (l : Limits) (r : Reading) → (l.kind ≡ 0 → ⊥) → (ranged l r).kind ≡ 0 → (ranged l r).value ≡ r.value
ranged-value l r n z = go (eqb r.kind 0) refl (in_limits l r.value) refl
  where
    go : (b : Bool) → eqb r.kind 0 ≡ b → (c : Bool) → in_limits l r.value ≡ c → (ranged l r).value ≡ r.value
    go true e true f = rw (e, f)
    go true e false f = absurd (n (rw (e, f) at z))
    go false e c f = rw e

-- limits that go by another field have one kind
abbrev pub HasKind : ℕ → Limits → Type 0
HasKind k l = l.kind ≡ k

in-range : (l : Limits) (z : ℤ) → in_limits l z ≡ true → in_range l (not_negative z) ≡ true
in-range l (pos v) t = t
in-range l (negsuc v) t = clash (sym t)

-- a field read within its limits
pub range-read : (l : Limits) (r : Reading) → (l.kind ≡ 0 → ⊥) → (ranged l r).kind ≡ 0 → in_range l (not_negative r.value) ≡ true
range-read l r n z =
    by-test (eqb r.kind 0)
    (λ e. by-test (in_limits l r.value) (in-range l r.value) (λ i. absurd (n (rw (e, i) at z))))
    (λ e. absurd (eqb-false r.kind 0 e (rw e at z)))

-- a number in limits stands between their ends
pub range-ends : (l : Limits) (v : ℕ) → in_range l v ≡ true → (l.least ≤ v) × (v ≤ l.greatest)
range-ends l v t =
    let a = split (leb l.least v) _ t in
    (leb-true l.least v a.0, leb-true v l.greatest (and_first (leb v l.greatest) _ a.1))

-- the posts of either family are 1 to 2,048, and refused as 7
pub posts-few : (family v : ℕ) → in_range (posts_limits family) v ≡ true → (1 ≤ v) × (v ≤ 2048)
posts-few family v =
    either (λ l. in_range l v ≡ true → (1 ≤ v) × (v ≤ 2048)) (is_canadian family)
    (λ t.
    let e = range-ends (limits 1201 1201 1 7) v t in
    (omega (arith, e.0), omega (arith, e.1)))
    (range-ends (limits 1 2048 1 7) v)

pub posts-kind : (family : ℕ) → HasKind 7 (posts_limits family)
posts-kind family = either (HasKind 7) (is_canadian family) refl refl
