-- Heights added up one behind the other: what was passed and what is left are the whole.
use mathlib.Core.List.{List, ◌∷◌}
use mathlib.Core.Path.{◌≡◌, sym, ◌∙◌, ap}
use Prim.Native.Nat.{ℕ, ◌+◌, ◌*◌, ◌^◌, ◌≤◌, ◌<◌}
use native.Mathlib.Numerals.{add-one}
use native.Mathlib.Omega.{arith}
use lib.IntN.{ℤ, pos, nat_abs, ◌+ℤ◌, +ℤ_idl, +ℤ_assoc}
use lib.ListN.{length, drop, get_or}
use lib.Seq.{drop-cons}
use Rattle.laws.specs.Sign.{same_z}
use Rattle.laws.proofs.Integers.{size-sum}
use Rattle.laws.proofs.Tests.{by-test}
use Rattle.ground.specs.Posts.{void}
use Rattle.ground.specs.Extremes.{filled_only, sum_of}
use Rattle.posts.specs.Steps.{share}

-- ---- one height

share-first : (h : ℤ) (hs : List ℤ) → sum_of (filled_only (h ∷ hs)) ≡ share h +ℤ sum_of (filled_only hs)
share-first h hs = by-test (same_z h void) (λ e. rw e (sym (+ℤ_idl (sum_of (filled_only hs))))) (λ e. rw e)

share-most : (h : ℤ) → nat_abs (share h) ≤ nat_abs h
share-most h = by-test (same_z h void) (λ e. rw e (omega arith)) (λ e. rw e (omega arith))

-- ---- one behind the other

-- i values were passed
pub record Adding (values : List ℤ) (sum : ℤ) (i : ℕ) : Type 0 where
  pub within : i ≤ length values
  pub whole : sum +ℤ sum_of (filled_only (drop i values)) ≡ sum_of (filled_only values)
  pub most : nat_abs sum ≤ 2 ^ 31 * i

module _ {values : List ℤ} {sum : ℤ} {i : ℕ} (p : Adding values sum i) where
  pub adding-turn : i < length values → (h : ℤ) → h ≡ get_or values i (pos 0) → nat_abs h ≤ 2 ^ 31 → Adding values (sum +ℤ share h) (i + 1)
  adding-turn lt h e few =
      let rest = sum_of (filled_only (drop (i + 1) values)) in
      let next : drop i values ≡ h ∷ drop (i + 1) values =
      drop-cons values i (pos 0) lt ∙ (λ j. sym e j ∷ drop (sym (add-one i) j) values)
      in
      record {
        within = omega (arith, lt);
        whole =
            +ℤ_assoc sum (share h) rest
            ∙ ap (λ (z : ℤ). sum +ℤ z) (sym (ap (λ (l : List ℤ). sum_of (filled_only l)) next ∙ share-first h (drop (i + 1) values)))
            ∙ p.whole;
        most = omega (arith, p.most, few, share-most h, size-sum sum (share h));
      }
