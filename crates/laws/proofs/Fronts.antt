-- The front of an array of one value has the length asked for, as far as the array reaches.
use mathlib.Core.Path.{◌≡◌, sym, subst⁻¹}
use Prim.Native.Nat.{ℕ, ◌≤◌}
use lib.ListN.{length, take, replicate, length-replicate}
use lib.Seq.{length-take-le}

pub front_of : {A : Type 0} (n k : ℕ) (x : A) → n ≤ k → n ≡ length (take n (replicate k x))
front_of n k x h = sym (length-take-le n (replicate k x) (subst⁻¹ (λ (j : ℕ). n ≤ j) (length-replicate k x) h))
