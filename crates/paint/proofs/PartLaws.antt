-- The cells that a block lends: as many as there are, and no more than it has room for.
use mathlib.Core.List.{List}
use mathlib.Core.Path.{◌≡◌, sym, ◌∙◌, ap}
use Prim.Native.Nat.{ℕ, min}
use native.Mathlib.Omega.{arith}
use borrow.Author.Tests.{leb-true, leb-false}
use lib.Dec.{leb}
use lib.IntN.{ℤ}
use lib.ListN.{length, take}
use lib.Seq.{take_all}
use Rattle.laws.proofs.Tests.{by-test}

pub take-fewer : (most n : ℕ) (l : List ℤ) → n ≡ min (length l) most → take n l ≡ take most l
take-fewer most n l e =
    by-test (leb (length l) most)
    (λ t.
    let h = leb-true (length l) most t in
    take_all n l (omega (arith, e, h)) ∙ sym (take_all most l h))
    (λ t.
    let h = leb-false (length l) most t in
    let m : n ≡ most = omega (arith, e, h) in
    ap (λ (k : ℕ). take k l) m)
