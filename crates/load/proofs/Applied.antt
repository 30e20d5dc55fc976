-- What was judged, done: it tells and writes what the definition says.
use mathlib.Core.List.{List}
use mathlib.Core.Path.{◌≡◌, refl, ◌∙◌, ap}
use Prim.Native.Nat.{ℕ, ◌+◌}
use native.Mathlib.Omega.{arith}
use borrow.Author.Tests.{le-leb}
use lib.IntN.{ℤ}
use lib.ListN.{length, length-take}
use lib.Seq.{sets}
use Rattle.laws.proofs.Tests.{and_both}
use Rattle.frame.specs.Frame.{cells_of}
use Rattle.session.specs.declared.Session.{Session}
use Rattle.posts.specs.Scan.{voided, placed}
use Rattle.delivery.specs.Deliver.{Verdict, lend, again, wrong, begins, fills, lent_by, answer_of, verdict_of, deliver_of, lent_after}
use Rattle.delivery.specs.declared.Delivered.{Delivered}
use Rattle.gate.specs.Gate.{room, judged_of}
use Rattle.gate.specs.declared.verdict.Judged.{Judged}
use Rattle.load.specs.Steps.{told, grid_by, Lies, Judging}

told_is : (s : Session) (v : Verdict) → told (judged_of s v) ≡ answer_of s v
told_is s again = refl
told_is s (wrong kind block byte) = refl
told_is s (begins h) = refl
told_is s (fills after at hs) = refl

none-void : (grid : List ℤ) → voided 0 grid ≡ grid
none-void grid = rw (le-leb 0 (length grid) (omega arith))

none-placed : (scratch grid : List ℤ) → placed 0 0 scratch grid ≡ grid
none-placed scratch grid = rw (le-leb 0 (length grid) (omega arith), le-leb 0 (length scratch) (omega arith))

grid-is : (s : Session) (v : Verdict) (scratch grid : List ℤ) → Lies (length grid) scratch v
    → grid_by scratch (judged_of s v) grid ≡ (lent_by (lend grid) v).grid
grid-is s again scratch grid k = none-placed scratch (voided 0 grid) ∙ none-void grid
grid-is s (wrong kind block byte) scratch grid k = none-placed scratch (voided 0 grid) ∙ none-void grid
grid-is s (begins h) scratch grid k = none-placed scratch (voided (cells_of h) grid) ∙ rw (le-leb (cells_of h) (length grid) k)
grid-is s (fills after at hs) scratch grid k =
    let n = length hs in
    let fits = and_both (le-leb (at + n) (length grid) k.0) (le-leb n (length scratch) (omega (arith, ap length k.1, length-take n scratch))) in
    ap (placed at n scratch) (none-void grid) ∙ rw fits (ap (sets grid at) k.1)

pub delivered : (s : Session) (number : ℕ) (block : List ℕ) (scratch grid after : List ℤ) (j : Judged) (r : Delivered)
    → Judging s (verdict_of s number block (room (length grid))) (length grid) scratch j
    → (r ≡ told j) × (after ≡ grid_by scratch j grid)
    → (r ≡ deliver_of s number block (lend grid)) × (after ≡ (lent_after s number block (lend grid)).grid)
delivered s number block scratch grid after j r k d =
    let v = verdict_of s number block (room (length grid)) in (
      d.0 ∙ ap told k.judged-is ∙ told_is s v,
      d.1 ∙ ap (λ x. grid_by scratch x grid) k.judged-is ∙ grid-is s v scratch grid k.lies,
    )
