-- A profile that opens: what its place gives the code, and the order of its last rules.
use mathlib.Core.Bool.{false, Bool, true, cond}
use mathlib.Core.Path.{◌≡◌, sym, subst}
use mathlib.Core.List.{List}
use Prim.Native.Nat.{ℕ}
use native.Mathlib.Omega.{arith}
use lib.IntN.{ℤ}
use Rattle.laws.proofs.Tests.{by-test}
use Rattle.profile.specs.declared.record_b.Head.{Head}
use Rattle.session.specs.Session.{busy, open_blocks}
use Rattle.session.specs.declared.Session.{Session}
use Rattle.ground.specs.declared.Tally.{Tally}
use Rattle.delivery.specs.Deliver.{Verdict, wrong, column_fits, column_place, row_fits, row_place, first_column, opened, placed}
use Rattle.delivery.proofs.Placed.{row_room, column-room}
use Rattle.load.specs.Steps.{Filling, Placing, Placeable, Lies}

no_blocks : (s : Session) → busy s ≡ false → open_blocks s ≡ 0
no_blocks s e = rw e

-- which of a first block's three ways is gone
module _ (s : Session) (number : ℕ) (h : Head) (v : Verdict) where
  abbrev place_by : Bool → Bool → Verdict
  place_by east north = cond east (cond north v (wrong 10 number 49)) (wrong 10 number 25)

  pub place-column : column_fits s (column_place s h) ≡ false → wrong 10 number 25 ≡ placed s number h v
  place-column p = λ j. place_by (sym p j) (row_fits s h.posts (row_place s h))

  pub place-row : column_fits s (column_place s h) ≡ true → row_fits s h.posts (row_place s h) ≡ false
      → wrong 10 number 49 ≡ placed s number h v
  place-row p q = λ j. place_by (sym p j) (sym q j)

  pub place-good : column_fits s (column_place s h) ≡ true → row_fits s h.posts (row_place s h) ≡ true → v ≡ placed s number h v
  place-good p q = λ j. place_by (sym p j) (sym q j)

  pub placed-lies : (cells : ℕ) (scratch : List ℤ)
      → (column_fits s (column_place s h) ≡ true → row_fits s h.posts (row_place s h) ≡ true → Lies cells scratch v)
      → Lies cells scratch (placed s number h v)
  placed-lies cells scratch k =
      by-test (column_fits s (column_place s h))
      (λ p. by-test (row_fits s h.posts (row_place s h)) (λ q. subst (Lies cells scratch) (place-good p q) (k p q)) (λ q. subst (Lies cells scratch) (place-row p q) tt))
      (λ p. subst (Lies cells scratch) (place-column p) tt)

module _ (s : Session) (number : ℕ) (h : Head) (n : ℕ) (u : Tally) (sum : ℤ) (k : Placeable s number h n u sum) where
  pub opened-filling : Filling s (opened s h) n u sum
  opened-filling =
      record {
        ready = k.ready;
        count = k.count;
        sum-most = k.sum-most;
        read-most = omega (arith, k.within);
        posts-most = k.posts-most;
        filled-most = omega arith;
      }

  pub opened-placing : column_fits s (column_place s h) ≡ true → row_fits s h.posts (row_place s h) ≡ true
      → Placing s number (first_column s h) (opened s h)
  opened-placing c r =
      record {
        taken_is = k.taken_is;
        column-room = column-room s (column_place s h) k.ready.column_fits c;
        not_last = k.not_last;
        row_room = row_room s h.posts (row_place s h) r;
        blocks = omega (arith, no_blocks s k.idle);
      }
