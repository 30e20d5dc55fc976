-- A running tally of heights is the count of the filled ones, and their least and greatest. Merging tallies carries it.
use mathlib.Core.List.{List, [], ◌∷◌, ◌++◌}
use mathlib.Core.Path.{◌≡◌, refl, ◌∙◌, ap, sym}
use native.Mathlib.Omega.{arith}
use lib.IntN.{ℤ, pos, ◌*ℤ◌}
use lib.ListN.{length}
use mathlib.Core.Bool.{false}
use Prim.Native.Nat.{ℕ, ◌+◌}
use borrow.Author.Tests.{ne_eqb}
use lib.Dec.{eqb}
use Rattle.laws.specs.Sign.{same_z}
use Rattle.laws.proofs.Tests.{by-test}
use Rattle.ground.specs.Posts.{void, filled_in, merged, tally_all, no_tally}
use Rattle.ground.specs.Extremes.{filled_only, least_of, greatest_of, least_stated, greatest_stated}
use Rattle.ground.proofs.MergedTallies.{tally-merged}
use Rattle.ground.proofs.Tallies.{tally-append}
use Rattle.delivery.specs.Deliver.{stated}

pub filled-only : (hs : List ℤ) → filled_in hs ≡ length (filled_only hs)
filled-only [] = refl
filled-only (h ∷ hs) =
    by-test (same_z h void) (λ e. rw e (omega (arith, filled-only hs))) (λ e. rw e (omega (arith, filled-only hs)))

one_more : (h : ℤ) (n : ℕ) (fs : List ℤ) → n ≡ length fs
    → merged (record { filled = 1; low = h; high = h }) (record { filled = n; low = least_of fs; high = greatest_of fs })
    ≡ record { filled = 1 + n; low = least_of (h ∷ fs); high = greatest_of (h ∷ fs) }
one_more h n [] e = rw e
one_more h n (g ∷ fs) e = let z : eqb n 0 ≡ false = ne_eqb n 0 (λ k. omega (arith, k, e)) in rw z

pub counted : (hs : List ℤ)
    → tally_all no_tally hs
    ≡ record { filled = filled_in hs; low = least_of (filled_only hs); high = greatest_of (filled_only hs) }
counted [] = refl
counted (h ∷ hs) =
    by-test (same_z h void) (λ e. let z : 0 + filled_in hs ≡ filled_in hs = omega arith in rw (e, z) (counted hs))
    (λ e.
    rw e
    (tally-merged (record { filled = 1; low = h; high = h }) hs
    ∙ ap (merged (record { filled = 1; low = h; high = h })) (counted hs)
    ∙ one_more h (filled_in hs) (filled_only hs) (filled-only hs)))

-- heights counted on from a tally of those before
pub counted-on : (hs new : List ℤ)
    → tally_all (record { filled = filled_in hs; low = least_of (filled_only hs); high = greatest_of (filled_only hs) }) new
    ≡ record { filled = filled_in (hs ++ new); low = least_of (filled_only (hs ++ new)); high = greatest_of (filled_only (hs ++ new)) }
counted-on hs new =
    ap (λ t. tally_all t new) (sym (counted hs)) ∙ sym (tally-append no_tally hs new) ∙ counted (hs ++ new)

-- "or zero if there are none"
stated-by : (n : ℕ) (fs : List ℤ) (extreme : List ℤ → ℤ) → extreme [] ≡ pos 0 → n ≡ length fs
    → stated n (extreme fs) ≡ extreme fs *ℤ pos 10000000
stated-by n [] extreme z e = rw (e, z)
stated-by n (f ∷ fs) extreme z e = let k : eqb n 0 ≡ false = ne_eqb n 0 (λ q. omega (arith, q, e)) in rw k

pub stated-least : (hs : List ℤ) → stated (filled_in hs) (least_of (filled_only hs)) ≡ least_stated hs
stated-least hs = stated-by (filled_in hs) (filled_only hs) least_of refl (filled-only hs)

pub stated-greatest : (hs : List ℤ) → stated (filled_in hs) (greatest_of (filled_only hs)) ≡ greatest_stated hs
stated-greatest hs = stated-by (filled_in hs) (filled_only hs) greatest_of refl (filled-only hs)
