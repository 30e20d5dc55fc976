-- Calls of `dem_deliver_run`, alone or mixed with `dem_deliver`, are calls of `deliver_run` and `deliver`: the numbers say the session as last
-- returned.
use mathlib.Core.Bool.{false}
use mathlib.Core.List.{List, [], ◌∷◌}
use mathlib.Core.Path.{◌≡◌, refl, sym, ◌∙◌, ap, subst}
use lib.Dec.{ltb}
use lib.IntN.{ℤ}
use lib.ListN.{drop}
use Rattle.laws.proofs.Tests.{by-test}
use Rattle.session.specs.declared.Session.{Session}
use Rattle.delivery.specs.Deliver.{lend}
use Rattle.runs.specs.Run.{ran_of}
use Rattle.runs.proofs.RunLaws.{none-taken}
use Rattle.arrivals.specs.Arrivals.{RunCall, RunPromised, Arrival, single, several, Arrivals, none_yet, one_more, run_more, session_last, grid_last}
use Rattle.ledger.specs.Numbers.{kept, session_numbers}
use Rattle.ledger.specs.Ledger.{session_said}
use Rattle.ledger.proofs.Inverse.{said-back}
use Rattle.courier.specs.Courier.{ran_to}
use Rattle.office.specs.DeskArrivals.{DeskRun, DeskRunPromised, DeskArrival, desk_block, desk_run, DeskArrivals, none_yet as no_desk_yet, one_more as one_desk_more, run_more as run_desk_more, numbers_last, cells_last}
use Rattle.office.proofs.AsCalls.{as_call, as-promised, call-says, call-keeps}

-- ---- one run

abbrev pub as_run : List ℤ → List ℤ → DeskRun → RunCall
as_run numbers grid c =
    record { number = c.number; blocks = c.blocks; returned = ran_of (ran_to numbers c.number c.blocks grid); left = lend c.grid }

pub as-run-promised : {numbers grid : List ℤ} {c : DeskRun} → DeskRunPromised numbers grid c
    → RunPromised (session_said numbers) (lend grid) (as_run numbers grid c)
as-run-promised p = record { answers = refl; fills = p.fills }

module _ {numbers grid : List ℤ} {c : DeskRun} (p : DeskRunPromised numbers grid c) where
  abbrev s : Session
  s = session_said numbers

  abbrev after : Session
  after = (ran_to numbers c.number c.blocks grid).session

  -- where no block was taken the session is as it was
  still : ltb s.taken after.taken ≡ false → after ≡ s
  still e = none-taken s c.number c.blocks (lend grid) e

  pub run-says : session_said c.session ≡ after
  run-says =
      ap session_said p.keeps
      ∙ by-test (ltb s.taken after.taken) (λ e. rw e (said-back after (drop session_numbers numbers))) (λ e. rw e (sym (still e)))

  pub run-keeps : (base : List ℤ) → numbers ≡ kept s base → c.session ≡ kept (session_said c.session) base
  run-keeps base k =
      p.keeps
      ∙ by-test (ltb s.taken after.taken) (λ e. rw e (ap (λ (l : List ℤ). kept after l) k))
      (λ e. rw e (k ∙ ap (λ (x : Session). kept x base) (sym (still e))))
      ∙ ap (λ (x : Session). kept x base) (sym run-says)

-- ---- one after another

abbrev pub as_arrivals : List ℤ → List ℤ → List DeskArrival → List Arrival
as_arrivals numbers grid [] = []
as_arrivals numbers grid (desk_block c ∷ xs) = single (as_call numbers grid c) ∷ as_arrivals c.session c.grid xs
as_arrivals numbers grid (desk_run c ∷ xs) = several (as_run numbers grid c) ∷ as_arrivals c.session c.grid xs

pub as-arrivals : {numbers grid : List ℤ} {xs : List DeskArrival} → DeskArrivals numbers grid xs
    → Arrivals (session_said numbers) (lend grid) (as_arrivals numbers grid xs)
as-arrivals no_desk_yet = none_yet
as-arrivals (one_desk_more {numbers} {grid} {c} {xs} p rest) =
    one_more (as-promised p)
    (subst (λ (x : Session). Arrivals x (lend c.grid) (as_arrivals c.session c.grid xs)) (call-says p) (as-arrivals rest))
as-arrivals (run_desk_more {numbers} {grid} {c} {xs} p rest) =
    run_more (as-run-promised p)
    (subst (λ (x : Session). Arrivals x (lend c.grid) (as_arrivals c.session c.grid xs)) (run-says p) (as-arrivals rest))

pub cells-last : (numbers grid : List ℤ) (xs : List DeskArrival) → grid_last grid (as_arrivals numbers grid xs) ≡ cells_last grid xs
cells-last numbers grid [] = refl
cells-last numbers grid (desk_block c ∷ xs) = cells-last c.session c.grid xs
cells-last numbers grid (desk_run c ∷ xs) = cells-last c.session c.grid xs

pub numbers-last : {numbers grid : List ℤ} {xs : List DeskArrival} (base : List ℤ) → DeskArrivals numbers grid xs
    → numbers ≡ kept (session_said numbers) base
    → numbers_last numbers xs ≡ kept (session_last (session_said numbers) (as_arrivals numbers grid xs)) base
numbers-last base no_desk_yet e = e
numbers-last base (one_desk_more {numbers} {grid} {c} {xs} p rest) e =
    numbers-last base rest (call-keeps p base e)
    ∙ ap (λ (x : Session). kept (session_last x (as_arrivals c.session c.grid xs)) base) (call-says p)
numbers-last base (run_desk_more {numbers} {grid} {c} {xs} p rest) e =
    numbers-last base rest (run-keeps p base e)
    ∙ ap (λ (x : Session). kept (session_last x (as_arrivals c.session c.grid xs)) base) (run-says p)
