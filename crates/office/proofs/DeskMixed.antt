-- Demand 3 for C where runs arrive too (02, request 3), for each family that we know: one call of `dem_open` that answered 0, and behind it any
-- list of `dem_deliver` and `dem_deliver_run`, mixed, numbers and grid handed back as last left; each keeps its promise word for word.
use Prim.Native.Nat.{ℕ}
use mathlib.Core.Bool.{true}
use mathlib.Core.List.{List}
use mathlib.Core.Path.{◌≡◌, sym, ◌∙◌, ap, subst}
use lib.IntN.{ℤ}
use lib.ListN.{drop}
use Rattle.laws.specs.Family.{known}
use Rattle.ground.specs.Blocks.{blocks_in}
use Rattle.session.specs.declared.Session.{Session}
use Rattle.delivery.specs.Deliver.{lend, answer_kind}
use Rattle.meaning.specs.Means.{session_of, grid_of}
use Rattle.arrivals.specs.Arrivals.{Arrival, Arrivals, FreshArrivals, session_last, RunPromised}
use Rattle.arrivals.proofs.MixedDemand3 as Mixed
use Rattle.slip.specs.Slip.{handed}
use Rattle.ledger.specs.Numbers.{kept, session_numbers}
use Rattle.ledger.specs.Ledger.{session_said}
use Rattle.ledger.proofs.Inverse.{said-back}
use Rattle.courier.specs.Courier.{beside_run}
use Rattle.office.specs.DeskCalls.{OpenPromised}
use Rattle.office.specs.DeskArrivals.{DeskRun, DeskRunPromised, DeskArrival, DeskArrivals, numbers_last, cells_last}
use Rattle.office.proofs.AsArrivals.{as_run, as-run-promised, as_arrivals, as-arrivals, cells-last, numbers-last}
use Rattle.office.proofs.DeskDemand3.{opened-is, opened-fresh}

module _ (family : ℕ) (ours : known family ≡ true) (room numbers lent : List ℤ) (opening : OpenPromised family room 0 numbers) (xs : List DeskArrival)
    (arrived : DeskArrivals numbers lent xs) where
  -- numbers and grid after all of it, and the calls of `deliver` and `deliver_run` behind it
  abbrev pub left : List ℤ
  left = numbers_last numbers xs

  abbrev pub grid : List ℤ
  grid = cells_last lent xs

  abbrev pub behind : List Arrival
  behind = as_arrivals numbers lent xs

  pub as-fresh : FreshArrivals family lent behind
  as-fresh = subst (λ (s : Session). Arrivals s (lend lent) behind) (opened-fresh family room numbers opening) (as-arrivals arrived)

  -- the taken blocks, joined
  abbrev pub text : List ℕ
  text = Mixed.text family ours lent behind as-fresh

  -- the numbers are those of what the taken blocks mean; what stands behind them is as lent
  pub numbers-mean : left ≡ kept (session_of family text) room
  numbers-mean =
      numbers-last room arrived
      (opened-is family room numbers opening ∙ ap (λ (s : Session). kept s room) (sym (opened-fresh family room numbers opening)))
      ∙ ap (λ (s : Session). kept (session_last s behind) room) (opened-fresh family room numbers opening)
      ∙ ap (λ (s : Session). kept s room) (Mixed.session-means family ours lent behind as-fresh)

  -- and they say that session
  pub numbers-say : session_said left ≡ session_of family text
  numbers-say = ap session_said numbers-mean ∙ said-back (session_of family text) (drop session_numbers room)

  pub grid-means : grid ≡ grid_of text lent
  grid-means = sym (cells-last numbers lent xs) ∙ Mixed.grid-means family ours lent behind as-fresh

  pub lent-until-block-0 : blocks_in text ≡ 0 → grid ≡ lent
  lent-until-block-0 none = sym (cells-last numbers lent xs) ∙ Mixed.lent-until-block-0 family ours lent behind as-fresh none

  -- the next run is one of `deliver_run` to the session and grid behind, so all that Mixed says of a run holds of it
  pub next-run : (c : DeskRun) → DeskRunPromised left grid c
      → RunPromised (Mixed.session family ours lent behind as-fresh) (lend (Mixed.grid family ours lent behind as-fresh)) (as_run left grid c)
  next-run c p =
      subst (λ (g : List ℤ). RunPromised (Mixed.session family ours lent behind as-fresh) (lend g) (as_run left grid c)) (sym (cells-last numbers lent xs))
      (subst (λ (s : Session). RunPromised s (lend grid) (as_run left grid c)) (numbers-say ∙ sym (Mixed.session-means family ours lent behind as-fresh)) (as-run-promised p))

  -- and its result, with block, byte and count beside it, is what that call returned
  pub run-told : (c : DeskRun) → DeskRunPromised left grid c
      → (c.result ≡ answer_kind (as_run left grid c).returned.answer)
      × (c.answer ≡ handed (beside_run (as_run left grid c).returned.answer (as_run left grid c).returned.count) c.lent)
  run-told c p = (p.tells, p.hands)
