-- Calls of `dem_deliver` and `dem_deliver_run`, mixed: numbers and grid handed back as each left them.
use Rattle.std.specs.Prelude.{ℕ, List, [], ◌∷◌, ◌≡◌, ℤ}
use Rattle.delivery.specs.Deliver.{answer_kind}
use Rattle.slip.specs.Slip.{handed}
use Rattle.courier.specs.Courier.{ran_to, numbers_run, grid_run, beside_run}
use Rattle.office.specs.DeskCalls.{DeskCall, DeskPromised}

-- one call of `dem_deliver_run`: number and blocks, the slice for the answer as lent; the result, and numbers, grid and answer as it left them
pub record DeskRun : Type 0 where
  pub number : ℕ
  pub blocks : List ℕ
  pub lent : List ℕ
  pub result : ℕ
  pub session : List ℤ
  pub grid : List ℤ
  pub answer : List ℕ

-- what `dem_deliver_run` promises of a call, word for word: its four equations (paper, proof Contracts, reads them off the contract)
pub record DeskRunPromised (numbers grid : List ℤ) (c : DeskRun) : Type 0 where
  pub tells : c.result ≡ answer_kind (ran_to numbers c.number c.blocks grid).answer
  pub keeps : c.session ≡ numbers_run numbers c.number c.blocks grid
  pub fills : c.grid ≡ grid_run numbers c.number c.blocks grid
  pub hands : c.answer ≡ handed (beside_run (ran_to numbers c.number c.blocks grid).answer (ran_to numbers c.number c.blocks grid).count) c.lent

pub data DeskArrival : Type 0 where
  desk_block : DeskCall → DeskArrival
  desk_run : DeskRun → DeskArrival

-- one after another
pub data DeskArrivals : List ℤ → List ℤ → List DeskArrival → Type 0 where
  none_yet : {numbers grid : List ℤ} → DeskArrivals numbers grid []
  one_more : {numbers grid : List ℤ} {c : DeskCall} {xs : List DeskArrival} → DeskPromised numbers grid c
      → DeskArrivals c.session c.grid xs → DeskArrivals numbers grid (desk_block c ∷ xs)
  run_more : {numbers grid : List ℤ} {c : DeskRun} {xs : List DeskArrival} → DeskRunPromised numbers grid c
      → DeskArrivals c.session c.grid xs → DeskArrivals numbers grid (desk_run c ∷ xs)

-- numbers and grid as last left
abbrev pub numbers_last : List ℤ → List DeskArrival → List ℤ
numbers_last numbers [] = numbers
numbers_last numbers (desk_block c ∷ xs) = numbers_last c.session xs
numbers_last numbers (desk_run c ∷ xs) = numbers_last c.session xs

abbrev pub cells_last : List ℤ → List DeskArrival → List ℤ
cells_last grid [] = grid
cells_last grid (desk_block c ∷ xs) = cells_last c.grid xs
cells_last grid (desk_run c ∷ xs) = cells_last c.grid xs
