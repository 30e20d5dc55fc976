-- A list of calls of `dem_deliver` behind one of `dem_open`: numbers and grid handed back as each left them.
use Rattle.std.specs.Prelude.{ℕ, cond, List, [], ◌∷◌, ◌++◌, map, ◌≡◌, eqb, ℤ}
use Rattle.session.specs.Session.{opened}
use Rattle.delivery.specs.Deliver.{answer_kind, answer_place}
use Rattle.meaning.specs.Deliveries.{Delivery}
use Rattle.slip.specs.Slip.{handed}
use Rattle.ledger.specs.Ledger.{open_kind, opened_with, delivered_to, numbers_left, grid_left}

-- what `dem_open` promises of a family and of numbers that it is lent, word for word
pub record OpenPromised (family : ℕ) (lent : List ℤ) (result : ℕ) (numbers : List ℤ) : Type 0 where
  pub tells : result ≡ open_kind lent
  pub keeps : numbers ≡ opened_with (opened family) lent

-- one call: what is delivered, the slice for the answer as lent; the result, and numbers, grid and answer as it left them
pub record DeskCall : Type 0 where
  pub sent : Delivery
  pub lent : List ℕ
  pub result : ℕ
  pub session : List ℤ
  pub grid : List ℤ
  pub answer : List ℕ

-- what `dem_deliver` promises of a call, word for word: its four equations (paper, proof Contracts, reads them off the contract)
pub record DeskPromised (numbers grid : List ℤ) (c : DeskCall) : Type 0 where
  pub tells : c.result ≡ answer_kind (delivered_to numbers c.sent.number c.sent.bytes grid).answer
  pub keeps : c.session ≡ numbers_left numbers c.sent.number c.sent.bytes grid
  pub fills : c.grid ≡ grid_left numbers c.sent.number c.sent.bytes grid
  pub hands : c.answer ≡ handed (answer_place (delivered_to numbers c.sent.number c.sent.bytes grid).answer) c.lent

-- calls one after another
pub data DeskCalls : List ℤ → List ℤ → List DeskCall → Type 0 where
  no_call : {numbers grid : List ℤ} → DeskCalls numbers grid []
  called : {numbers grid : List ℤ} {c : DeskCall} {cs : List DeskCall} → DeskPromised numbers grid c → DeskCalls c.session c.grid cs
      → DeskCalls numbers grid (c ∷ cs)

-- numbers and grid as last left
abbrev pub numbers_after : List ℤ → List DeskCall → List ℤ
numbers_after numbers [] = numbers
numbers_after numbers (c ∷ cs) = numbers_after c.session cs

abbrev pub cells_after : List ℤ → List DeskCall → List ℤ
cells_after grid [] = grid
cells_after grid (c ∷ cs) = cells_after c.grid cs

-- the taken blocks, joined: those that were answered 0
abbrev pub text_taken : List DeskCall → List ℕ
text_taken [] = []
text_taken (c ∷ cs) = cond (eqb c.result 0) c.sent.bytes [] ++ text_taken cs

abbrev pub sent_blocks : List DeskCall → List Delivery
sent_blocks cs = map (λ (c : DeskCall). c.sent) cs
