-- Document 02, request 3, and demand 3: what arrives, single blocks and runs mixed, and the single deliveries that it comes to.
use Rattle.std.specs.Prelude.{cond, List, [], ◌∷◌, ◌++◌, ◌≡◌, ℕ, zero, suc, ◌+◌, ◌%◌, eqb, ℤ, length}
use Rattle.ground.specs.Blocks.{block_at, blocks_in}
use Rattle.session.specs.declared.Session.{Session}
use Rattle.session.specs.Session.{opened}
use Rattle.delivery.specs.Deliver.{Lent, lend, deliver_of, lent_after}
use Rattle.runs.specs.declared.Ran.{Ran}
use Rattle.runs.specs.Run.{Running, is_refused, run_to, run_of, ran_of}
use Rattle.meaning.specs.Deliveries.{Delivery, Call, Promised}

-- ---- what arrives

-- one call of `deliver_run`: what was given, what it returned, and what was lent, as it left it
pub record RunCall : Type 0 where
  pub number : ℕ
  pub blocks : List ℕ
  pub returned : Ran
  pub left : Lent

-- what `load::deliver_run` promises of a call, word for word (paper, proof Contracts, reads it off the contract)
pub record RunPromised (s : Session) (lent : Lent) (c : RunCall) : Type 0 where
  pub answers : c.returned ≡ ran_of (run_of s c.number c.blocks lent)
  pub fills : c.left.grid ≡ (run_of s c.number c.blocks lent).lent.grid

pub data Arrival : Type 0 where
  single : Call → Arrival
  several : RunCall → Arrival

-- calls of the two, one after another, each handed what the one before it returned and left
pub data Arrivals : Session → Lent → List Arrival → Type 0 where
  none_yet : {s : Session} {lent : Lent} → Arrivals s lent []
  one_more : {s : Session} {lent : Lent} {c : Call} {xs : List Arrival} → Promised s lent c
      → Arrivals c.returned.session c.left xs → Arrivals s lent (single c ∷ xs)
  run_more : {s : Session} {lent : Lent} {c : RunCall} {xs : List Arrival} → RunPromised s lent c
      → Arrivals c.returned.session c.left xs → Arrivals s lent (several c ∷ xs)

-- a fresh session of a family, and a grid as it is lent
abbrev pub FreshArrivals : ℕ → List ℤ → List Arrival → Type 0
FreshArrivals family grid xs = Arrivals (opened family) (lend grid) xs

-- the session as last returned, and the grid as last left
abbrev pub session_last : Session → List Arrival → Session
session_last s [] = s
session_last s (single c ∷ xs) = session_last c.returned.session xs
session_last s (several c ∷ xs) = session_last c.returned.session xs

abbrev pub grid_last : List ℤ → List Arrival → List ℤ
grid_last grid [] = grid
grid_last grid (single c ∷ xs) = grid_last c.left.grid xs
grid_last grid (several c ∷ xs) = grid_last c.left.grid xs

-- ---- the single deliveries behind a run: each of its blocks under its own number, up to the first refusal

abbrev pub call_of : Running → ℕ → List ℕ → Call
call_of r number block =
    record {
      sent = record { number = number; bytes = block };
      returned = deliver_of r.session number block r.lent;
      left = lent_after r.session number block r.lent;
    }

abbrev pub calls_to : Session → ℕ → List ℕ → Lent → ℕ → List Call
calls_to s number blocks lent zero = []
calls_to s number blocks lent (suc n) =
    calls_to s number blocks lent n
    ++ cond (is_refused (run_to s number blocks lent n).answer) [] (call_of (run_to s number blocks lent n) (number + n) (block_at blocks n) ∷ [])

-- a slice that is not whole blocks comes to none
abbrev pub run_calls : Session → Lent → RunCall → List Call
run_calls s lent c =
    cond (eqb (length c.blocks % 1024) 0) (calls_to s c.number c.blocks lent (blocks_in c.blocks)) []

abbrev pub singles : Session → Lent → List Arrival → List Call
singles s lent [] = []
singles s lent (single c ∷ xs) = c ∷ singles c.returned.session c.left xs
singles s lent (several c ∷ xs) = run_calls s lent c ++ singles c.returned.session c.left xs

-- a run's first n blocks as deliveries
abbrev pub sent_to : ℕ → List ℕ → ℕ → List Delivery
sent_to number blocks zero = []
sent_to number blocks (suc n) = sent_to number blocks n ++ (record { number = number + n; bytes = block_at blocks n } ∷ [])

-- how many blocks of a run were looked at: those counted, and the refused one
abbrev pub looked_at : Running → ℕ
looked_at r = cond (is_refused r.answer) (r.count + 1) r.count
