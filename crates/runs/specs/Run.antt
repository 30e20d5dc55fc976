-- Document 02, request 3, "Several blocks in one call": single deliveries in order, up to the first refusal.
use Rattle.std.specs.Prelude.{Bool, cond, true, false, List, ℕ, zero, suc, ◌+◌, ◌%◌, eqb, length}
use Rattle.ground.specs.Blocks.{block_at, blocks_in}
use Rattle.session.specs.declared.Session.{Session}
use Rattle.delivery.specs.declared.Answer.{Answer}
use Rattle.delivery.specs.declared.Answer.TheVariants.{Taken, Held, Refused}
use Rattle.delivery.specs.Deliver.{Lent, deliver_of, lent_after}
use Rattle.runs.specs.declared.Ran.{Ran}

-- where a run stands: the answer so far, the session, what is lent, and how many blocks were taken or held
pub record Running : Type 0 where
  pub answer : Answer
  pub session : Session
  pub lent : Lent
  pub count : ℕ

abbrev pub running : Answer → Session → Lent → ℕ → Running
running answer s lent count = record { answer = answer; session = s; lent = lent; count = count }

-- "An empty run answers held and zero": so does every run before its first block
abbrev pub set_out : Session → Lent → Running
set_out s lent = running Held s lent 0

abbrev pub is_refused : Answer → Bool
is_refused Taken = false
is_refused Held = false
is_refused (Refused kind block byte) = true

-- "how many were taken or held": a refused block is not counted
abbrev pub counted : Answer → ℕ → ℕ
counted Taken n = n + 1
counted Held n = n + 1
counted (Refused kind block byte) n = n

-- the next block, a single delivery to the session and what is lent as the one before left them
abbrev pub with_block : Running → ℕ → List ℕ → Running
with_block r number block =
    running (deliver_of r.session number block r.lent).answer (deliver_of r.session number block r.lent).session
    (lent_after r.session number block r.lent)
    (counted (deliver_of r.session number block r.lent).answer r.count)

-- "stop at the first refusal"
abbrev pub go_on : Running → ℕ → List ℕ → Running
go_on r number block = cond (is_refused r.answer) r (with_block r number block)

-- a run's first n blocks, numbered from the number given on
unfoldable pub run_to : Session → ℕ → List ℕ → Lent → ℕ → Running
run_to s number blocks lent zero = set_out s lent
run_to s number blocks lent (suc n) = go_on (run_to s number blocks lent n) (number + n) (block_at blocks n)

-- a length that is no multiple of 1,024 is kind 1 at byte 0, "before all else"
abbrev pub run_of : Session → ℕ → List ℕ → Lent → Running
run_of s number blocks lent =
    cond (eqb (length blocks % 1024) 0) (run_to s number blocks lent (blocks_in blocks)) (running (Refused 1 number 0) s lent 0)

-- what a call returns of it
abbrev pub ran_of : Running → Ran
ran_of r = record { answer = r.answer; session = r.session; count = r.count }
