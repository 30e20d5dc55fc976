-- Document 02, request 3, in C: a run of blocks to the session that numbers say.
use Rattle.std.specs.Prelude.{ℕ, cond, List, [], ◌∷◌, ◌++◌, ltb, ℤ}
use Rattle.delivery.specs.declared.Answer.{Answer}
use Rattle.delivery.specs.Deliver.{lend, answer_place}
use Rattle.runs.specs.Run.{Running, run_of}
use Rattle.ledger.specs.Numbers.{kept}
use Rattle.ledger.specs.Ledger.{session_said}

abbrev pub ran_to : List ℤ → ℕ → List ℕ → List ℤ → Running
ran_to numbers number blocks grid = run_of (session_said numbers) number blocks (lend grid)

-- the numbers of the session after it, where a block of it was taken; else as they were
abbrev pub numbers_run : List ℤ → ℕ → List ℕ → List ℤ → List ℤ
numbers_run numbers number blocks grid =
    cond (ltb (session_said numbers).taken (ran_to numbers number blocks grid).session.taken)
    (kept (ran_to numbers number blocks grid).session numbers)
    numbers

-- the grid it leaves
abbrev pub grid_run : List ℤ → ℕ → List ℕ → List ℤ → List ℤ
grid_run numbers number blocks grid = (ran_to numbers number blocks grid).lent.grid

-- beside the result: block and byte of the refusal, and "how many were taken or held before that"
abbrev pub beside_run : Answer → ℕ → List ℕ
beside_run answer count = answer_place answer ++ (count ∷ [])
