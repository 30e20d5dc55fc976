-- What is kept after a run as the code keeps it: contract of a private function.
use Rattle.std.specs.Prelude.{ℕ, cond, List, ltb, ℤ}
use Rattle.session.specs.declared.Session.{Session}
use Rattle.ledger.specs.Row.{row_kept}

-- the session's row where there are more blocks taken than before
abbrev pub taken_kept : ℕ → Session → List ℤ → List ℤ
taken_kept before after numbers = cond (ltb before after.taken) (row_kept after numbers) numbers
