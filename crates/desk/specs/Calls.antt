-- What the C calls answer, as numbers.
use Rattle.std.specs.Prelude.{ℕ, Bool, cond, List, [], ◌∷◌}
use Rattle.frame.specs.Frame.{columns_of, rows_of}
use Rattle.sheet.specs.RecordA.{Checked}
use Rattle.sheet.specs.RecordA.Checked.{Sheet, Refused}
use Rattle.written.specs.Sending.{Sent}
use Rattle.written.specs.Sending.{sent_number}

-- "1 or 0"
abbrev pub one_if : Bool → ℕ
one_if b = cond b 1 0

-- the columns and rows of a record A, 0 where it is refused
abbrev pub columns_checked : Checked → ℕ
columns_checked (Sheet h) = columns_of h
columns_checked (Refused kind byte) = 0

abbrev pub rows_checked : Checked → ℕ
rows_checked (Sheet h) = rows_of h
rows_checked (Refused kind byte) = 0

-- beside the writer's kind: document 01's one number
abbrev pub sent_beside : Sent → List ℕ
sent_beside sent = sent_number sent ∷ []
