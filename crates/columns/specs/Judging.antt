-- The verdict on a template and grid, by what stands against them.
use Rattle.std.specs.Prelude.{ℕ, cond, eqb, Result, Ok, Err}
use Rattle.frame.specs.declared.Header.{Header}
use Rattle.written.specs.Sending.{Objection}
use Rattle.written.specs.declared.Refused.{Refused}
use Rattle.kinds.specs.Kinds.{number_of}

pub data Judged : Type 0 where
  Good : Header → Judged
  Bad : ℕ → ℕ → Judged

abbrev pub judged_by : Header → Objection → Judged
judged_by h f = cond (eqb f.kind 0) (Judged.Good h) (Judged.Bad f.kind f.number)

-- and as the code answers it
abbrev pub judged_told : Result Header Refused → Judged
judged_told (Ok h) = Judged.Good h
judged_told (Err r) = Judged.Bad (number_of r.kind) r.number
