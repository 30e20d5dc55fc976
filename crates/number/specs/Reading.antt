-- Document 01, "Number fields": what a field comes to, read alone, in the paper's numbers; and the same as the code answers it.
use Rattle.std.specs.Prelude.{ℕ, ℤ, pos, Result, Ok, Err}
use Rattle.kinds.specs.declared.Kind.{Kind}
use Rattle.kinds.specs.Kinds.{number_of}
use Rattle.number.specs.declared.Reading.{Reading}
use Rattle.number.specs.declared.Unread.{Unread}

-- "A refused reading gives its kind and the value 0."
abbrev pub said : Result ℤ Unread → Reading
said (Ok z) = record { kind = 0; value = z; byte = 0 }
said (Err u) = record { kind = number_of u.kind; value = pos 0; byte = u.byte }

-- a kind that is told at the field's first byte
abbrev pub unread : Kind → Unread
unread k = record { kind = k; byte = 0 }
