-- Limits, readings and faults of document 01 as the code has them: a refusal by the name of its kind, and apart from what is good.
use Rattle.std.specs.Prelude.{ℕ, ◌+◌, ◌-◌, ℤ, cond, Result, Ok, Err}
use Rattle.kinds.specs.declared.Kind.{Kind}
use Rattle.kinds.specs.Kinds.{number_of}
use Rattle.number.specs.declared.Unread.{Unread}
use Rattle.number.specs.Reading.{unread}
use Rattle.field.specs.Field.{limits, in_limits, fault}
use Rattle.field.specs.declared.Limits.{Limits}
use Rattle.field.specs.declared.Fault.{Fault}
use Rattle.field.specs.declared.Bounds.{Bounds}
use Rattle.field.specs.declared.Broken.{Broken}

-- the limits that bounds are
abbrev pub limits_told : Bounds → Limits
limits_told b = limits b.least b.greatest b.step (number_of b.kind)

abbrev pub bounded : ℕ → ℕ → ℕ → Kind → Bounds
bounded least greatest step kind = record { least = least; greatest = greatest; step = step; kind = kind }

abbrev pub broken : Kind → ℕ → Broken
broken kind byte = record { kind = kind; byte = byte }

-- the fault that a check comes to: kind 0 where no rule is broken
abbrev pub fault_told : {A : Type 0} → Result A Broken → Fault
fault_told (Ok a) = fault 0 0
fault_told (Err b) = fault (number_of b.kind) b.byte

-- a number that was read, in its bounds: inside one field the kinds of its reading come before its own rule
abbrev pub held : Bounds → Result ℤ Unread → Result ℤ Unread
held b (Ok z) = cond (in_limits (limits_told b) z) (Ok z) (Err (unread b.kind))
held b (Err u) = Err u

-- a reading at a byte of its block: where it is refused, at the field's first byte, or at the very byte of wrong form
abbrev pub placed : ℕ → Result ℤ Unread → Result ℤ Broken
placed byte (Ok z) = Ok z
placed byte (Err u) = Err (broken u.kind (byte + (u.byte - 1)))
