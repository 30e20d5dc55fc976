-- A closing rule as the code answers it.
use Rattle.std.specs.Prelude.{Result, Ok, Err}
use Rattle.delivery.specs.Deliver.{refusal}
use Rattle.delivery.specs.Deliver.{Refusal}
use Rattle.rules.specs.declared.Misstated.{Misstated}

-- a closing rule as the code answers it: every one of them is of kind 11
abbrev pub closing_told : {A : Type 0} → Result A Misstated → Refusal
closing_told (Ok a) = refusal 0 0 0
closing_told (Err m) = refusal 11 m.block m.byte
