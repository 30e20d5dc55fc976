-- What is known of a delivery before it is kept: contract of a private function.
use Rattle.std.specs.Prelude.{◌≤◌, ◌≡◌, List, ℤ, length}
use Rattle.delivery.specs.declared.Answer.TheVariants.{Taken}
use Rattle.delivery.specs.declared.Delivered.{Delivered}
use Rattle.ledger.specs.Numbers.{numbers_of, session_numbers}
use Rattle.ledger.specs.Row.{row_of}

-- a delivery that was taken: there are numbers enough, and what is kept of its session is the session
pub record Keepable (d : Delivered) (numbers : List ℤ) : Type 0 where
  pub enough : d.answer ≡ Taken → session_numbers ≤ length numbers
  pub fits : d.answer ≡ Taken → row_of d.session ≡ numbers_of d.session
