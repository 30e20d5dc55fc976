-- How the code writes an integer: its digits from the right end of the field, then what stands before them. No paper's sentence is stated here.
use Rattle.std.specs.Prelude.{List, ◌++◌, ◌≡◌, ℕ, ◌+◌, ◌-◌, length, take, drop, replicate, ℤ}
use Rattle.numerals.specs.Numerals.{minus}

-- the text stands at the field's right end from `at` on, and before it is what was lent
pub record FromRight (lent text after : List ℕ) (at : ℕ) : Type 0 where
  pub place : at + length text ≡ length lent
  pub bytes : after ≡ take at lent ++ text

-- blanks, and a minus for a number below zero, in every byte before `at`; from there on as lent
abbrev pub filled_before : ℤ → ℕ → List ℕ → List ℕ
filled_before z at lent = replicate (at - length (minus z)) 32 ++ (minus z ++ drop at lent)
