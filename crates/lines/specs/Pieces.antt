-- How the code builds a line: pieces put one after another, each of a bounded length.
use Rattle.std.specs.Prelude.{List, ℕ, ◌+◌, ◌≤◌}
use Rattle.numerals.specs.Pieces.{Puts}

-- the piece stands from `at` on, and has at most `most` bytes
pub record Within (most : ℕ) (before : List ℕ) (at : ℕ) (piece after : List ℕ) (end : ℕ) : Type 0 where
  pub puts : Puts before at piece after end
  pub short : end ≤ at + most
