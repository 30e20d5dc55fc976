-- How the code paints: fields put one behind the other from a byte on, and where the next one begins.
use Rattle.std.specs.Prelude.{List, ◌++◌, ◌≡◌, ℕ, ◌+◌, ◌≤◌, length, take, drop}
use Rattle.written.specs.Painted.{Field, widths, painted}

pub record Paints (before : List ℕ) (at : ℕ) (fs : List Field) (after : List ℕ) (end : ℕ) : Type 0 where
  pub place : end ≡ at + widths fs
  pub room : end ≤ length before
  pub is : after ≡ take at before ++ painted fs (drop at before)
