-- How the code builds a text: pieces put one after another. No paper's sentence is stated here.
use Rattle.std.specs.Prelude.{List, ◌++◌, ◌≡◌, ℕ, ◌+◌, length, take, drop, cond, leb}

-- from `at` on the piece stands, up to `end`, and before it what stood there
pub record Puts (before : List ℕ) (at : ℕ) (piece after : List ℕ) (end : ℕ) : Type 0 where
  pub kept : length after ≡ length before
  pub place : end ≡ at + length piece
  pub text : take end after ≡ take at before ++ piece

-- ---- a piece in lent bytes

-- the place behind the piece, or `at` where it does not fit
abbrev pub end_at : ℕ → List ℕ → List ℕ → ℕ
end_at at piece lent = cond (leb (at + length piece) (length lent)) (at + length piece) at

-- the piece from `at` on and the rest as lent, or all as lent
abbrev pub put_at : ℕ → List ℕ → List ℕ → List ℕ
put_at at piece lent = cond (leb (at + length piece) (length lent)) (take at lent ++ (piece ++ drop (at + length piece) lent)) lent

-- what a function that puts a piece promises: its answer, and every lent byte
pub record GivenAt (at : ℕ) (piece before after : List ℕ) (r : ℕ) : Type 0 where
  pub end : r ≡ end_at at piece before
  pub bytes : after ≡ put_at at piece before
