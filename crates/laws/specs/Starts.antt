-- 02, request 6: which byte of a text first makes its form impossible, said of any form; and a machine that finds it. Nothing here knows the
-- format.
use Rattle.std.specs.Prelude.{Bool, cond, List, [], ◌∷◌, ◌++◌, ◌⊎◌, ◌≡◌, ℕ, suc, ◌≤◌, ◌<◌, length, take}

-- a text that some bytes behind it make a permitted field
pub record Start (Field : List ℕ → Type 0) (s : List ℕ) : Type 0 where
  pub behind : List ℕ
  pub field : Field (s ++ behind)

-- .. of so many bytes in all
pub record StartOf (Field : List ℕ → Type 0) (bytes : ℕ) (s : List ℕ) : Type 0 where
  pub behind : List ℕ
  pub long : length (s ++ behind) ≡ bytes
  pub field : Field (s ++ behind)

-- "which byte of the field first makes the form impossible", counted from 1: no permitted field of its length has that start, every shorter start
-- has a completion
pub record VeryByte (Field : List ℕ → Type 0) (s : List ℕ) (k : ℕ) : Type 0 where
  pub from_one : 1 ≤ k
  pub inside : k ≤ length s
  pub none : StartOf Field (length s) (take k s) → ⊥
  pub shorter : (j : ℕ) → j < k → StartOf Field (length s) (take j s)

-- the request's two cases, with permitted fields of whatever length: "the first byte no longer the start" of one; or the last, where the text is a
-- start to its end and "merely ends too soon"
abbrev pub Anyhow : (List ℕ → Type 0) → List ℕ → ℕ → Type 0
Anyhow Field s k =
    ((j : ℕ) → j < k → Start Field (take j s)) × ((Start Field (take k s) → ⊥) ⊎ ((k ≡ length s) × (Field s → ⊥) × Start Field s))

-- ---- a machine that goes over a text byte by byte

abbrev pub run : {State : Type 0} → (State → ℕ → State) → State → List ℕ → State
run step q [] = q
run step q (c ∷ s) = run step (step q c) s

-- the byte, counted from 1, at which it is lost; the last one where it never is
abbrev pub lost_at : {State : Type 0} → (State → ℕ → State) → (State → Bool) → State → List ℕ → ℕ
lost_at step lost q [] = 0
lost_at step lost q (c ∷ s) = cond (lost (step q c)) 1 (suc (lost_at step lost (step q c) s))
