-- docs/MANUAL.md, "Sending a sheet": what the bytes after a template say.
use Rattle.std.specs.Prelude.{List, [], ◌∷◌, ℕ, ◌*◌, ◌%◌, ◌≤◌, ℤ, Bool, cond, eqb, leb, ltb, length, ◌≡◌, Option, Some, None, IfSome}
use Rattle.laws.specs.Sign.{◌and◌}
use Rattle.words.specs.Words.{cell_of}

-- the cells, four bytes each: all of them, in their order
unfoldable pub cells_from : List ℕ → List ℤ
cells_from [] = []
cells_from (a ∷ []) = []
cells_from (a ∷ (b ∷ [])) = []
cells_from (a ∷ (b ∷ (c ∷ []))) = []
cells_from (a ∷ (b ∷ (c ∷ (d ∷ rest)))) = cell_of a b c d ∷ cells_from rest

-- good input: the bytes are whole fours, and the cells at most 15,000
abbrev pub good_input : List ℕ → Bool
good_input text = leb (length text) (4 * 15000) and eqb (length text % 4) 0

abbrev pub count_of : List ℕ → Option ℕ
count_of text = cond (good_input text) (Some (length (cells_from text))) None

-- what the caller lends by: four bytes for each cell, and the cells within the whole grid
abbrev pub Fitting : List ℕ → Option ℕ → Type 0
Fitting text counted = IfSome counted (λ cells. (length text ≡ 4 * cells) × (cells ≤ 15000))

-- the bytes of so many blocks, as far as a sheet of 15,000 cells can have them
abbrev pub bytes_of : ℕ → ℕ
bytes_of count = cond (ltb 2049 count) 0 (1024 * count)
