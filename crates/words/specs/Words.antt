-- docs/MANUAL.md, the programs' input: numbers of four bytes. A byte past the end of the text counts as 0.
use Rattle.std.specs.Prelude.{ℕ, ◌+◌, ◌*◌, List, get_or, cond, ltb, ℤ, pos, ◌-ℤ◌}

-- the largest byte stands first
abbrev pub number_of : ℕ → ℕ → ℕ → ℕ → ℕ
number_of a b c d = ((a * 256 + b) * 256 + c) * 256 + d

-- the number whose first byte is that at a place
abbrev pub number_at : List ℕ → ℕ → ℕ
number_at text at = number_of (get_or text at 0) (get_or text (at + 1) 0) (get_or text (at + 2) 0) (get_or text (at + 3) 0)

-- two's complement: from 2 ^ 31 = 2147483648 on, a word is the number that lies 2 ^ 32 = 4294967296 below it
abbrev pub twos : ℕ → ℤ
twos n = cond (ltb n 2147483648) (pos n) (pos n -ℤ pos 4294967296)

abbrev pub cell_of : ℕ → ℕ → ℕ → ℕ → ℤ
cell_of a b c d = twos (number_of a b c d)

abbrev pub cell_at : List ℕ → ℕ → ℤ
cell_at text at = twos (number_at text at)
