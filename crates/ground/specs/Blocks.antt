-- Document 01, "Blocks": 1,024 bytes each, one behind the other, counted from 0.
use Rattle.std.specs.Prelude.{List, ℕ, ◌*◌, ◌/◌, take, drop, length}

abbrev pub block_at : List ℕ → ℕ → List ℕ
block_at text b = take 1024 (drop (1024 * b) text)

abbrev pub blocks_in : List ℕ → ℕ
blocks_in text = length text / 1024
