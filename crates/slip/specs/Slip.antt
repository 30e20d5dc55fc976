-- What stands beside the result of a C call, as many numbers as there is room for.
use Rattle.std.specs.Prelude.{ℕ, List, ◌++◌, length, take, drop}

-- the numbers from the front on, and behind them what was there
abbrev pub handed : List ℕ → List ℕ → List ℕ
handed numbers answer = take (length answer) numbers ++ drop (length numbers) answer
