-- docs/MANUAL.md, "Looking at a recorded line": what the bytes of a script say.
use Rattle.std.specs.Prelude.{cond, ℕ, ◌≤◌, eqb, ltb, Option, Some, None, Result, Ok, Err, IfOk, IfSome}
use Rattle.script.specs.declared.BadScript.{BadScript}
use Rattle.script.specs.declared.Delivery.{Delivery}

-- the answer of a bad script
abbrev bad : {A : Type 0} → Result A BadScript
bad = Err (record {})

-- the grid's cells, 15,000 at most, in the first four bytes; a script that has not even those is bad
unfoldable pub count_from : ℕ → ℕ → Result ℕ BadScript
count_from got cells = cond (eqb got 4) (cond (ltb 15000 cells) bad (Ok cells)) bad

-- a delivery's head: how many cells of the front are lent, the block's number, and its length, 4,096 at most; four bytes each;
-- the script ends where a delivery would begin, and is bad where it ends inside these twelve bytes
unfoldable pub head_from : ℕ → ℕ → ℕ → ℕ → ℕ → Result (Option Delivery) BadScript
head_from got cells lent number bytes =
    cond (eqb got 0) (Ok None)
    (cond (eqb got 12)
    (cond (ltb cells lent) bad (cond (ltb 4096 bytes) bad (Ok (Some (record { lent = lent; number = number; bytes = bytes })))))
    bad)

-- what a caller lends by: a count within the greatest grid
abbrev pub Fitting : Result ℕ BadScript → Type 0
Fitting counted = IfOk counted (λ cells. cells ≤ 15000)

-- what a caller lends by: cells within the grid, bytes within the greatest block
abbrev pub Within : ℕ → Result (Option Delivery) BadScript → Type 0
Within cells next = IfOk next (λ head. IfSome head (λ d. (d.lent ≤ cells) × (d.bytes ≤ 4096)))
