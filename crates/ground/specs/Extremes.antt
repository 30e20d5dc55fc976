-- Document 01, "Record B" and "Writing": the extremes of filled heights; and 02, request 1: their sum.
use Rattle.std.specs.Prelude.{cond, List, [], ◌∷◌, ℤ, pos, ◌+ℤ◌, ◌*ℤ◌}
use Rattle.laws.specs.Sign.{same_z, lesser, greater}
use Rattle.ground.specs.Posts.{void}

abbrev pub filled_only : List ℤ → List ℤ
filled_only [] = []
filled_only (h ∷ hs) = cond (same_z h void) (filled_only hs) (h ∷ filled_only hs)

-- "or zero if there are none"
abbrev pub least_of : List ℤ → ℤ
least_of [] = pos 0
least_of (h ∷ []) = h
least_of (h ∷ (g ∷ hs)) = lesser h (least_of (g ∷ hs))

abbrev pub greatest_of : List ℤ → ℤ
greatest_of [] = pos 0
greatest_of (h ∷ []) = h
greatest_of (h ∷ (g ∷ hs)) = greater h (greatest_of (g ∷ hs))

-- "the exact sum of filled elevations"
abbrev pub sum_of : List ℤ → ℤ
sum_of [] = pos 0
sum_of (h ∷ hs) = h +ℤ sum_of hs

-- the extremes of the filled heights, as billionths: hundredths are 10,000,000 of them
abbrev pub least_stated : List ℤ → ℤ
least_stated hs = least_of (filled_only hs) *ℤ pos 10000000

abbrev pub greatest_stated : List ℤ → ℤ
greatest_stated hs = greatest_of (filled_only hs) *ℤ pos 10000000
