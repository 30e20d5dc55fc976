-- How the code works extremes out, from the last cell: what it has of the cells looked at, and one cell more.
use Rattle.std.specs.Prelude.{cond, ℤ, List, [], ◌∷◌, Option, None, Some}
use Rattle.laws.specs.Sign.{lesser, greater, same_z}
use Rattle.ground.specs.Posts.{void}
use Rattle.ground.specs.Extremes.{filled_only, least_of, greatest_of}
use Rattle.columns.specs.declared.Running.{Running}

-- a filled cell more
abbrev pub joined : ℤ → Option Running → Running
joined cell None = record { low = cell; high = cell }
joined cell (Some t) = record { low = lesser cell t.low; high = greater cell t.high }

abbrev pub with_cell : ℤ → Option Running → Option Running
with_cell cell found = cond (same_z cell void) found (Some (joined cell found))

-- of cells that are all filled
abbrev pub running_of : List ℤ → Option Running
running_of [] = None
running_of (h ∷ hs) = Some (record { low = least_of (h ∷ hs); high = greatest_of (h ∷ hs) })

abbrev pub running : List ℤ → Option Running
running cells = running_of (filled_only cells)
