-- Extremes of the filled cells, one cell before those looked at.
use Rattle.std.proofs.Common.{List, [], ◌∷◌, ◌≡◌, refl, ◌∙◌, ap, ℤ, Option, None, Some, reverse}
use Rattle.std.specs.List.{fold}
use Rattle.std.proofs.lemmas.List.{reverse-append}
use Rattle.std.proofs.lemmas.List.Sums.{fold-append}
use Rattle.laws.specs.Sign.{same_z}
use Rattle.laws.proofs.Tests.{by-test}
use Rattle.ground.specs.Extremes.{filled_only}
use Rattle.ground.specs.Posts.{void}
use Rattle.columns.specs.declared.Running.{Running}
use Rattle.columns.specs.ExtremeSteps.{with_cell, running, running_of, joined}

-- a filled cell before filled ones
before : (cell : ℤ) (fs : List ℤ) → ◌≡◌ {A = Option Running} (Some (joined cell (running_of fs))) (running_of (cell ∷ fs))
before cell [] = refl
before cell (f ∷ fs) = refl

with-running : (cell : ℤ) (cells : List ℤ) → with_cell cell (running cells) ≡ running (cell ∷ cells)
with-running cell cells =
    by-test (same_z cell void) (λ e. rw e) (λ e. rw e (before cell (filled_only cells)))

-- from the last cell on
pub from-the-last : (cells : List ℤ) → fold (λ found cell. with_cell cell found) None (reverse cells) ≡ running cells
from-the-last [] = refl
from-the-last (cell ∷ cells) =
    ap (fold (λ found x. with_cell x found) None) (reverse-append (cell ∷ []) cells)
    ∙ fold-append (λ found x. with_cell x found) None (reverse cells) (cell ∷ [])
    ∙ ap (with_cell cell) (from-the-last cells)
    ∙ with-running cell cells
