-- The head of a profile as it is sent: nine fields, one behind the other, 144 bytes where their numbers fit.
use mathlib.Core.List.{List, [], ◌∷◌, ◌++◌}
use Prim.Native.Nat.{ℕ, ◌+◌, suc, ◌≤◌}
use lib.ListN.{length, length-append, take}
use mathlib.Core.Path.{◌≡◌, ◌∙◌}
use native.Mathlib.Omega.{arith}
use mathlib.Core.Bool.{true}
use lib.IntN.{ℤ, pos}
use Rattle.frame.specs.declared.Header.{Header}
use Rattle.ground.specs.Extremes.{least_stated, greatest_stated}
use Rattle.spell.specs.Spell.{real_fits, integer_text, real_text}
use Rattle.spell.proofs.Fits.{integer-length, real-length}
use Rattle.written.specs.Cells.{cells_sent}
use Rattle.written.specs.Blocks.{x_sent, y_sent, head_text}
use Rattle.written.proofs.PiecesSent.{small-fits, zero-fits}

-- pieces one behind the other, and a text behind them
abbrev pub onto : List (List ℕ) → List ℕ → List ℕ
onto [] after = after
onto (p ∷ ps) after = p ++ onto ps after

abbrev pub total : List (List ℕ) → ℕ
total [] = 0
total (p ∷ ps) = length p + total ps

onto-length : (ps : List (List ℕ)) (after : List ℕ) → length (onto ps after) ≡ total ps + length after
onto-length [] after = omega arith
onto-length (p ∷ ps) after = omega (arith, length-append p (onto ps after), onto-length ps after)

-- the numbers of a head fit
pub record HeadFits (h : Header) (grid : List ℤ) (c : ℕ) : Type 0 where
  pub column : suc c ≤ 2048
  pub some : 1 ≤ length (cells_sent h grid c)
  pub most : length (cells_sent h grid c) ≤ 2048
  pub x : real_fits 15 24 (x_sent h c) ≡ true
  pub y : real_fits 15 24 (y_sent h grid c) ≡ true
  pub least : real_fits 15 24 (least_stated (cells_sent h grid c)) ≡ true
  pub greatest : real_fits 15 24 (greatest_stated (cells_sent h grid c)) ≡ true

module _ (h : Header) (grid : List ℤ) (c : ℕ) where
  abbrev pub head_pieces : List (List ℕ)
  head_pieces =
      integer_text 6 (pos 1)
      ∷ integer_text 6 (pos (suc c))
      ∷ integer_text 6 (pos (length (cells_sent h grid c)))
      ∷ integer_text 6 (pos 1)
      ∷ real_text 15 68 24 (x_sent h c)
      ∷ real_text 15 68 24 (y_sent h grid c)
      ∷ real_text 15 68 24 (pos 0)
      ∷ real_text 15 68 24 (least_stated (cells_sent h grid c))
      ∷ real_text 15 68 24 (greatest_stated (cells_sent h grid c))
      ∷ []

  -- how long each is
  abbrev pub HeadLengths : Type 0
  HeadLengths =
      (length (integer_text 6 (pos 1)) ≡ 6)
      × (length (integer_text 6 (pos (suc c))) ≡ 6)
      × (length (integer_text 6 (pos (length (cells_sent h grid c)))) ≡ 6)
      × (length (real_text 15 68 24 (x_sent h c)) ≡ 24)
      × (length (real_text 15 68 24 (y_sent h grid c)) ≡ 24)
      × (length (real_text 15 68 24 (pos 0)) ≡ 24)
      × (length (real_text 15 68 24 (least_stated (cells_sent h grid c))) ≡ 24)
      × (length (real_text 15 68 24 (greatest_stated (cells_sent h grid c))) ≡ 24)

  pub head-lengths : HeadFits h grid c → HeadLengths
  head-lengths f =
      let m = length (cells_sent h grid c) in (
        integer-length 6 (pos 1) (small-fits 1 (omega arith)),
        integer-length 6 (pos (suc c)) (small-fits (suc c) (omega (arith, f.column))),
        integer-length 6 (pos m) (small-fits m (omega (arith, f.most))),
        real-length 15 24 (x_sent h c) 68 f.x,
        real-length 15 24 (y_sent h grid c) 68 f.y,
        real-length 15 24 (pos 0) 68 zero-fits,
        real-length 15 24 (least_stated (cells_sent h grid c)) 68 f.least,
        real-length 15 24 (greatest_stated (cells_sent h grid c)) 68 f.greatest,
      )

  pub head-length : HeadFits h grid c → length (head_text h grid c) ≡ 144
  head-length f =
      onto-length (take 8 head_pieces) (real_text 15 68 24 (greatest_stated (cells_sent h grid c))) ∙ omega (arith, head-lengths f)
