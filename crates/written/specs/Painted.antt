-- Fields painted over a lent block, one behind the other: a number that does not fit its field leaves what stood there. For any block.
use Rattle.std.specs.Prelude.{List, [], ◌∷◌, ◌++◌, ℕ, ◌+◌, ℤ, length, take, drop, cond}
use Rattle.spell.specs.Spell.{integer_text, integer_fits, real_text, real_fits}

-- a text that is kept, or a number: an integer, a real, a spacing
pub data Field : Type 0 where
  text : List ℕ → Field
  integer : ℤ → Field
  decimal : ℤ → Field
  step : ℤ → Field

abbrev pub wide : Field → ℕ
wide (text t) = length t
wide (integer z) = 6
wide (decimal z) = 24
wide (step z) = 12

-- what stands in a field afterwards
abbrev pub over : Field → List ℕ → List ℕ
over (text t) old = t
over (integer z) old = cond (integer_fits 6 z) (integer_text 6 z) old
over (decimal z) old = cond (real_fits 15 24 z) (real_text 15 68 24 z) old
over (step z) old = cond (real_fits 6 12 z) (real_text 6 69 12 z) old

-- from the block's first byte on; behind the last field it stays as it was
unfoldable pub painted : List Field → List ℕ → List ℕ
painted [] block = block
painted (f ∷ fs) block = over f (take (wide f) block) ++ painted fs (drop (wide f) block)

abbrev pub widths : List Field → ℕ
widths [] = 0
widths (f ∷ fs) = wide f + widths fs
