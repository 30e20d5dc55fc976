-- 02, request 6, on texts at the edge, each byte counted by hand: computed, and no more than that.
use mathlib.Core.Path.{◌≡◌, refl}
use mathlib.Core.List.{List, [], ◌∷◌}
use Prim.Native.Nat.{ℕ}
use Prim.Native.String.{String}
use Rattle.laws.specs.Texts.{bytes}
use Rattle.number.specs.IntegerStarts.{integer_byte}
use Rattle.number.specs.RealStarts.{real_byte}

abbrev pub integers : List String → List ℕ
unfolding integer_byte
integers [] = []
integers (t ∷ ts) = integer_byte (bytes t) ∷ integers ts

abbrev pub reals : List String → List ℕ
unfolding real_byte
reals [] = []
reals (t ∷ ts) = real_byte (bytes t) ∷ reals ts

-- a blank behind a digit is itself the byte; a field that ends too soon, and one that is blank, has its last
pub integer-bytes : integers ("1     " ∷ "    1 " ∷ "     +" ∷ "-  " ∷ "      " ∷ "99999x" ∷ "  1.0 " ∷ "--1" ∷ "+" ∷ "1 1" ∷ [])
    ≡ (2 ∷ 6 ∷ 6 ∷ 2 ∷ 6 ∷ 6 ∷ 4 ∷ 2 ∷ 1 ∷ 2 ∷ [])
unfolding integer_byte
integer-bytes = refl

-- blanks may follow a real, so there it is what stands behind them; not so behind a sign, a bare point, a letter or its sign
pub real-bytes : reals ("1 .0" ∷ "1.0 D+01" ∷ "1.0D  " ∷ "1.0D" ∷ "1.0D+" ∷ "1.0D+ " ∷ "-  " ∷ ". 5" ∷ ".D+01" ∷ "+." ∷ "D+01" ∷ "1.0D+012" ∷ "1..0" ∷ "+-1" ∷ "1.0+01" ∷ "1.0d+01" ∷ "   " ∷ "1.0D1  x" ∷ [])
    ≡ (3 ∷ 5 ∷ 5 ∷ 4 ∷ 5 ∷ 6 ∷ 2 ∷ 2 ∷ 2 ∷ 2 ∷ 1 ∷ 8 ∷ 3 ∷ 2 ∷ 4 ∷ 4 ∷ 3 ∷ 8 ∷ [])
unfolding real_byte
real-bytes = refl
