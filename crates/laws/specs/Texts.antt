-- Texts as bytes. Nothing here knows the format.
use Rattle.std.specs.Prelude.{List, [], ◌∷◌, ℕ, Bool, true, false, eqb}
use Prim.Native.Char.{code}
use Prim.Native.String.{String}
use Rattle.laws.specs.Sign.{◌and◌}

-- the bytes of a text
abbrev pub bytes : String → List ℕ
bytes String.[] = []
bytes (String.◌∷◌ c s) = code c ∷ bytes s

-- are two texts the same, byte for byte
abbrev pub same : List ℕ → List ℕ → Bool
same [] [] = true
same [] (b ∷ t) = false
same (a ∷ s) [] = false
same (a ∷ s) (b ∷ t) = eqb a b and same s t

abbrev pub every : (ℕ → Bool) → List ℕ → Bool
every is [] = true
every is (c ∷ s) = is c and every is s
