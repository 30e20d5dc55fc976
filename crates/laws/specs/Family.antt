-- Document 02, request 2: the families of sheets, by number: 0 USGS, 1 Canadian (CDED level 1); any other is one we do not know.
use Rattle.std.specs.Prelude.{Bool, ℕ, eqb, ltb}

abbrev pub known : ℕ → Bool
known family = ltb family 2

abbrev pub is_canadian : ℕ → Bool
is_canadian family = eqb family 1
