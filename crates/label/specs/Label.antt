-- Document 01, "Record A": the origin's number and the sheet's name; document 02, request 2: the origins of Canadian sheets.
use Rattle.std.specs.Prelude.{List, [], ◌∷◌, ℕ, suc, cond, eqb, length, take, drop}
use Rattle.laws.specs.Family.{is_canadian}
use Rattle.laws.specs.Texts.{bytes, same}

-- "MAC ", "GPM2", "MCMC", "RMMC", "WMC ", "FS  " (002), as 1 to 6
abbrev pub origins : List (List ℕ)
origins = bytes "MAC " ∷ bytes "GPM2" ∷ bytes "MCMC" ∷ bytes "RMMC" ∷ bytes "WMC " ∷ bytes "FS  " ∷ []

-- 02, request 2: NTDB, BC, MB, NB, NL, NS, NT, NU, ON, PE, AB, QC, SK, YT, MULT (003's order), as 1 to 15, four bytes, blanks behind
abbrev pub canadian_origins : List (List ℕ)
canadian_origins =
    bytes "NTDB" ∷ bytes "BC  " ∷ bytes "MB  " ∷ bytes "NB  " ∷ bytes "NL  " ∷ bytes "NS  " ∷ bytes "NT  " ∷ bytes "NU  "
    ∷ bytes "ON  " ∷ bytes "PE  " ∷ bytes "AB  " ∷ bytes "QC  " ∷ bytes "SK  " ∷ bytes "YT  " ∷ bytes "MULT" ∷ []

-- the codes of a family; none in one we do not know
abbrev pub origins_of : ℕ → List (List ℕ)
origins_of family = cond (is_canadian family) canadian_origins (cond (eqb family 0) origins [])

-- the place of a text in a list, counted from k; 0 where it stands nowhere
abbrev pub place_in : ℕ → List ℕ → List (List ℕ) → ℕ
place_in k t [] = 0
place_in k t (o ∷ os) = cond (same t o) k (place_in (suc k) t os)

-- "Origin (141-144) is reported as 1 to 6 .. and 0 for any other."; a block of another length has none
unfoldable pub origin_of : List ℕ → ℕ
origin_of block = cond (eqb (length block) 1024) (place_in 1 (take 4 (drop 140 block)) origins) 0

-- the same of a sheet of any family
unfoldable pub family_origin : ℕ → List ℕ → ℕ
family_origin family block = cond (eqb (length block) 1024) (place_in 1 (take 4 (drop 140 block)) (origins_of family)) 0

-- how many bytes a text has up to its last one that is not blank
abbrev pub filled : List ℕ → ℕ
filled [] = 0
filled (c ∷ s) = cond (eqb (filled s) 0) (cond (eqb c 32) 0 1) (suc (filled s))

-- the name ends at the last of the first 40 bytes that is no blank; it is empty without one, and in a block of another length
unfoldable pub name_length : List ℕ → ℕ
name_length block = cond (eqb (length block) 1024) (filled (take 40 block)) 0
