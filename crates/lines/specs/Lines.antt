-- Document 01, "The lister, and one sheet": the texts of the lister's lines, for every session and every number.
use Rattle.std.specs.Prelude.{List, ◌∷◌, ◌++◌, [], ℕ, ◌/◌, ◌%◌, ◌^◌, ◌-◌, ℤ, nat_abs, pos, cond, eqb, leb, length, drop, ◌≡◌}
use Rattle.laws.specs.Texts.{bytes}
use Rattle.numerals.specs.Numerals.{spell, numeral, minus}
use Rattle.frame.specs.Frame.{rows_of, columns_of}
use Rattle.frame.specs.declared.Header.{Header}
use Rattle.session.specs.declared.Session.{Session}
use Rattle.session.specs.Session.{complete}

-- hundredths as units with two decimals
unfoldable pub units : ℕ → List ℕ
units n = numeral (n / 100) ++ (46 ∷ spell 2 (n % 100))

-- and a minus if negative
abbrev pub hundredths : ℤ → List ℕ
hundredths z = minus z ++ units (nat_abs z)

-- the pieces of a line, and the line feed that ends it
abbrev pub line : List (List ℕ) → List ℕ
line [] = 10 ∷ []
line (p ∷ ps) = p ++ line ps

-- 02, request 2: a spacing in billionths: whole units as they are, any other with two decimals
unfoldable pub spacing : ℕ → List ℕ
spacing b = cond (eqb (b % 10 ^ 9) 0) (numeral (b / 10 ^ 9)) (units (b / 10 ^ 7))

-- "Rows, columns and the three spacings": x and y in billionths, z in hundredths
abbrev pub sheet_line : ℕ → ℕ → ℕ → ℕ → ℕ → List ℕ
sheet_line rows columns x y z =
    line
    (bytes "sheet " ∷ numeral rows ∷ bytes " " ∷ numeral columns ∷ bytes " " ∷ spacing x ∷ bytes " " ∷ spacing y ∷ bytes " "
    ∷ units z ∷ [])

-- of a header, whose spacings are in billionths
unfoldable pub head_line : Header → List ℕ
head_line h = sheet_line (rows_of h) (columns_of h) h.xstep h.ystep (h.zstep / 10 ^ 7)

-- "posts read and void posts": those not filled; none where more are filled than read, as in no sound session
unfoldable pub posts_line : ℕ → ℕ → List ℕ
posts_line posts filled = line (bytes "posts " ∷ numeral posts ∷ bytes " void " ∷ numeral (posts - filled) ∷ [])

-- "extremes of the filled posts, zeros if none"
abbrev pub extreme : ℕ → ℤ → ℤ
extreme filled z = cond (eqb filled 0) (pos 0) z

unfoldable pub range_line : ℕ → ℤ → ℤ → List ℕ
range_line filled low high =
    line (bytes "range " ∷ hundredths (extreme filled low) ∷ bytes " " ∷ hundredths (extreme filled high) ∷ [])

-- "blocks taken"
unfoldable pub end_line : ℕ → List ℕ
end_line taken = line (bytes "end " ∷ numeral taken ∷ [])

-- the output for a sheet, of any session, sound or not
unfoldable pub report_text : Session → List ℕ
report_text s =
    head_line s.header
    ++ (posts_line s.posts s.filled ++ (range_line s.filled s.low s.high ++ end_line s.taken))

-- "A refusal prints only `refused KIND BLOCK BYTE`"
unfoldable pub refused_text : ℕ → ℕ → ℕ → List ℕ
refused_text kind block byte =
    line (bytes "refused " ∷ numeral kind ∷ bytes " " ∷ numeral block ∷ bytes " " ∷ numeral byte ∷ [])

-- "an incomplete end, only `unfinished TAKEN`"
unfoldable pub unfinished_text : ℕ → List ℕ
unfinished_text taken = line (bytes "unfinished " ∷ numeral taken ∷ [])

-- what the end of the input prints
unfoldable pub end_text : Session → List ℕ
end_text s = cond (complete s) (report_text s) (unfinished_text s.taken)

-- ---- a text in lent bytes

-- the bytes used: the text's, or none where it is longer than what is lent
abbrev pub used : List ℕ → List ℕ → ℕ
used text lent = cond (leb (length text) (length lent)) (length text) 0

-- the text at the front and the rest as lent, or all as lent
abbrev pub written : List ℕ → List ℕ → List ℕ
written text lent = cond (leb (length text) (length lent)) (text ++ drop (length text) lent) lent

-- what a function that puts a text promises: its answer, and every lent byte
abbrev pub Given : List ℕ → List ℕ → List ℕ → ℕ → Type 0
Given text before after r = (r ≡ used text before) × (after ≡ written text before)
