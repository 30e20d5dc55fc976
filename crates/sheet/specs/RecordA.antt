-- Document 01, "Record A (block 0)", and 02, request 2: the table of its fields, what breaks one, and the verdict on a block, of either family.
use Rattle.std.specs.Prelude.{Result, Ok, Err, Bool, cond, List, [], ◌∷◌, ◌++◌, ℕ, eqb, pos, length}
use Rattle.laws.specs.Family.{known, is_canadian}
use Rattle.laws.specs.Sign.{implies}
use Rattle.laws.specs.Texts.{every}
use Rattle.number.specs.Bytes.{is_blank}
use Rattle.number.specs.Integer.{integer, read, refused}
use Rattle.number.specs.Real.{real}
use Rattle.number.specs.declared.Reading.{Reading}
use Rattle.field.specs.Field.{is_word, is_text, stretch, whole_at, real_at, ranged, fault, fault_or}
use Rattle.field.specs.declared.Fault.{Fault}
use Rattle.frame.specs.declared.Header.{Header}
use Rattle.frame.specs.Frame.{family_fault}
use Rattle.corner.specs.Corner.{says_corner}
use Rattle.heading.specs.Heading.{Name, limits_of, family_limits, header_of}
use Rattle.heading.specs.Heading.Name.{level, pattern, system, zone, ground, vertical, sides, angle, accuracy, spacing, height, rank, profiles, minutes, seconds}
use Rattle.field.specs.declared.Broken.{Broken}
use Rattle.kinds.specs.Kinds.{number_of}

-- ---- the fields

-- what a field must be: text without lower case, text that may have it, blanks; a real's form only; any real; any integer; an x or y
-- spacing; an integer, or a real, in the limits of a name
pub data Rule : Type 0 where
  words : Rule
  mixed : Rule
  filler : Rule
  form : Rule
  free : Rule
  plain : Rule
  spaced : Rule
  whole : Name → Rule
  stepped : Name → Rule

-- a stretch of the block: its first byte, counted from 1, its width and its rule
pub record Row : Type 0 where
  pub first : ℕ
  pub width : ℕ
  pub rule : Rule

abbrev pub row : ℕ → ℕ → Rule → Row
row first width rule = record { first = first; width = width; rule = rule }

-- the paper's table, in its order: bytes 1-144, "name, text, origin", stand apart because the families differ there
unfoldable pub usgs_front : List Row
usgs_front = row 1 144 words ∷ []

-- 02, request 2: "name (bytes 1-40) and producer (41-100)", 101-109 and 137 blank, the corner in six number fields, longitude then latitude,
-- 136, and "last 138-144"
unfoldable pub canadian_front : List Row
canadian_front =
    row 1 40 mixed
    ∷ row 41 60 mixed
    ∷ row 101 9 filler
    ∷ row 110 4 plain
    ∷ row 114 2 (whole minutes)
    ∷ row 116 7 (stepped seconds)
    ∷ row 123 4 plain
    ∷ row 127 2 (whole minutes)
    ∷ row 129 7 (stepped seconds)
    ∷ row 136 1 words
    ∷ row 137 1 filler
    ∷ row 138 7 words
    ∷ []

-- bytes 145-1024, of either family
unfoldable pub back : List Row
back =
    row 145 6 (whole level)
    ∷ row 151 6 (whole pattern)
    ∷ row 157 6 (whole system)
    ∷ row 163 6 (whole zone)
    ∷ row 169 24 form
    ∷ row 193 24 form
    ∷ row 217 24 form
    ∷ row 241 24 form
    ∷ row 265 24 form
    ∷ row 289 24 form
    ∷ row 313 24 form
    ∷ row 337 24 form
    ∷ row 361 24 form
    ∷ row 385 24 form
    ∷ row 409 24 form
    ∷ row 433 24 form
    ∷ row 457 24 form
    ∷ row 481 24 form
    ∷ row 505 24 form
    ∷ row 529 6 (whole ground)
    ∷ row 535 6 (whole vertical)
    ∷ row 541 6 (whole sides)
    ∷ row 547 24 free
    ∷ row 571 24 free
    ∷ row 595 24 free
    ∷ row 619 24 free
    ∷ row 643 24 free
    ∷ row 667 24 free
    ∷ row 691 24 free
    ∷ row 715 24 free
    ∷ row 739 24 free
    ∷ row 763 24 free
    ∷ row 787 24 (stepped angle)
    ∷ row 811 6 (whole accuracy)
    ∷ row 817 12 spaced
    ∷ row 829 12 spaced
    ∷ row 841 12 (stepped height)
    ∷ row 853 6 (whole rank)
    ∷ row 859 6 (whole profiles)
    ∷ row 865 160 words
    ∷ []

abbrev pub front_of : ℕ → List Row
front_of family = cond (is_canadian family) canadian_front usgs_front

abbrev pub fields_of : ℕ → List Row
fields_of family = front_of family ++ back

-- ---- what breaks a field

-- by the system and the vertical unit that the block says; in a Canadian sheet x and y spacing may be any reals, for their pair is
-- judged over the whole record
abbrev pub judge : ℕ → Rule → ℕ → ℕ → List ℕ → Reading
judge family words s v f = cond (every is_word f) (read (pos 0)) (refused 5)
judge family mixed s v f = cond (every is_text f) (read (pos 0)) (refused 5)
judge family filler s v f = cond (every is_blank f) (read (pos 0)) (refused 5)
judge family form s v f = cond (eqb (real f).kind 6) (real f) (read (pos 0))
judge family free s v f = real f
judge family plain s v f = integer f
judge family spaced s v f = cond (is_canadian family) (real f) (ranged (limits_of spacing s v) (real f))
judge family (whole name) s v f = ranged (family_limits family name s v) (integer f)
judge family (stepped name) s v f = ranged (family_limits family name s v) (real f)

abbrev pub judge_row : ℕ → List ℕ → Row → Reading
judge_row family block r = judge family r.rule (whole_at 157 block) (whole_at 535 block) (stretch r.first r.width block)

abbrev pub first_fault : ℕ → List ℕ → List Row → Fault
first_fault family block [] = fault 0 0
first_fault family block (r ∷ rs) = fault_or (judge_row family block r) r.first (first_fault family block rs)

-- ---- the verdict: the fields, then the rules over the whole record; a block of another length is 1 at 0, a family we do not know 2 at 0

-- 02, request 2: "it must equal the SW corner", of a Canadian sheet
abbrev pub corner_told : ℕ → List ℕ → Bool
corner_told family block = implies (is_canadian family) (says_corner block (real_at 547 block) (real_at 571 block))

-- "15 corner disagrees, at 110", ahead of the other rules over the whole record
abbrev pub whole_of : ℕ → List ℕ → Fault
whole_of family block = cond (corner_told family block) (family_fault family (header_of block)) (fault 15 110)

abbrev pub fields_fault : ℕ → List ℕ → Fault
fields_fault family block = first_fault family block (fields_of family)

abbrev pub fault_of : ℕ → List ℕ → Fault
fault_of family block =
    cond (eqb (length block) 1024)
    (cond (known family)
    (cond (eqb (fields_fault family block).kind 0) (whole_of family block) (fields_fault family block))
    (fault 2 0))
    (fault 1 0)

-- the cases of the answer, with document 01's kind and byte
pub data Checked : Type 0 where
  Sheet : Header → Checked
  Refused : ℕ → ℕ → Checked

abbrev pub checked_by : Fault → Header → Checked
checked_by f h = cond (eqb f.kind 0) (Checked.Sheet h) (Checked.Refused f.kind f.byte)

-- and as the code answers it
abbrev pub checked_told : Result Header Broken → Checked
checked_told (Ok h) = Checked.Sheet h
checked_told (Err b) = Checked.Refused (number_of b.kind) b.byte

unfoldable pub record_of : ℕ → List ℕ → Checked
record_of family block = checked_by (fault_of family block) (header_of block)

-- a USGS sheet's: the template's, the lister's, and the desk's where it names no family
abbrev pub record_a : List ℕ → Checked
record_a block = record_of 0 block

-- the numbers of each case: kind 0 and byte 0 for a good record
abbrev pub checked_kind : Checked → ℕ
checked_kind (Checked.Sheet h) = 0
checked_kind (Checked.Refused kind byte) = kind

abbrev pub checked_byte : Checked → ℕ
checked_byte (Checked.Sheet h) = 0
checked_byte (Checked.Refused kind byte) = byte
