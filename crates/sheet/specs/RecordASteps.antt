-- How the code walks record A: its table of rows, as the definitions have it. The public promise cites `record_a` alone.
use Rattle.std.specs.Prelude.{ℕ, suc, ◌<◌, ◌≤◌, ◌+◌, ◌-◌, get_or, length, Bool, cond, eqb, List, [], ◌∷◌, pos, ℤ, ◌≡◌}
use Rattle.laws.specs.Sign.{not_negative}
use Rattle.number.specs.declared.Reading.{Reading}
use Rattle.number.specs.Integer.{read, refused}
use Rattle.field.specs.Field.{whole_at}
use Rattle.field.specs.declared.Fault.{Fault}
use Rattle.frame.specs.declared.Corner.{Corner}
use Rattle.frame.specs.declared.Header.{Header}
use Rattle.heading.specs.Heading.Name.{ground}
use Rattle.heading.specs.Heading.{named}
use Rattle.sheet.specs.declared.Row.{Row as declared-Row}
use Rattle.sheet.specs.declared.Rule.{Rule as declared-Rule}
use Rattle.sheet.specs.declared.Rule.TheVariants.{Words, Mixed, Filler, Form, Free, Plain, Spaced, Whole, Stepped}
use Rattle.sheet.specs.RecordA.{Row, row, back, Rule, judge_row, first_fault}
use Rattle.sheet.specs.RecordA.Rule.{words, mixed, filler, form, free, plain, spaced, whole, stepped}

-- the rule that the code has
abbrev pub ruled : declared-Rule → Rule
ruled Words = words
ruled Mixed = mixed
ruled Filler = filler
ruled Form = form
ruled Free = free
ruled Plain = plain
ruled Spaced = spaced
ruled (Whole name) = whole (named name)
ruled (Stepped name) = stepped (named name)

-- the row that the code has
abbrev pub row_told : declared-Row → Row
row_told r = row r.0 r.1 (ruled r.2)

-- a row that asks nothing: what stands past the end of a table
abbrev pub no_row : Row
no_row = row 0 0 words

-- text or blanks as they must be, or kind 5
abbrev pub text_kept : Bool → Reading
text_kept kept = cond kept (read (pos 0)) (refused 5)

-- a block of the right length whose system and vertical unit were read
pub record Begun (block : List ℕ) (system vertical : ℕ) : Type 0 where
  pub long : length block ≡ 1024
  pub system-is : system ≡ whole_at 157 block
  pub vertical-is : vertical ≡ whole_at 535 block

-- a row inside the 1,024 bytes
pub record Inside (r : Row) : Type 0 where
  pub begins : 1 ≤ r.first
  pub ends : r.first - 1 + r.width ≤ 1024

abbrev pub AllInside : List Row → Type 0
AllInside rs = (i : ℕ) → i < length rs → Inside (get_or rs i no_row)

-- the value of each of these rows stands at its place
abbrev pub AllRead : ℕ → List ℕ → List Row → List ℤ → Type 0
AllRead family block rs values = (i : ℕ) → i < length rs → get_or values i (pos 0) ≡ (judge_row family block (get_or rs i no_row)).value

-- the walk over these rows: the first fault, and where there is none the values of all of them
pub record Walked (family : ℕ) (block : List ℕ) (rs : List Row) (before after : List ℤ) (f : Fault) : Type 0 where
  pub first : f ≡ first_fault family block rs
  pub many : length after ≡ length before
  pub read : f.kind ≡ 0 → AllRead family block rs after

-- ---- a header from the values of the back, each looked up by its field's first byte

abbrev pub place_in : ℕ → List Row → ℕ
place_in first [] = 0
place_in first (r ∷ rs) = cond (eqb r.first first) 0 (suc (place_in first rs))

-- the place in the back of the field that begins at this byte
abbrev pub place_of : ℕ → ℕ
place_of first = place_in first back

abbrev pub value_from : List ℤ → ℕ → ℤ
value_from values first = get_or values (place_of first) (pos 0)

abbrev pub corner_from : List ℤ → ℕ → Corner
corner_from values first = record { x = value_from values first; y = value_from values (first + 24) }

abbrev pub number_from : List ℤ → ℕ → ℕ
number_from values first = not_negative (value_from values first)

abbrev pub header_from : List ℤ → Header
header_from values =
    record {
      level = number_from values 145;
      system = number_from values 157;
      zone = number_from values 163;
      ground = number_from values 529;
      vertical = number_from values 535;
      sw = corner_from values 547;
      nw = corner_from values 595;
      ne = corner_from values 643;
      se = corner_from values 691;
      least = value_from values 739;
      greatest = value_from values 763;
      accuracy = number_from values 811;
      xstep = number_from values 817;
      ystep = number_from values 829;
      zstep = number_from values 841;
      profiles = number_from values 859;
    }
