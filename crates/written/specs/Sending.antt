-- Document 01, "Writing": what the writer refuses, in its order, and what it sends.
use Rattle.std.specs.Prelude.{ℕ, ◌*◌, cond, List, map, ℤ, ltb, eqb, leb, length, Result, Ok, Err}
use Rattle.laws.specs.Lists.{below, joined}
use Rattle.frame.specs.declared.Header.{Header}
use Rattle.frame.specs.Frame.{cells_of, z_of}
use Rattle.heading.specs.Heading.{header_of}
use Rattle.sheet.specs.RecordA.{Checked}
use Rattle.sheet.specs.RecordA.Checked.{Sheet, Refused as NoSheet}
use Rattle.sheet.specs.RecordA.{record_a}
use Rattle.written.specs.declared.Refused.{Refused as Against}
use Rattle.kinds.specs.Kinds.{number_of}
use Rattle.kinds.specs.declared.Kind.{Kind}
use Rattle.written.specs.Cells.{sendable, block_count}
use Rattle.written.specs.Blocks.{sheet_cells, block_sent}

-- "Kinds in order, each with one number"; kind 0 where nothing is refused
pub record Objection : Type 0 where
  pub kind : ℕ
  pub number : ℕ

abbrev pub objection : ℕ → ℕ → Objection
objection kind number = record { kind = kind; number = number }

-- the cases of the writer's answer, with the paper's kind and number
pub data Sent : Type 0 where
  Written : Sent
  Refused : ℕ → ℕ → Sent

abbrev pub sent_by : Objection → Sent
sent_by f = cond (eqb f.kind 0) Sent.Written (Sent.Refused f.kind f.number)

-- and as the code answers it
abbrev pub against : Kind → ℕ → Against
against kind number = record { kind = kind; number = number }

abbrev pub sent_told : {A : Type 0} → Result A Against → Sent
sent_told (Ok a) = Sent.Written
sent_told (Err r) = Sent.Refused (number_of r.kind) r.number

-- and the numbers of each case: 0 and 0 where the block is written
abbrev pub sent_kind : Sent → ℕ
sent_kind Sent.Written = 0
sent_kind (Sent.Refused kind number) = kind

abbrev pub sent_number : Sent → ℕ
sent_number Sent.Written = 0
sent_number (Sent.Refused kind number) = number

-- "12 (0), 13 first cell .. (cell)"
abbrev pub grid_objection : Header → List ℤ → Objection
grid_objection h grid =
    cond (ltb (length grid) (cells_of h)) (objection 12 0)
    (cond (ltb (sendable (z_of h) (sheet_cells h grid)) (cells_of h)) (objection 13 (sendable (z_of h) (sheet_cells h grid))) (objection 0 0))

abbrev pub checked_objection : Checked → List ℤ → Objection
checked_objection (NoSheet kind byte) grid = objection kind byte
checked_objection (Sheet h) grid = grid_objection h grid

-- "1 template length (number 1), 5-10 template (byte)", then the grid
unfoldable pub sheet_objection : List ℕ → List ℤ → Objection
sheet_objection template grid = cond (eqb (length template) 1024) (checked_objection (record_a template) grid) (objection 1 1)

-- "14 number not below the sheet's block count (that count)"
abbrev pub number_objection : List ℕ → List ℤ → ℕ → Objection
number_objection template grid number =
    cond (leb (block_count (header_of template) grid) number) (objection 14 (block_count (header_of template) grid)) (objection 0 0)

abbrev pub first : Objection → Objection → Objection
first a b = cond (eqb a.kind 0) b a

-- one block, into a lent block of so many bytes: "1 lent block length (number 0)" comes first
unfoldable pub block_objection : List ℕ → List ℤ → ℕ → ℕ → Objection
block_objection template grid number bytes =
    cond (eqb bytes 1024) (first (sheet_objection template grid) (number_objection template grid number)) (objection 1 0)

-- what the lent block holds afterwards
abbrev pub block_after : List ℕ → List ℤ → ℕ → List ℕ → List ℕ
block_after template grid number block =
    cond (eqb (block_objection template grid number (length block)).kind 0) (block_sent template (header_of template) grid number) block

-- how many blocks a template and grid have; 0 where they are refused
unfoldable pub count_of : List ℕ → List ℤ → ℕ
count_of template grid = cond (eqb (sheet_objection template grid).kind 0) (block_count (header_of template) grid) 0

-- the blocks of a sheet up to a number, joined
abbrev pub sent_text : List ℕ → List ℤ → ℕ → List ℕ
sent_text template grid n = joined (map (block_sent template (header_of template) grid) (below n))

-- ---- a whole sheet into one lent buffer: the sheet's own refusals, then a buffer that is not count × 1,024 bytes (1, with number 0)

unfoldable pub sheet_sent_objection : List ℕ → List ℤ → ℕ → Objection
sheet_sent_objection template grid bytes =
    first (sheet_objection template grid) (cond (eqb bytes (1024 * count_of template grid)) (objection 0 0) (objection 1 0))

abbrev pub sheet_after : List ℕ → List ℤ → List ℕ → List ℕ
sheet_after template grid out =
    cond (eqb (sheet_sent_objection template grid (length out)).kind 0) (sent_text template grid (count_of template grid)) out
