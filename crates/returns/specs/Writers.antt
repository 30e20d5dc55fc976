-- Demand 2: calls of the writer and what they promise, what must be accepted, and document 01's list of refusals (section "Writing").
use Rattle.std.specs.Prelude.{List, ℕ, ◌≤◌, ◌<◌, ℤ, ◌≡◌, length, get_or, true, false}
use Rattle.frame.specs.Frame.{cells_of, z_of}
use Rattle.frame.specs.declared.Header.{Header}
use Rattle.heading.specs.Heading.{header_of}
use Rattle.sheet.specs.RecordA.{record_a}
use Rattle.sheet.specs.RecordA.Checked.{Sheet, Refused as NoSheet}
use Rattle.ground.specs.Posts.{void}
use Rattle.written.specs.Sending.{Sent}
use Rattle.written.specs.Sending.Sent.{Written, Refused}
use Rattle.written.specs.Sending.{sent_by, block_objection, block_after, sheet_sent_objection, sheet_after}
use Rattle.written.specs.Cells.{can_send, block_count}

-- ---- calls, with what they promise word for word (paper, proof Contracts, reads it off the contracts)

-- one call of `write_block`: the number asked for and the block lent, what it returned, and the block as it left it
pub record Writing : Type 0 where
  pub number : ℕ
  pub lent : List ℕ
  pub returned : Sent
  pub left : List ℕ

pub record Wrote (template : List ℕ) (grid : List ℤ) (w : Writing) : Type 0 where
  pub answers : w.returned ≡ sent_by (block_objection template grid w.number (length w.lent))
  pub writes : w.left ≡ block_after template grid w.number w.lent

-- one call of `write_sheet`: the buffer lent, what it returned, and the buffer as it left it
pub record SheetWriting : Type 0 where
  pub lent : List ℕ
  pub returned : Sent
  pub left : List ℕ

pub record WroteSheet (template : List ℕ) (grid : List ℤ) (w : SheetWriting) : Type 0 where
  pub answers : w.returned ≡ sent_by (sheet_sent_objection template grid (length w.lent))
  pub writes : w.left ≡ sheet_after template grid w.lent

-- ---- what can be sent

-- a template that record A's rules take, and a grid long enough whose sheet cells are void or multiples of the z spacing within the posts' range
pub record CanBeSent (template : List ℕ) (grid : List ℤ) : Type 0 where
  pub sheet : record_a template ≡ Sheet (header_of template)
  pub room : cells_of (header_of template) ≤ length grid
  pub cells : (i : ℕ) → i < cells_of (header_of template) → can_send (z_of (header_of template)) (get_or grid i void) ≡ true

-- and a number below the sheet's block count, with a lent block of 1,024 bytes
pub record Accepts (template : List ℕ) (grid : List ℤ) (number : ℕ) (block : List ℕ) : Type 0 where
  pub long : length block ≡ 1024
  pub sendable : CanBeSent template grid
  pub below : number < block_count (header_of template) grid

-- ---- what is refused, with its number, and in which order

-- the first cell of the sheet that cannot be sent
pub record FirstUnsent (h : Header) (grid : List ℤ) (i : ℕ) : Type 0 where
  pub inside : i < cells_of h
  pub unsent : can_send (z_of h) (get_or grid i void) ≡ false
  pub before : (j : ℕ) → j < i → can_send (z_of h) (get_or grid j void) ≡ true

-- the list, case by case: a refusal stands only where nothing before it is broken
pub data Listed (template : List ℕ) (grid : List ℤ) (number bytes : ℕ) : Sent → Type 0 where
  block-length : (bytes ≡ 1024 → ⊥) → Listed template grid number bytes (Refused 1 0)
  template-length : bytes ≡ 1024 → (length template ≡ 1024 → ⊥) → Listed template grid number bytes (Refused 1 1)
  template-rule : bytes ≡ 1024 → length template ≡ 1024 → (kind byte : ℕ) → record_a template ≡ NoSheet kind byte
      → Listed template grid number bytes (Refused kind byte)
  grid-short : bytes ≡ 1024 → record_a template ≡ Sheet (header_of template) → length grid < cells_of (header_of template)
      → Listed template grid number bytes (Refused 12 0)
  cell-unsent : bytes ≡ 1024 → record_a template ≡ Sheet (header_of template) → cells_of (header_of template) ≤ length grid → (i : ℕ)
      → FirstUnsent (header_of template) grid i → Listed template grid number bytes (Refused 13 i)
  number_past : bytes ≡ 1024 → CanBeSent template grid → block_count (header_of template) grid ≤ number
      → Listed template grid number bytes (Refused 14 (block_count (header_of template) grid))
  accepted : bytes ≡ 1024 → CanBeSent template grid → number < block_count (header_of template) grid → Listed template grid number bytes Written
