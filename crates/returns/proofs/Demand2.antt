-- Demand 2, the front door: what the writer refuses, what it sends, and that it reads back. Said of calls of `write_block` and `write_sheet`, and
-- of calls of `deliver`, each of which keeps its promise (paper, proof Contracts, reads them off the contracts). Each theorem cites where
-- it is shown.
use mathlib.Core.List.{List, map}
use mathlib.Core.Path.{◌≡◌, refl, sym, ◌∙◌, ap, ap₂}
use Prim.Native.Nat.{ℕ, ◌+◌, ◌*◌, ◌/◌, ◌%◌, ◌≤◌, ◌<◌}
use lib.IntN.{ℤ}
use mathlib.Core.Bool.{true, false, cond}
use mathlib.Core.Logic.{◌↔◌}
use native.Mathlib.Nat.{mod-lt, div-add-mod', div-lt_iff_lt-mul}
use native.Mathlib.Omega.{arith}
use borrow.Author.Tests.{eq-eqb, ne_eqb}
use lib.Dec.{eqb}
use lib.ListN.{length, get_or, take, drop, replicate, length-replicate}
use lib.Seq.{ext_get_or}
use Rattle.laws.specs.Lists.{below, joined}
use Rattle.laws.proofs.Lists.{map_same}
use Rattle.frame.specs.Frame.{columns_of, rows_of, cells_of}
use Rattle.frame.specs.declared.Header.{Header}
use Rattle.heading.specs.Heading.{header_of}
use Rattle.heading.proofs.HeadingFacts.{header-facts}
use Rattle.sheet.proofs.SheetObeys.{sheet-obeys}
use Rattle.session.specs.Session.{complete, fresh}
use Rattle.ground.specs.Blocks.{block_at}
use Rattle.ground.proofs.BlocksJoined.{block-at}
use Rattle.ground.specs.Posts.{void}
use Rattle.delivery.specs.declared.Answer.TheVariants.{Taken}
use Rattle.meaning.specs.Deliveries.{Call, Fresh, session_after, grid_after, deliveries, answers}
use Rattle.delivery.specs.Deliver.{lend}
use Rattle.meaning.proofs.Desks.{Desk, desk, at_first, after_all, all_answered, calls-desk, calls-answers, calls_for, calls-kept, calls-deliver}
use Rattle.written.specs.Sending.Sent.{Written}
use Rattle.written.specs.Cells.{column_cells, first_row, cells_sent, block_count}
use Rattle.written.specs.Blocks.{block_sent}
use Rattle.written.specs.Sending.{block_objection, sent_by, sheet_sent_objection, sent_text, count_of}
use Rattle.written.proofs.ColumnsSent.{cell-sent}
use Rattle.written.proofs.SheetSent.{column-cell, sheet-cell, sheet-length, start-from}
use Rattle.returns.specs.Writers.{Writing, Wrote, SheetWriting, WroteSheet, CanBeSent, Accepts, Listed}
use Rattle.returns.specs.Header.{header_sent}
use Rattle.returns.proofs.Accepted.{all-cells, accepts-fine, fine-accepts}
use Rattle.returns.proofs.Following.{Follows, start_by}
use Rattle.returns.proofs.InOrder.{delivery, in_order}
use Rattle.returns.proofs.SentFollows.{start_is, follows}
use Rattle.returns.proofs.Refusals as Refusals
use Rattle.returns.proofs.ShutOutWriters.{RealsFit}
use Rattle.returns.proofs.InOrder as Order
use Rattle.returns.proofs.ShutOutWriters as Shut
use Rattle.returns.proofs.WholeSheets as Whole
use Rattle.returns.proofs.Alike as Alike
use Rattle.meaning.specs.PaperSheet.{paper_a, paper_cells}

-- ---- 1. no second answer: two calls that are given the same return the same and leave the same bytes

pub one-writing : (template : List ℕ) (grid : List ℤ) (w v : Writing) → Wrote template grid w → Wrote template grid v
    → w.number ≡ v.number → w.lent ≡ v.lent → (w.returned ≡ v.returned) × (w.left ≡ v.left)
one-writing template grid w v p q n l = (
  p.answers ∙ ap₂ (λ (m : ℕ) (b : List ℕ). sent_by (block_objection template grid m (length b))) n l ∙ sym q.answers,
  p.writes
      ∙ ap₂ (λ (m : ℕ) (b : List ℕ). cond (eqb (block_objection template grid m (length b)).kind 0) (block_sent template (header_of template) grid m) b) n l
      ∙ sym q.writes,
)

-- ---- 2. the writer refuses exactly what document 01 lists

module _ (template : List ℕ) (grid : List ℤ) (w : Writing) (promised : Wrote template grid w) where
  -- each answer, with kind and number, is the one that document 01's list tells of template, cells, number and lent block
  pub answered-as-listed : Listed template grid w.number (length w.lent) w.returned
  answered-as-listed = rw promised.answers (Refusals.listed template grid w.number (length w.lent))

  fine-or-not : (w.returned ≡ Written) ↔ ((block_objection template grid w.number (length w.lent)).kind ≡ 0)
  fine-or-not =
      Refusals.written-fine w.returned (block_objection template grid w.number (length w.lent)) promised.answers

  pub accepted-exactly : (w.returned ≡ Written) ↔ Accepts template grid w.number w.lent
  accepted-exactly = (
    λ e. fine-accepts template grid w.number w.lent (fine-or-not.0 e),
    λ a. promised.answers ∙ ap sent_by (accepts-fine template grid w.number w.lent a),
  )

  -- a refusal leaves the lent block as it was
  pub refused-keeps : (w.returned ≡ Written → ⊥) → w.left ≡ w.lent
  refused-keeps bad =
      let f = block_objection template grid w.number (length w.lent) in
      let k : eqb f.kind 0 ≡ false = ne_eqb f.kind 0 (λ z. bad (fine-or-not.1 z)) in
      promised.writes ∙ (λ i. cond (k i) (block_sent template (header_of template) grid w.number) w.lent)

  -- an accepted block is the one that document 01 tells
  pub accepted-writes : Accepts template grid w.number w.lent → w.left ≡ block_sent template (header_of template) grid w.number
  accepted-writes a =
      let f = block_objection template grid w.number (length w.lent) in
      let k : eqb f.kind 0 ≡ true = eq-eqb f.kind 0 (fine-or-not.0 (accepted-exactly.1 a)) in
      promised.writes ∙ (λ i. cond (k i) (block_sent template (header_of template) grid w.number) w.lent)

-- ---- 3. what is sent reads back as it was given, where it lies

-- blocks that are those of a sheet that can be sent, delivered in order from a fresh session
module _ (template : List ℕ) (grid : List ℤ) (can : CanBeSent template grid) (block : ℕ → List ℕ)
    (sent : (b : ℕ) → b < block_count (header_of template) grid → block b ≡ block_sent template (header_of template) grid b)
    (lent : List ℤ) (room : cells_of (header_of template) ≤ length lent) (cs : List Call) (kept : Fresh 0 lent cs)
    (order : deliveries cs ≡ in_order block (block_count (header_of template) grid)) where
  abbrev h : Header
  h = header_of template

  abbrev count : ℕ
  count = block_count h grid

  count-is : start_by (cells_sent h grid) (columns_of h) ≡ count
  count-is = start_is template h grid can.sheet can.room (all-cells template grid can) (columns_of h)

  layout : Follows (block_sent template h grid) (cells_sent h grid) (λ c. first_row (column_cells h grid c)) (header_sent h grid)
  layout = follows template h grid can.sheet can.room (all-cells template grid can)

  same-order : deliveries cs ≡ in_order (block_sent template h grid) (start_by (cells_sent h grid) (columns_of h))
  same-order =
      order
      ∙ map_same (delivery block) (delivery (block_sent template h grid)) 0 count
      (λ b p q. ap (λ (l : List ℕ). record { number = b; bytes = l }) (sent b (omega (arith, q))))
      ∙ ap (in_order (block_sent template h grid)) (sym count-is)

  abbrev end : Desk
  end = after_all (at_first 0 lent) (in_order (block_sent template h grid) (start_by (cells_sent h grid) (columns_of h)))

  same-desk : desk (session_after fresh cs) (lend (grid_after lent cs)) ≡ end
  same-desk = calls-desk kept ∙ ap (after_all (at_first 0 lent)) same-order

  -- each is taken
  pub sent-taken : answers cs ≡ replicate count Taken
  sent-taken =
      calls-answers kept
      ∙ ap (all_answered (at_first 0 lent)) same-order
      ∙ Order.all-taken (block_sent template h grid) (cells_sent h grid) (λ c. first_row (column_cells h grid c)) (header_sent h grid) layout lent room
      (start_by (cells_sent h grid) (columns_of h)) (omega arith)
      ∙ ap (λ (n : ℕ). replicate n Taken) count-is

  -- they complete the sheet
  pub sent-complete : complete (session_after fresh cs) ≡ true
  sent-complete =
      ap (λ (k : Desk). complete k.session) same-desk
      ∙ Order.completes (block_sent template h grid) (cells_sent h grid) (λ c. first_row (column_cells h grid c)) (header_sent h grid) layout lent room

  -- the header is the template's: its corners, spacings and units, with the columns for n, the extremes of the cells, and accuracy 0
  pub header-back : (session_after fresh cs).header ≡ header_sent h grid
  header-back =
      ap (λ (k : Desk). k.session.header) same-desk
      ∙ Order.same-header (block_sent template h grid) (cells_sent h grid) (λ c. first_row (column_cells h grid c)) (header_sent h grid) layout lent room

  -- no cell is added or lost
  pub as-many-back : length (grid_after lent cs) ≡ length lent
  as-many-back =
      ap (λ (k : Desk). length k.lent.grid) same-desk
      ∙ Order.same_length (block_sent template h grid) (cells_sent h grid) (λ c. first_row (column_cells h grid c)) (header_sent h grid) layout lent room

  cell-back : (i : ℕ) → i < cells_of h → get_or (grid_after lent cs) i void ≡ get_or grid i void
  cell-back i lt =
      let rows = rows_of h in
      let facts = header-facts h (sheet-obeys template h can.sheet) in
      let some : 0 < rows = facts.rows.0 in
      let j = i / rows in
      let q = i % rows in
      let less : q < rows = mod-lt i some in
      let inside : j < columns_of h = (div-lt_iff_lt-mul some).1 lt in
      let e : j * rows + q ≡ i = div-add-mod' i rows in
      ap (λ (k : Desk). get_or k.lent.grid i void) same-desk
      ∙ ap (λ (a : ℕ). get_or end.lent.grid a void) (sym e)
      ∙ Order.each-cell (block_sent template h grid) (cells_sent h grid) (λ c. first_row (column_cells h grid c)) (header_sent h grid) layout lent room
      j q inside less
      ∙ sym (cell-sent (column_cells h grid j) q)
      ∙ column-cell h grid j q less
      ∙ ap (λ (a : ℕ). get_or grid a void) e

  -- every cell of the sheet is the writer's
  pub cells-back : take (cells_of h) (grid_after lent cs) ≡ take (cells_of h) grid
  cells-back =
      let l : length (take (cells_of h) (grid_after lent cs)) ≡ cells_of h = sheet-length h (grid_after lent cs) (omega (arith, room, as-many-back)) in
      ext_get_or void (take (cells_of h) (grid_after lent cs)) (take (cells_of h) grid) (l ∙ sym (sheet-length h grid can.room))
      (λ i lt.
      let inside : i < cells_of h = omega (arith, lt, l) in
      sheet-cell h (grid_after lent cs) i inside ∙ cell-back i inside ∙ sym (sheet-cell h grid i inside))

  -- cells past it are as lent
  pub past_back : drop (cells_of h) (grid_after lent cs) ≡ drop (cells_of h) lent
  past_back =
      ap (λ (k : Desk). drop (cells_of h) k.lent.grid) same-desk
      ∙ Order.past-cells (block_sent template h grid) (cells_sent h grid) (λ c. first_row (column_cells h grid c)) (header_sent h grid) layout lent room

-- blocks that calls of `write_block` left are such blocks: one call for each number, each with a block of 1,024 bytes lent
module _ (template : List ℕ) (grid : List ℤ) (can : CanBeSent template grid) (calls : ℕ → Writing)
    (promised : (b : ℕ) → Wrote template grid (calls b)) (asked : (b : ℕ) → (calls b).number ≡ b)
    (long : (b : ℕ) → length (calls b).lent ≡ 1024) where
  pub written-sent : (b : ℕ) → b < block_count (header_of template) grid
      → (calls b).left ≡ block_sent template (header_of template) grid b
  written-sent b lt =
      accepted-writes template grid (calls b) (promised b)
      (record { long = long b; sendable = can; below = omega (arith, lt, asked b) })
      ∙ ap (block_sent template (header_of template) grid) (asked b)

-- ---- 4. a whole sheet in one call

module _ (template : List ℕ) (grid : List ℤ) (w : SheetWriting) (promised : WroteSheet template grid w) where
  abbrev blocks : ℕ
  blocks = block_count (header_of template) grid

  fine-or-not-sheet : (w.returned ≡ Written) ↔ ((sheet_sent_objection template grid (length w.lent)).kind ≡ 0)
  fine-or-not-sheet = Refusals.written-fine w.returned (sheet_sent_objection template grid (length w.lent)) promised.answers

  -- accepted exactly where the sheet can be sent and the buffer has its blocks' bytes
  pub sheet-accepted-exactly : (w.returned ≡ Written) ↔ (CanBeSent template grid × (length w.lent ≡ 1024 * blocks))
  sheet-accepted-exactly = (
    λ e. Whole.sheet-fine-sent template grid (length w.lent) (fine-or-not-sheet.0 e),
    λ a. fine-or-not-sheet.1 (Whole.sent-sheet-fine template grid (length w.lent) a.0 a.1),
  )

  -- which is where each single block is accepted, and the buffer has their bytes
  pub sheet-as-blocks : (w.returned ≡ Written)
      ↔ ((length w.lent ≡ 1024 * blocks)
      × ((v : Writing) → Wrote template grid v → length v.lent ≡ 1024 → v.number < blocks → v.returned ≡ Written))
  sheet-as-blocks = (
    λ e.
        let a = sheet-accepted-exactly.0 e in
        (a.1, λ v p l lt. (accepted-exactly template grid v p).1 record { long = l; sendable = a.0; below = lt }),
    λ all.
        let zero = Whole.call template grid 0 in
        let p = Whole.call-keeps template grid 0 in
        let some = start-from (rows_of (header_of template)) grid (columns_of (header_of template)) in
        let first : zero.returned ≡ Written = all.1 zero p (length-replicate {A = ℕ} 1024 0) (omega (arith, some)) in
        sheet-accepted-exactly.1 (((accepted-exactly template grid zero p).0 first).sendable, all.0),
  )

  -- a refusal leaves the buffer as it was
  pub sheet-refused-keeps : (w.returned ≡ Written → ⊥) → w.left ≡ w.lent
  sheet-refused-keeps bad =
      let f = sheet_sent_objection template grid (length w.lent) in
      let k : eqb f.kind 0 ≡ false = ne_eqb f.kind 0 (λ z. bad (fine-or-not-sheet.1 z)) in
      promised.writes ∙ (λ i. cond (k i) (sent_text template grid (count_of template grid)) w.lent)

  -- what is accepted is the single blocks, joined
  pub sheet-is-blocks : w.returned ≡ Written → w.left ≡ joined (map (block_sent template (header_of template) grid) (below blocks))
  sheet-is-blocks e =
      let f = sheet_sent_objection template grid (length w.lent) in
      let k : eqb f.kind 0 ≡ true = eq-eqb f.kind 0 (fine-or-not-sheet.0 e) in
      let n : count_of template grid ≡ blocks = Whole.count-sent template grid (sheet-accepted-exactly.0 e).0 in
      promised.writes
      ∙ (λ i. cond (k i) (sent_text template grid (count_of template grid)) w.lent)
      ∙ ap (sent_text template grid) n

  -- so its blocks, delivered in order, read back as section 3 tells
  pub sheet-blocks : w.returned ≡ Written → (b : ℕ) → b < blocks → block_at w.left b ≡ block_sent template (header_of template) grid b
  sheet-blocks e b lt =
      ap (λ (t : List ℕ). block_at t b) (sheet-is-blocks e)
      ∙ block-at (block_sent template (header_of template) grid) blocks (Whole.long template grid (sheet-accepted-exactly.0 e).0) blocks b
      (omega arith) lt

-- ---- 5. shut out

-- blocks 0 and 1 of the paper's sheet are written, and are not the same
module _ (w v : Writing) (p : Wrote paper_a paper_cells w) (q : Wrote paper_a paper_cells v) (a : w.number ≡ 0) (b : v.number ≡ 1)
    (l : length w.lent ≡ 1024) (m : length v.lent ≡ 1024) where
  pub paper-sent : (w.returned ≡ Written) × (v.returned ≡ Written)
  paper-sent = Shut.paper-sent w v p q a b l m

  pub not-the-same-block : w.left ≡ v.left → ⊥
  not-the-same-block = Shut.not-the-same-block w v p q a b l m

-- two grids of one template whose blocks are the same are the same sheet
module _ (template : List ℕ) (g g' : List ℤ) (can : CanBeSent template g) (can' : CanBeSent template g') (same : Alike.SameBlocks template g g') where
  pub alike-as-many : block_count (header_of template) g ≡ block_count (header_of template) g'
  alike-as-many = Alike.as_many template g g' can can' same

  back : (f : List ℤ) → CanBeSent template f
      → take (cells_of (header_of template)) (Alike.desk_of template g f (block_count (header_of template) f)).lent.grid
      ≡ take (cells_of (header_of template)) f
  back f able =
      let ds = in_order (block_sent template (header_of template) f) (block_count (header_of template) f) in
      let cs = calls_for (at_first 0 g) ds in
      let sent = calls-deliver (at_first 0 g) ds in
      let kept : Fresh 0 g cs = calls-kept (at_first 0 g) ds in
      ap (λ (k : Desk). take (cells_of (header_of template)) k.lent.grid) (sym (calls-desk kept ∙ ap (after_all (at_first 0 g)) sent))
      ∙ cells-back template f able (block_sent template (header_of template) f) (λ b lt. refl) g can.room cs kept sent

  pub no-two-grids-alike : take (cells_of (header_of template)) g ≡ take (cells_of (header_of template)) g'
  no-two-grids-alike =
      let cells = cells_of (header_of template) in
      sym (back g can)
      ∙ ap (λ (k : Desk). take cells k.lent.grid)
      (Alike.desks-alike template g g g' same (block_count (header_of template) g) (omega arith) (omega (arith, alike-as-many)))
      ∙ ap (λ (n : ℕ). take cells (Alike.desk_of template g g' n).lent.grid) alike-as-many
      ∙ back g' can'

-- ---- 6. no written real needs more than 15 digits, 6 in the spacings

-- every real of a written block fits 15 digits in its 24 bytes, every spacing 6 digits in its 12
pub fifteen_digits : (template : List ℕ) (grid : List ℤ) → CanBeSent template grid → RealsFit (header_of template) grid
fifteen_digits = Shut.fifteen_digits
