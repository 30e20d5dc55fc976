-- Document 01, "How much a promise says" and "Writing": no writer that it names keeps the promise of `write_block`, and no real that is
-- written needs more than 15 digits. The paper's sheet, sent, shuts the writers out; what fits a real's field carries the rest.
use mathlib.Core.List.{List}
use Prim.Native.Nat.{ℕ, ◌≤◌, ◌<◌}
use lib.ListN.{replicate, get_or, length}
use mathlib.Core.Path.{◌≡◌, refl, sym, ◌∙◌, ap, ap₂}
use mathlib.Core.Bool.{cond, Bool, true, false}
use native.Mathlib.Omega.{arith}
use lib.Dec.{eqb, ltb}
use lib.IntN.{ℤ, pos}
use borrow.Author.Tests.{ne_eqb}
use Rattle.laws.specs.Digits.{places, short}
use Rattle.laws.proofs.Tables.{all}
use Rattle.laws.proofs.Tests.{clash}
use Rattle.number.specs.Integer.{integer}
use Rattle.number.specs.Real.{real, billionths}
use Rattle.lattice.specs.Lattice.{lattice_of}
use Rattle.frame.specs.Frame.{columns_of, cells_of, z_of}
use Rattle.frame.specs.declared.Header.{Header}
use Rattle.heading.specs.Heading.{header_of, header_obeys}
use Rattle.heading.proofs.HeadingFacts.{header-facts}
use Rattle.sheet.specs.RecordA.{record_of, usgs_front, back}
use Rattle.sheet.proofs.SheetObeys.{sheet-obeys}
use Rattle.session.specs.Session.{sound, complete}
use Rattle.session.specs.declared.Session.{Session}
use Rattle.ground.specs.Extremes.{least_stated, greatest_stated}
use Rattle.numerals.specs.Numerals.{spell, count}
use Rattle.spell.specs.Spell.{integer_text, real_fits}
use Rattle.delivery.specs.declared.Answer.{Answer}
use Rattle.delivery.specs.declared.Answer.TheVariants.{Taken, Held, Refused}
use Rattle.delivery.specs.Deliver.{Lent, verdict_of, deliver_of}
use Rattle.meaning.specs.PaperSheet.{paper_a, paper_cells}
use Rattle.meaning.specs.Deliveries.{Delivery}
use Rattle.meaning.proofs.Desks.{Desk, answered}
use Rattle.written.specs.Cells.{can_send, sendable, voids_before, up_to_last, profile_cells, start_at, column_for, cells_sent}
use Rattle.written.specs.Sending.Sent.{Written}
use Rattle.written.specs.Sending.{objection, sent_by, sheet_objection, block_objection}
use Rattle.written.specs.Blocks.{pieces_by, block_zero, block_sent, profile_block, sheet_cells, pieces_a, x_sent, y_sent}
use Rattle.written.proofs.PiecesSent.{piece_fits, CornerFits, header-reals, zero-fits, all_fit}
use Rattle.written.proofs.HeadSent.{HeadFits}
use Rattle.written.proofs.BlocksSent.{head-fits, sheet-least, sheet-greatest}
use Rattle.returns.specs.Writers.{Writing, Wrote, CanBeSent}
use Rattle.returns.proofs.Accepted.{all-cells}

-- ---- the paper's sheet, sent

-- a lent block
abbrev zeros : List ℕ
zeros = replicate 1024 0

-- blocks 0 and 1 are accepted
paper-fine0 : block_objection paper_a paper_cells 0 1024 ≡ objection 0 0
unfolding block_objection sheet_objection record_of usgs_front back header_of lattice_of integer real billionths places short paper_a can_send sendable start_at profile_cells up_to_last voids_before
paper-fine0 = refl

paper-fine1 : block_objection paper_a paper_cells 1 1024 ≡ objection 0 0
unfolding block_objection sheet_objection record_of usgs_front back header_of lattice_of integer real billionths places short paper_a can_send sendable start_at profile_cells up_to_last voids_before
paper-fine1 = refl

-- block 0 begins with the `P` of its name, block 1 with a blank
abbrev first_byte : List ℕ → ℕ
first_byte block = get_or block 0 0

letter0 : first_byte (block_sent paper_a (header_of paper_a) paper_cells 0) ≡ 80
unfolding block_sent block_zero pieces_by paper_a
letter0 = refl

letter1 : first_byte (block_sent paper_a (header_of paper_a) paper_cells 1) ≡ 32
unfolding block_sent header_of lattice_of integer real billionths places short paper_a column_for start_at profile_cells up_to_last voids_before profile_block integer_text spell count
letter1 = refl

-- ---- no such writer keeps the promise

module _ (number : ℕ) (fine : block_objection paper_a paper_cells number 1024 ≡ objection 0 0) (w : Writing) (promised : Wrote paper_a paper_cells w)
    (asked : w.number ≡ number) (long : length w.lent ≡ 1024) where
  nothing-wrong : block_objection paper_a paper_cells w.number (length w.lent) ≡ objection 0 0
  nothing-wrong = ap₂ (block_objection paper_a paper_cells) asked long ∙ fine

  paper-written : w.returned ≡ Written
  paper-written = promised.answers ∙ ap sent_by nothing-wrong

  paper-block : w.left ≡ block_sent paper_a (header_of paper_a) paper_cells number
  paper-block =
      promised.writes
      ∙ (λ i. cond (eqb (nothing-wrong i).kind 0) (block_sent paper_a (header_of paper_a) paper_cells w.number) w.lent)
      ∙ ap (block_sent paper_a (header_of paper_a) paper_cells) asked

-- blocks 0 and 1 of the paper's sheet are written, and are not the same
module _ (w v : Writing) (p : Wrote paper_a paper_cells w) (q : Wrote paper_a paper_cells v) (a : w.number ≡ 0) (b : v.number ≡ 1)
    (l : length w.lent ≡ 1024) (m : length v.lent ≡ 1024) where
  pub paper-sent : (w.returned ≡ Written) × (v.returned ≡ Written)
  paper-sent = (paper-written 0 paper-fine0 w p a l, paper-written 1 paper-fine1 v q b m)

  pub not-the-same-block : w.left ≡ v.left → ⊥
  not-the-same-block same =
      let e : ◌≡◌ {A = ℕ} 80 32
      = sym letter0 ∙ ap first_byte (sym (paper-block 0 paper-fine0 w p a l) ∙ same ∙ paper-block 1 paper-fine1 v q b m) ∙ letter1 in
      omega (arith, e)

-- ---- the reader of the definition, by which the cells that two grids send are compared

abbrev is_taken : Answer → Bool
is_taken Taken = true
is_taken Held = false
is_taken (Refused kind block byte) = false

-- once the sheet is complete the definition takes no later block
none-defined : (s : Session) (number : ℕ) (block : List ℕ) (lent : Lent) → 1 ≤ number → complete s ≡ true
    → (deliver_of s number block lent).answer ≡ Taken → ⊥
unfolding verdict_of
none-defined s number block lent some done t =
    clash (sym (ap is_taken t) ∙ go (eqb (length block) 1024) refl (sound s) refl (ltb number s.taken) refl (ltb s.taken number) refl)
  where
    n : eqb number 0 ≡ false
    n = ne_eqb number 0 (λ z. omega (arith, z, some))

    go : (a : Bool) → eqb (length block) 1024 ≡ a → (b : Bool) → sound s ≡ b → (c : Bool) → ltb number s.taken ≡ c
        → (d : Bool) → ltb s.taken number ≡ d → is_taken (deliver_of s number block lent).answer ≡ false
    go false p b q c u d v = rw p
    go true p false q c u d v = rw (p, q)
    go true p true q true u d v = rw (p, q, u)
    go true p true q false u true v = rw (p, q, u, v)
    go true p true q false u false v = rw (p, q, u, v, n, done)

-- nor does a desk
pub none-when-complete : (k : Desk) (d : Delivery) → 1 ≤ d.number → complete k.session ≡ true → answered k d ≡ Taken → ⊥
none-when-complete k d some done t = none-defined k.session d.number d.bytes k.lent some done t

-- ---- every real that is sent has digits enough in its field

-- the reals of every written block: those of block 0, piece by piece and by name (corners, extremes, the angle zero, the spacings), and
-- those of each profile (the place of its southern post, the datum zero, its extremes)
pub record RealsFit (h : Header) (grid : List ℤ) : Type 0 where
  pub block-zero : all piece_fits (pieces_a h grid) ≡ true
  pub sw : CornerFits h.sw
  pub nw : CornerFits h.nw
  pub ne : CornerFits h.ne
  pub se : CornerFits h.se
  pub least : real_fits 15 24 (least_stated (sheet_cells h grid)) ≡ true
  pub greatest : real_fits 15 24 (greatest_stated (sheet_cells h grid)) ≡ true
  pub nought : real_fits 15 24 (pos 0) ≡ true
  pub x : (c : ℕ) → c < columns_of h → real_fits 15 24 (x_sent h c) ≡ true
  pub y : (c : ℕ) → c < columns_of h → real_fits 15 24 (y_sent h grid c) ≡ true
  pub column-least : (c : ℕ) → c < columns_of h → real_fits 15 24 (least_stated (cells_sent h grid c)) ≡ true
  pub column-greatest : (c : ℕ) → c < columns_of h → real_fits 15 24 (greatest_stated (cells_sent h grid c)) ≡ true
  pub xstep : real_fits 6 12 (pos h.xstep) ≡ true
  pub ystep : real_fits 6 12 (pos h.ystep) ≡ true
  pub zstep : real_fits 6 12 (pos h.zstep) ≡ true

module _ (template : List ℕ) (grid : List ℤ) (can : CanBeSent template grid) where
  abbrev h : Header
  h = header_of template

  obeys : header_obeys h ≡ true
  obeys = sheet-obeys template h can.sheet

  every : sendable (z_of h) (sheet_cells h grid) ≡ cells_of h
  every = all-cells template grid can

  -- every real of a written block fits 15 digits in its 24 bytes, every spacing 6 digits in its 12
  pub fifteen_digits : RealsFit h grid
  fifteen_digits =
      let r = header-reals h obeys in
      let least = sheet-least h grid obeys can.room every in
      let greatest = sheet-greatest h grid obeys can.room every in
      let head : (c : ℕ) → c < columns_of h → HeadFits h grid c = head-fits h grid obeys can.room every in
      record {
        block-zero = all_fit h (least_stated (sheet_cells h grid)) (greatest_stated (sheet_cells h grid)) (columns_of h) obeys least greatest (header-facts h obeys).columns.1;
        sw = r.sw;
        nw = r.nw;
        ne = r.ne;
        se = r.se;
        least = least;
        greatest = greatest;
        nought = zero-fits;
        x = λ c lt. (head c lt).x;
        y = λ c lt. (head c lt).y;
        column-least = λ c lt. (head c lt).least;
        column-greatest = λ c lt. (head c lt).greatest;
        xstep = r.xstep;
        ystep = r.ystep;
        zstep = r.zstep;
      }
