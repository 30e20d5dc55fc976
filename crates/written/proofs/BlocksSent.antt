-- Every block that is sent is 1,024 bytes: block 0, and each of a column's profile, which stand from the column's start on.
use mathlib.Core.Bool.{false, cond, true}
use mathlib.Core.List.{List}
use mathlib.Core.Path.{◌≡◌, refl, ◌∙◌, ap, sym}
use Prim.Native.Nat.{ℕ, ◌+◌, ◌-◌, ◌<◌, ◌≤◌}
use native.Mathlib.Omega.{arith}
use borrow.Author.Tests.{ne_eqb, eqb-true, eqb-false}
use lib.Dec.{eqb}
use lib.IntN.{ℤ}
use lib.ListN.{length}
use Rattle.laws.proofs.Tests.{by-test}
use Rattle.frame.specs.Frame.{columns_of, rows_of, cells_of, z_of}
use Rattle.frame.specs.declared.Header.{Header}
use Rattle.heading.specs.Heading.{header_obeys}
use Rattle.heading.proofs.HeadingFacts.{Heading, header-facts}
use Rattle.ground.specs.Posts.{blocks_for}
use Rattle.ground.specs.Extremes.{least_stated, greatest_stated}
use Rattle.spell.specs.Spell.{real_fits}
use Rattle.written.specs.Cells.{cells_sent, start_sent, column_with, sendable, column_cells, first_row}
use Rattle.written.specs.Blocks.{block_zero, profile_block, block_sent, sheet_cells}
use Rattle.written.proofs.SheetSent.{start-next, start-from, column-with, column-length, column-sendable, sheet-length, with-below}
use Rattle.written.proofs.ColumnsSent.{some-cells, cells-room, sendable-sent}
use Rattle.written.proofs.PlacesSent.{x_fits, y-sent-fits, least_fits, greatest-fits}
use Rattle.written.proofs.PiecesSent.{zero-length}
use Rattle.written.proofs.PostsSent.{AllSent, profile-length}
use Rattle.written.proofs.HeadSent.{HeadFits, head-length}

-- ---- which block is which

module _ (template : List ℕ) (h : Header) (grid : List ℤ) where
  pub zero_is : block_sent template h grid 0 ≡ block_zero template h grid
  unfolding block_sent
  zero_is = refl

  -- block q of a column's profile
  pub profile-is : (c q : ℕ) → c < columns_of h → q < blocks_for (length (cells_sent h grid c))
      → block_sent template h grid (start_sent h grid c + q) ≡ profile_block h grid c q
  unfolding block_sent
  profile-is c q lt less =
      let number = start_sent h grid c + q in
      let n : eqb number 0 ≡ false = ne_eqb number 0 (λ z. omega (arith, z, start-from (rows_of h) grid c)) in
      let w : column_with h grid (columns_of h) number ≡ c
      = column-with (rows_of h) grid (columns_of h) c number lt (omega arith) (omega (arith, less, start-next (rows_of h) grid c)) in
      let d : number - start_sent h grid c ≡ q = omega arith in
      (λ i. cond (n i) (block_zero template h grid) (profile_block h grid (w i) (number - start_sent h grid (w i))))
      ∙ ap (profile_block h grid c) d

-- ---- of a sheet that can be sent

module _ (h : Header) (grid : List ℤ) (obeys : header_obeys h ≡ true) (room : cells_of h ≤ length grid)
    (all : sendable (z_of h) (sheet_cells h grid) ≡ cells_of h) where
  facts : Heading h
  facts = header-facts h obeys

  module _ (c : ℕ) (lt : c < columns_of h) where
    column-some : 1 ≤ length (column_cells h grid c)
    column-some = omega (arith, column-length h grid room c lt, facts.rows.0)

    -- every cell of a column's profile can be sent
    pub sent-all : AllSent (z_of h) (cells_sent h grid c)
    sent-all =
        sendable-sent (z_of h) (column_cells h grid c) column-some
        (column-sendable h grid room (z_of h) all c lt ∙ sym (column-length h grid room c lt))

    pub row_in : first_row (column_cells h grid c) + length (cells_sent h grid c) ≤ rows_of h
    row_in = omega (arith, cells-room (column_cells h grid c) column-some, column-length h grid room c lt)

    pub head-fits : HeadFits h grid c
    head-fits =
        let cells = cells_sent h grid c in
        let z-most = facts.zstep.greatest in
        record {
          column = omega (arith, lt, facts.columns.1);
          some = some-cells (column_cells h grid c);
          most = omega (arith, row_in, facts.rows.1);
          x = x_fits h obeys c lt;
          y = y-sent-fits h obeys grid room c lt;
          least = least_fits (z_of h) z-most cells sent-all;
          greatest = greatest-fits (z_of h) z-most cells sent-all;
        }

    pub column-long : (k : ℕ) → length (profile_block h grid c k) ≡ 1024
    column-long = profile-length h grid c sent-all (head-length h grid c head-fits)

  -- the extremes of the sheet
  sheet-all : AllSent (z_of h) (sheet_cells h grid)
  sheet-all = all ∙ sym (sheet-length h grid room)

  pub sheet-least : real_fits 15 24 (least_stated (sheet_cells h grid)) ≡ true
  sheet-least = least_fits (z_of h) facts.zstep.greatest (sheet_cells h grid) sheet-all

  pub sheet-greatest : real_fits 15 24 (greatest_stated (sheet_cells h grid)) ≡ true
  sheet-greatest = greatest-fits (z_of h) facts.zstep.greatest (sheet_cells h grid) sheet-all

  module _ (template : List ℕ) (long : length template ≡ 1024) where
    pub block-long : (b : ℕ) → b < start_sent h grid (columns_of h) → length (block_sent template h grid b) ≡ 1024
    unfolding block_sent
    block-long b lt =
        by-test (eqb b 0)
        (λ z.
        ap (λ (a : ℕ). length (block_sent template h grid a)) (eqb-true b 0 z)
        ∙ zero-length template h grid long obeys sheet-least sheet-greatest)
        (λ z.
        let c = column_with h grid (columns_of h) b in
        let inside : c < columns_of h = with-below (rows_of h) grid (columns_of h) b (omega (arith, eqb-false b 0 z)) lt in
        (λ i. length (cond (z i) (block_zero template h grid) (profile_block h grid c (b - start_sent h grid c))))
        ∙ column-long c inside (b - start_sent h grid c))
