-- Block 0 as it is painted is the sheet's. The cells that a profile sends are a stretch of the grid, lent as they stand; and the blocks
-- painted of them are the sheet's.
use mathlib.Core.List.{List, [], ◌∷◌}
use mathlib.Core.Path.{◌≡◌, sym, ap, ◌∙◌, ap₂, refl, subst}
use Prim.Native.Nat.{ℕ, zero, suc, min, ◌+◌, ◌-◌, ◌≤◌, ◌*◌, ◌<◌}
use native.Mathlib.Nat.{zero-min, min-zero, suc-min-suc, suc-mul, mul-le-mul_right}
use native.Mathlib.Omega.{arith}
use borrow.Author.Tests.{le-leb, lt-ltb}
use lib.Dec.{leb, ltb}
use lib.IntN.{ℤ}
use lib.ListN.{take, drop, length, length-take}
use lib.Seq.{take-nil, drop-drop}
use mathlib.Core.Bool.{true}
use Rattle.frame.specs.Frame.{columns_of, rows_of, cells_of, z_of}
use Rattle.frame.specs.declared.Header.{Header}
use Rattle.heading.specs.Heading.{header_obeys}
use Rattle.heading.proofs.HeadingFacts.{Heading, header-facts}
use Rattle.ground.specs.Posts.{blocks_for}
use Rattle.ground.specs.Extremes.{least_stated, greatest_stated}
use Rattle.written.specs.Blocks.{sheet_cells, block_zero, x_sent, profile_block, y_of_row}
use Rattle.written.specs.Cells.{column_cells, cells_sent}
use Rattle.written.proofs.ColumnsSent.{some-cells}
use Rattle.written.proofs.SheetSent.{column-length, sheet-length}
use Rattle.written.proofs.PlacesSent.{x_fits, y-fits, least_fits, greatest-fits}
use Rattle.written.proofs.PostsSent.{AllSent, part-sends}
use Rattle.written.proofs.BlocksSent.{sent-all, row_in}
use Rattle.columns.proofs.Columns.{drop-take, profile-place}
use Rattle.columns.proofs.GridJudged.{cells-most}
use Rattle.title.specs.Title.{title_after}
use Rattle.title.proofs.TitleFits.{zero_by, zero-whole}
use Rattle.paint.specs.Fields.{first_after, further_after}
use Rattle.paint.specs.Parts.{cells_behind, part_by, part_after}
use Rattle.paint.proofs.Fitting.{first_by, first-whole, further-whole}
use Rattle.send.specs.SendSteps.{ProfileAsked, ZeroAsked}
use Rattle.send.specs.BlockSteps.{stake_of}
use Rattle.send.proofs.ProfileLaws.{first-sent, further-sent}

-- ---- a stretch of a stretch

take-both : (m n : ℕ) (l : List ℤ) → take m (take n l) ≡ take (min m n) l
take-both zero n l = rw (zero-min n)
take-both (suc m) zero l = rw (min-zero (suc m))
take-both (suc m) (suc n) [] = sym (take-nil (min (suc m) (suc n)))
take-both (suc m) (suc n) (x ∷ l) = rw (suc-min-suc m n) (ap (λ (t : List ℤ). x ∷ t) (take-both m n l))

part_of : (l : List ℤ) (from long skip most n : ℕ) → n ≡ min most (long - skip)
    → take most (drop skip (take long (drop from l))) ≡ take n (drop (from + skip) l)
part_of l from long skip most n e =
    ap (take most) (drop-take skip long (drop from l))
    ∙ take-both most (long - skip) (drop skip (drop from l))
    ∙ ap₂ take (sym e) (drop-drop skip from l)

-- ---- the sizes of a sheet

module _ (h : Header) (obeys : header_obeys h ≡ true) where
  facts : Heading h
  facts = header-facts h obeys

  pub z-range : (1 ≤ z_of h) × (z_of h ≤ 100)
  z-range = (facts.zstep.least, facts.zstep.greatest)

  pub columns-most : columns_of h ≤ 2048
  columns-most = facts.columns.1

  pub rows-most : rows_of h ≤ 2048
  rows-most = facts.rows.1

  pub rows-least : 1 ≤ rows_of h
  rows-least = facts.rows.0

-- ---- block 0

pub title-block : {template : List ℕ} {h : Header} {grid : List ℤ} {block : List ℕ} → ZeroAsked template h grid block
    → title_after template h grid block ≡ block_zero template h grid
unfolding title_after zero_by block_zero
title-block {template} {h} {grid} {block} a =
    let s = a.sheet in
    let cells = sheet_cells h grid in
    let most = (z-range h s.obeys).1 in
    let all : AllSent (z_of h) cells = s.all ∙ sym (sheet-length h grid s.room) in
    rw (le-leb (cells_of h) (length grid) s.room)
    (zero-whole template h (least_stated cells) (greatest_stated cells) (columns_of h) block refl a.template-long a.long s.obeys
    (least_fits (z_of h) most cells all) (greatest-fits (z_of h) most cells all) (columns-most h s.obeys))

-- ---- a profile in the grid

module _ {h : Header} {grid : List ℤ} {column row posts k : ℕ} {block : List ℕ} (a : ProfileAsked h grid column row posts k block) where
  abbrev cells : List ℤ
  cells = column_cells h grid column

  abbrev sent : List ℤ
  sent = cells_sent h grid column

  abbrev from : ℕ
  from = column * rows_of h + row

  some : 1 ≤ length cells
  some = omega (arith, column-length h grid a.sheet.room column a.inside, rows-least h a.sheet.obeys)

  row-posts : row + posts ≤ rows_of h
  row-posts = omega (arith, row_in h grid a.sheet.obeys a.sheet.room a.sheet.all column a.inside, a.row_is, a.posts-are)

  posts-some : 1 ≤ posts
  posts-some = omega (arith, some-cells cells, a.posts-are)

  pub row_below : row < rows_of h
  row_below = omega (arith, row-posts, posts-some)

  pub posts-room : from + posts ≤ length grid
  posts-room =
      omega (arith, mul-le-mul_right (rows_of h) a.inside, suc-mul column (rows_of h), a.sheet.room, row-posts)

  pub from-most : from + posts ≤ 4194304
  from-most =
      omega
      (arith, mul-le-mul_right (rows_of h) a.inside, suc-mul column (rows_of h), cells-most h a.sheet.obeys (columns_of h) (rows_of h) refl refl, row-posts)

  cells-place : sent ≡ take posts (drop from grid)
  cells-place =
      profile-place cells some
      ∙ ap₂ (λ (n r : ℕ). take n (drop r cells)) (sym a.posts-are) (sym a.row_is)
      ∙ part_of grid (column * rows_of h) (rows_of h) row posts posts (omega (arith, row-posts))

  -- the code lends its cells by where they start, r
  pub all-cells : (r : ℕ) → r ≡ from → take (r + posts - r) (drop r grid) ≡ sent
  all-cells r e =
      let n : r + posts - r ≡ posts = omega arith in
      ap₂ (λ (m i : ℕ). take m (drop i grid)) n e ∙ sym cells-place

  -- ---- the block that is painted of them

  sent-most : length sent ≤ 2048
  sent-most = omega (arith, row-posts, rows-most h a.sheet.obeys, a.posts-are)

  all-sent : AllSent (z_of h) sent
  all-sent = sent-all h grid a.sheet.obeys a.sheet.room a.sheet.all column a.inside

  first-painted : first_after (suc column) (length sent) (x_sent h column) (y_of_row h row) (least_stated sent) (greatest_stated sent) (z_of h)
      (take 146 sent) block
      ≡ profile_block h grid column 0
  first-painted =
      let obeys = a.sheet.obeys in
      let most = (z-range h obeys).1 in
      first-whole refl
      (record {
        number-most = omega (arith, a.inside, columns-most h obeys);
        posts-most = sent-most;
        x_fits = x_fits h obeys column a.inside;
        y-fits = y-fits h obeys row row_below;
        least_fits = least_fits (z_of h) most sent all-sent;
        greatest-fits = greatest-fits (z_of h) most sent all-sent;
        sent = part-sends (z_of h) sent 0 146 all-sent;
        cells-most = omega (arith, length-take 146 sent);
        long = a.long;
      })
      ∙ ap (λ (r : ℕ). first_by (suc column) (length sent) (x_sent h column) (y_of_row h r) (least_stated sent) (greatest_stated sent) (z_of h) (take 146 sent)) a.row_is
      ∙ first-sent h grid column

  further-painted : (i : ℕ) → further_after (z_of h) (cells_behind sent i) block ≡ profile_block h grid column (suc i)
  further-painted i =
      further-whole (z_of h) (cells_behind sent i) block refl (part-sends (z_of h) sent (146 + 170 * i) 170 all-sent)
      (omega (arith, length-take 170 (drop (146 + 170 * i) sent))) a.long
      ∙ further-sent h grid column i

  painted : (i : ℕ) → part_by (stake_of h column row) sent i block ≡ profile_block h grid column i
  painted zero = first-painted
  painted (suc i) = further-painted i

  pub part-block : part_after (stake_of h column row) sent k block ≡ profile_block h grid column k
  unfolding part_after
  part-block =
      let few : leb (length sent) 2048 ≡ true = le-leb (length sent) 2048 sent-most in
      let here : ltb k (blocks_for (length sent)) ≡ true
      = lt-ltb k (blocks_for (length sent)) (subst (λ (n : ℕ). k < blocks_for n) a.posts-are a.within) in
      rw (few, here) (painted k)
