-- The blocks that the writer's definition sends follow the layout of a sheet: what Following asks is read back of each.
use mathlib.Core.List.{List}
use mathlib.Core.Path.{◌≡◌, sym, ◌∙◌, ap, refl}
use Prim.Native.Nat.{ℕ, min, zero, suc, ◌+◌, ◌*◌, ◌-◌, ◌≤◌, ◌<◌}
use native.Mathlib.Omega.{arith}
use borrow.Author.Tests.{leb-true, leb-false}
use lib.Dec.{leb}
use lib.IntN.{ℤ, pos}
use lib.ListN.{length, take, drop, length-drop}
use lib.Seq.{take_all, take-length}
use mathlib.Core.Bool.{true}
use Rattle.laws.proofs.Tests.{by-test}
use Rattle.lattice.specs.Lattice.{lattice_of, place_of}
use Rattle.field.specs.declared.Fault.{Fault}
use Rattle.field.specs.Field.{rest_fault}
use Rattle.frame.specs.Frame.{columns_of, rows_of, west, east, south, north, cells_of, z_of}
use Rattle.frame.specs.declared.Header.{Header}
use Rattle.heading.specs.Heading.{header_of, header_obeys}
use Rattle.heading.proofs.HeadingFacts.{Heading, header-facts}
use Rattle.sheet.specs.RecordA.{record_a, fault_of}
use Rattle.sheet.specs.RecordA.Checked.{Sheet}
use Rattle.sheet.proofs.SheetObeys.{sheet-obeys}
use Rattle.profile.specs.RecordB.{head_of, head_fault}
use Rattle.profile.specs.declared.record_b.Head.{Head}
use Rattle.ground.specs.Posts.{posts_fault, posts_of, heights, blocks_for}
use Rattle.ground.specs.Extremes.{least_stated, greatest_stated}
use Rattle.spell.specs.Spell.{real_fits}
use Rattle.meaning.specs.Text.{room_in}
use Rattle.meaning.specs.Rules.{posts_of_block, posts_byte}
use Rattle.written.specs.Cells.{sendable, column_cells, first_row, cells_sent, start_sent}
use Rattle.written.specs.Blocks.{sheet_cells, x_sent, y_sent, head_text, profile_block, block_sent}
use Rattle.written.proofs.PostsSent.{cells_of_block, AllSent}
use Rattle.written.proofs.SheetSent.{least-sheet, greatest-sheet, first-start, start-next}
use Rattle.written.proofs.PlacesSent.{x-stands, y-sent-stands}
use Rattle.written.proofs.HeadSent.{HeadFits, head-length}
use Rattle.written.proofs.BlocksSent.{zero_is, profile-is, sent-all, row_in, head-fits, sheet-least, sheet-greatest, block-long}
use Rattle.returns.specs.Header.{header_sent}
use Rattle.returns.proofs.PostsRead.{block-posts, block-rest, block-heights}
use Rattle.returns.proofs.HeadReads.{head-is, head-fine}
use Rattle.returns.proofs.ZeroReads.{template-length, zero-header, zero-faultless}
use Rattle.returns.proofs.Following.{Follows, start_by}

same-front : (l : List ℤ) (n : ℕ) → take n l ≡ take (min (length l) n) l
same-front l n =
    by-test (leb n (length l))
    (λ t. let le = leb-true n (length l) t in let e : n ≡ min (length l) n = omega (arith, le) in ap (λ (a : ℕ). take a l) e)
    (λ t.
    let lt = leb-false n (length l) t in
    let e : min (length l) n ≡ length l = omega (arith, lt) in
    take_all n l (omega (arith, lt)) ∙ sym (ap (λ (a : ℕ). take a l) e ∙ take-length l))

-- the cells of a profile's block, by their count
part-is : (cells : List ℤ) (q : ℕ) → cells_of_block cells q ≡ take (posts_of_block (length cells) q) (drop (room_in q) cells)
part-is cells zero = same-front cells 146
part-is cells (suc q) =
    let d = drop (146 + 170 * q) cells in
    let m : length d ≡ length cells - (146 + 170 * q) = length-drop (146 + 170 * q) cells in
    same-front d 170 ∙ ap (λ (a : ℕ). take (min a 170) d) m

module _ (template : List ℕ) (h : Header) (grid : List ℤ) (read : record_a template ≡ Sheet h) (room : cells_of h ≤ length grid)
    (all : sendable (z_of h) (sheet_cells h grid) ≡ cells_of h) where
  obeys : header_obeys h ≡ true
  obeys = sheet-obeys template h read

  facts : Heading h
  facts = header-facts h obeys

  abbrev cells : ℕ → List ℤ
  cells c = cells_sent h grid c

  abbrev sent : ℕ → List ℕ
  sent = block_sent template h grid

  abbrev row_sent : ℕ → ℕ
  row_sent c = first_row (column_cells h grid c)

  pub start_is : (c : ℕ) → start_by cells c ≡ start_sent h grid c
  start_is zero = sym (first-start (rows_of h) grid)
  start_is (suc c) = ap (λ (a : ℕ). a + blocks_for (length (cells c))) (start_is c) ∙ sym (start-next (rows_of h) grid c)

  -- block q of a column's profile
  here : (c q : ℕ) → c < columns_of h → q < blocks_for (length (cells c)) → sent (start_by cells c + q) ≡ profile_block h grid c q
  here c q lt less = ap (λ (a : ℕ). sent (a + q)) (start_is c) ∙ profile-is template h grid c q lt less

  z-some : 1 ≤ z_of h
  z-some = facts.zstep.least

  module _ (c : ℕ) (lt : c < columns_of h) where
    all-sent : AllSent (z_of h) (cells c)
    all-sent = sent-all h grid obeys room all c lt

    fits : HeadFits h grid c
    fits = head-fits h grid obeys room all c lt

    head-long : length (head_text h grid c) ≡ 144
    head-long = head-length h grid c fits

    first-here : sent (start_by cells c) ≡ profile_block h grid c 0
    first-here =
        let e : start_by cells c ≡ start_by cells c + 0 = omega arith in ap sent e ∙ here c 0 lt (omega arith)

    head-here : head_of (sent (start_by cells c))
        ≡ record {
          posts = length (cells c);
          x = x_sent h c;
          y = y_sent h grid c;
          datum = pos 0;
          least = least_stated (cells c);
          greatest = greatest_stated (cells c);
        }
    head-here = ap head_of first-here ∙ head-is h grid c fits

    head-good : (head_fault 0 (suc c) (sent (start_by cells c))).kind ≡ 0
    head-good =
        ap (λ (b : List ℕ). (head_fault 0 (suc c) b).kind) first-here
        ∙ head-fine h grid c fits all-sent

  abbrev low : real_fits 15 24 (least_stated (sheet_cells h grid)) ≡ true
  low = sheet-least h grid obeys room all

  abbrev high : real_fits 15 24 (greatest_stated (sheet_cells h grid)) ≡ true
  high = sheet-greatest h grid obeys room all

  long : (b : ℕ) → b < start_by cells (columns_of h) → length (sent b) ≡ 1024
  long b lt = block-long h grid obeys room all template (template-length template h read) b (omega (arith, lt, start_is (columns_of h)))

  pub follows : Follows sent cells row_sent (header_sent h grid)
  follows =
      record {
        header_is = ap header_of (zero_is template h grid) ∙ zero-header template h grid read low high;
        header-fine = ap (λ (b : List ℕ). (fault_of 0 b).kind) (zero_is template h grid) ∙ zero-faultless template h grid read low high;
        all-columns = refl;
        some-columns = facts.columns.0;
        no-record-c = refl;
        long = long;
        head-fine = head-good;
        posts-are = λ c lt. ap (λ (d : Head). d.posts) (head-here c lt);
        datum-zero = λ c lt. ap (λ (d : Head). d.datum) (head-here c lt);
        least-is = λ c lt. ap (λ (d : Head). d.least) (head-here c lt);
        greatest-is = λ c lt. ap (λ (d : Head). d.greatest) (head-here c lt);
        column-is =
            λ c lt.
            ap (λ (d : Head). place_of (lattice_of (west h) (east h) h.xstep) h.xstep d.x) (head-here c lt) ∙ x-stands h obeys c lt;
        row_is =
            λ c lt.
            ap (λ (d : Head). place_of (lattice_of (south h) (north h) h.ystep) h.ystep d.y) (head-here c lt)
            ∙ y-sent-stands h obeys grid room c lt;
        row_room = row_in h grid obeys room all;
        posts-fine =
            λ c q lt less.
            ap (λ (b : List ℕ). (posts_fault (posts_of_block (length (cells c)) q) (posts_byte q) b).kind) (here c q lt less)
            ∙ ap (λ (f : Fault). f.kind) (block-posts h grid c z-some (all-sent c lt) (head-long c lt) q);
        rest-blank =
            λ c q lt less.
            ap (λ (b : List ℕ). (rest_fault (posts_byte q + 6 * posts_of_block (length (cells c)) q) b).kind) (here c q lt less)
            ∙ ap (λ (f : Fault). f.kind) (block-rest h grid c z-some (all-sent c lt) (head-long c lt) q);
        cells_are =
            λ c q lt less.
            ap (λ (b : List ℕ). heights (z_of h) (pos 0) (posts_of (posts_of_block (length (cells c)) q) (posts_byte q) b)) (here c q lt less)
            ∙ block-heights h grid c z-some (all-sent c lt) (head-long c lt) q
            ∙ part-is (cells c) q;
        sheet-least = sym (least-sheet h grid);
        sheet-greatest = sym (greatest-sheet h grid);
      }
