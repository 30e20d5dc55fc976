-- Block 0 as it is sent reads back as the template's header with what the writer puts in anew. Where each piece of the block begins carries it.
use mathlib.Core.List.{List, [], ◌∷◌, ◌++◌, map}
use Prim.Native.Nat.{ℕ, zero, suc, ◌+◌, ◌<◌, ◌≤◌, ◌%◌, ◌*◌, ◌-◌}
use lib.ListN.{get_or, length, take, drop}
use mathlib.Core.Bool.{true, cond}
use mathlib.Core.Path.{◌≡◌, sym, ◌∙◌, ap, refl}
use native.Mathlib.Nat.{le_of_suc-le-suc, not-suc-le-zero}
use lib.Seq.{take_at, drop-append-add, take-take, drop-drop}
use native.Mathlib.Omega.{arith}
use lib.IntN.{pos, ℤ}
use borrow.Author.Tests.{eq-eqb, eqb-true, eqb-false, le-leb}
use lib.Dec.{eqb, lit<}
use Rattle.laws.specs.Lists.{joined}
use Rattle.laws.specs.Sign.{not_negative}
use Rattle.laws.proofs.Tables.{all}
use Rattle.laws.proofs.Tests.{and_second, by-test, and_both, and_first}
use Rattle.number.specs.Integer.{integer, read}
use Rattle.number.specs.Real.{real}
use Rattle.number.specs.declared.Reading.{Reading}
use Rattle.field.specs.Field.{stretch, in_range, ranged, whole_at}
use Rattle.field.specs.declared.Limits.{Limits}
use Rattle.frame.specs.declared.Header.{Header}
use Rattle.frame.specs.Frame.{columns_of, rows_of, one_to2048, whole_fault}
use Rattle.heading.specs.Heading.{zone_limits, ground_limits, height_limits, fields_obey, header_obeys, header_of}
use Rattle.heading.proofs.HeadingFacts.{Ranged, Heading, header-facts, level_limits, pattern_limits, system_limits, vertical_limits, sides_limits, angle_limits, accuracy_limits, spacing_limits, rank_limits, profiles_limits}
use Rattle.sheet.specs.RecordA.{Row, judge_row, first_fault, record_a, row, usgs_front, back as back_rows, fields_of, judge, fault_of}
use Rattle.sheet.specs.RecordA.Checked.{Sheet}
use Rattle.sheet.specs.RecordA.Rule.{words, form}
use Rattle.sheet.specs.RecordASteps.{place_in}
use Rattle.sheet.proofs.RulesA.{sheet-exactly, sheet-fine}
use Rattle.sheet.proofs.HeaderA.{back_row, field-fine, verdict-sheet}
use Rattle.sheet.proofs.SheetObeys.{sheet-obeys}
use Rattle.ground.specs.Extremes.{least_stated, greatest_stated}
use Rattle.spell.specs.Spell.{real_fits}
use Rattle.spell.proofs.ReadBack.{integer-back, real-back, spacing-back}
use Rattle.written.specs.Blocks.{Piece, piece_text, sheet_cells, pieces_by, pieces_a, block_zero}
use Rattle.written.specs.Blocks.Piece.{keeps, whole_sent, real_sent, spacing}
use Rattle.written.proofs.PiecesSent.{nothing, piece_fits, piece_width, bytes_before, fit_at, piece-length, all_fit, zero-length}
use Rattle.returns.specs.Header.{header_sent}

-- ---- pieces one behind the other

abbrev piece_of : List Piece → ℕ → Piece
piece_of ps i = get_or ps i nothing

-- how many of them stand before so many bytes are full
abbrev pieces_to : ℕ → List Piece → ℕ
pieces_to n [] = 0
pieces_to n (p ∷ ps) = cond (eqb n 0) 0 (suc (pieces_to (n - piece_width p) ps))

module _ (template : List ℕ) (long : length template ≡ 1024) where
  abbrev text_of : List Piece → List ℕ
  text_of ps = joined (map (piece_text template) ps)

  piece-begins : (ps : List Piece) → all piece_fits ps ≡ true → (i : ℕ) → i < length ps
      → take (piece_width (piece_of ps i)) (drop (bytes_before ps i) (text_of ps)) ≡ piece_text template (piece_of ps i)
  piece-begins [] t i h = absurd (not-suc-le-zero h)
  piece-begins (p ∷ ps) t zero h =
      take_at (piece_text template p) (text_of ps) (piece_width p) (piece-length template long p (fit_at (p ∷ ps) t 0))
  piece-begins (p ∷ ps) t (suc i) h =
      let e = piece-length template long p (fit_at (p ∷ ps) t 0) in
      ap (λ (n : ℕ). take (piece_width (piece_of ps i)) (drop (n + bytes_before ps i) (piece_text template p ++ text_of ps))) (sym e)
      ∙ ap (take (piece_width (piece_of ps i))) (drop-append-add (piece_text template p) (text_of ps) (bytes_before ps i))
      ∙ piece-begins ps (and_second (piece_fits p) (all piece_fits ps) t) i (le_of_suc-le-suc h)

-- the text of a piece reads as what was put there
module _ (template : List ℕ) where
  abbrev ReadsBack : Piece → List ℕ → Type 0
  ReadsBack (keeps first width) text = text ≡ stretch first width template
  ReadsBack (whole_sent n) text = integer text ≡ read (pos n)
  ReadsBack (real_sent z) text = real text ≡ read z
  ReadsBack (spacing v) text = real text ≡ read (pos v)

  reads-back : (p : Piece) → piece_fits p ≡ true → (text : List ℕ) → text ≡ piece_text template p → ReadsBack p text
  reads-back (keeps first width) f text e = e
  reads-back (whole_sent n) f text e = ap integer e ∙ integer-back 6 (pos n) (omega arith) (omega arith) f
  reads-back (real_sent z) f text e = ap real e ∙ real-back 24 z (omega arith) f
  reads-back (spacing v) f text e = ap real e ∙ spacing-back 12 (pos v) (omega arith) f

-- a part of a stretch that two blocks share is shared
part : (k width most : ℕ) (l : List ℕ) → k + width ≤ most → take width (drop k (take most l)) ≡ take width (drop k l)
part zero width most l h = take-take width most l (omega (arith, h))
part (suc k) width zero l h = absurd (omega (arith, h))
part (suc k) width (suc most) [] h = refl
part (suc k) width (suc most) (x ∷ l) h = part k width most l (omega (arith, h))

shared : (a b : List ℕ) (first most k width : ℕ) → k + width ≤ most → take most (drop first a) ≡ take most (drop first b)
    → take width (drop (first + k) a) ≡ take width (drop (first + k) b)
shared a b first most k width h e =
    ap (take width) (sym (drop-drop k first a))
    ∙ sym (part k width most (drop first a) h)
    ∙ ap (λ (l : List ℕ). take width (drop k l)) e
    ∙ part k width most (drop first b) h
    ∙ ap (take width) (drop-drop k first b)

-- ---- rows without fault

pub data Reads (block : List ℕ) : List Row → Type 0 where
  done : Reads block []
  reads : {r : Row} {rs : List Row} → (judge_row 0 block r).kind ≡ 0 → Reads block rs → Reads block (r ∷ rs)

reads-fine : (block : List ℕ) (rs : List Row) → Reads block rs → (first_fault 0 block rs).kind ≡ 0
reads-fine block [] done = refl
reads-fine block (r ∷ rs) (reads z a) = rw (eq-eqb (judge_row 0 block r).kind 0 z) (reads-fine block rs a)

fine-reads : (block : List ℕ) (rs : List Row) → (first_fault 0 block rs).kind ≡ 0 → Reads block rs
fine-reads block [] z = done
fine-reads block (r ∷ rs) z =
    let i = fine-reads block rs in
    by-test (eqb (judge_row 0 block r).kind 0) (λ e. reads (eqb-true (judge_row 0 block r).kind 0 e) (i (rw e at z)))
    (λ e. absurd (eqb-false (judge_row 0 block r).kind 0 e (rw e at z)))

reads_first : {block : List ℕ} {r : Row} {rs : List Row} → Reads block (r ∷ rs) → (judge_row 0 block r).kind ≡ 0
reads_first (reads z a) = z

reads-behind : (block : List ℕ) (rs : List Row) (i : ℕ) → Reads block rs → Reads block (drop i rs)
reads-behind block rs zero a = a
reads-behind block [] (suc i) done = done
reads-behind block (r ∷ rs) (suc i) (reads z a) = reads-behind block rs i a

pub template-length : (template : List ℕ) (h : Header) → record_a template ≡ Sheet h → length template ≡ 1024
template-length template h is = ((sheet-exactly 0 refl template).0 (h, is)).0

-- what stands in its limits is read
ranged-read : (l : Limits) (v : ℕ) (r : Reading) → r ≡ read (pos v) → in_range l v ≡ true → (ranged l r).kind ≡ 0
ranged-read l v r e t = rw (e, t)

limits-read : (l : Limits) (v : ℕ) (r : Reading) → r ≡ read (pos v) → Ranged l v → (ranged l r).kind ≡ 0
limits-read l v r e b =
    ranged-read l v r e
    (and_both (le-leb l.least v b.least) (and_both (le-leb v l.greatest b.greatest) (eq-eqb (v % l.step) 0 b.step)))

-- the z spacing's are the ninth that a header keeps
height-limits : (h : Header) → header_obeys h ≡ true → in_range (height_limits h.vertical) h.zstep ≡ true
height-limits h t =
    let level = and_second (in_range level_limits h.level) _ (and_first (fields_obey h) _ t) in
    let system = and_second (in_range system_limits h.system) _ level in
    let zone = and_second (in_range (zone_limits h.system) h.zone) _ system in
    let ground = and_second (in_range (ground_limits h.system) h.ground) _ zone in
    let vertical = and_second (in_range vertical_limits h.vertical) _ ground in
    let accuracy = and_second (in_range accuracy_limits h.accuracy) _ vertical in
    let x = and_second (in_range spacing_limits h.xstep) _ accuracy in
    let y = and_second (in_range spacing_limits h.ystep) _ x in
    and_first (in_range (height_limits h.vertical) h.zstep) _ y

-- ---- block 0

-- rows of a real's form alone, one behind the other
abbrev forms : ℕ → ℕ → List Row
forms zero first = []
forms (suc n) first = row first 24 form ∷ forms n (first + 24)

module _ (template : List ℕ) (h : Header) (grid : List ℤ) (is : record_a template ≡ Sheet h)
    (fl : real_fits 15 24 (least_stated (sheet_cells h grid)) ≡ true)
    (fg : real_fits 15 24 (greatest_stated (sheet_cells h grid)) ≡ true) where
  abbrev sent : List ℕ
  sent = block_zero template h grid

  abbrev ps : List Piece
  ps = pieces_a h grid

  obeys : header_obeys h ≡ true
  obeys = sheet-obeys template h is

  heading : Heading h
  heading = header-facts h obeys

  template-reads : Reads template (fields_of 0)
  template-reads = fine-reads template (fields_of 0) (sheet-fine 0 refl template is)

  fit : all piece_fits ps ≡ true
  fit = all_fit h (least_stated (sheet_cells h grid)) (greatest_stated (sheet_cells h grid)) (columns_of h) obeys fl fg heading.columns.1

  -- each piece at its place, read back: the one that begins at this byte
  back : (first : ℕ) → pieces_to (first - 1) ps < 27
      → ReadsBack template (piece_of ps (pieces_to (first - 1) ps))
      (take (piece_width (piece_of ps (pieces_to (first - 1) ps))) (drop (bytes_before ps (pieces_to (first - 1) ps)) sent))
  unfolding block_zero pieces_by
  back first l =
      let long = template-length template h is in
      let i = pieces_to (first - 1) ps in
      reads-back template (piece_of ps i) (fit_at ps fit i) _ (piece-begins template long ps fit i l)

  long : length sent ≡ 1024
  long = zero-length template h grid (template-length template h is) obeys fl fg

  -- ---- no row is at fault
  abbrev number : Reading → ℕ
  number r = not_negative r.value

  system-is : whole_at 157 sent ≡ h.system
  unfolding pieces_by
  system-is = ap number (back 157 (lit< tt))

  vertical-is : whole_at 535 sent ≡ h.vertical
  unfolding pieces_by
  vertical-is = ap number (back 535 (lit< tt))

  template-field : (first : ℕ) → place_in first back_rows < 40 → (judge_row 0 template (back_row first)).kind ≡ 0
  template-field = field-fine 0 template (sheet-fine 0 refl template is)

  forms-read : (n first : ℕ) (rs : List Row) → 169 ≤ first → first + n * 24 ≤ 529
      → Reads template (forms n first ++ rs) → Reads sent rs → Reads sent (forms n first ++ rs)
  unfolding pieces_by
  forms-read zero first rs a b t s = s
  forms-read (suc n) first rs a b (reads z t) s =
      let k = first - 169 in
      let e : first - 1 ≡ 168 + k = omega (arith, a) in
      let same : stretch first 24 sent ≡ stretch first 24 template =
      rw e (shared sent template 168 360 k 24 (omega (arith, a, b)) (back 169 (lit< tt)))
      in
      reads (ap (λ (f : List ℕ). (judge 0 form 0 0 f).kind) same ∙ z)
      (forms-read n (first + 24) rs (omega (arith, a)) (omega (arith, b)) t s)

  abbrev kind_of : Reading → ℕ
  kind_of r = r.kind

  rows-read : Reads sent (fields_of 0)
  unfolding usgs_front back_rows pieces_by
  rows-read =
      reads (ap (λ (f : List ℕ). (judge 0 words 0 0 f).kind) (back 1 (lit< tt)) ∙ reads_first template-reads)
      (reads (limits-read level_limits h.level _ (back 145 (lit< tt)) heading.level)
      (reads (ranged-read pattern_limits 1 _ (back 151 (lit< tt)) refl)
      (reads (limits-read system_limits h.system _ (back 157 (lit< tt)) heading.system)
      (reads
      (ap (λ (s : ℕ). (ranged (zone_limits s) (integer (stretch 163 6 sent))).kind) system-is
      ∙ ranged-read (zone_limits h.system) h.zone _ (back 163 (lit< tt)) heading.zone)
      (forms-read 15 169 _ (omega arith) (omega arith) (reads-behind template (fields_of 0) (place_in 169 (fields_of 0)) template-reads)
      (reads
      (ap (λ (s : ℕ). (ranged (ground_limits s) (integer (stretch 529 6 sent))).kind) system-is
      ∙ ranged-read (ground_limits h.system) h.ground _ (back 529 (lit< tt)) heading.ground)
      (reads (limits-read vertical_limits h.vertical _ (back 535 (lit< tt)) heading.vertical)
      (reads (ranged-read sides_limits 4 _ (back 541 (lit< tt)) refl)
      (reads (ap kind_of (back 547 (lit< tt)))
      (reads (ap kind_of (back 571 (lit< tt)))
      (reads (ap kind_of (back 595 (lit< tt)))
      (reads (ap kind_of (back 619 (lit< tt)))
      (reads (ap kind_of (back 643 (lit< tt)))
      (reads (ap kind_of (back 667 (lit< tt)))
      (reads (ap kind_of (back 691 (lit< tt)))
      (reads (ap kind_of (back 715 (lit< tt)))
      (reads (ap kind_of (back 739 (lit< tt)))
      (reads (ap kind_of (back 763 (lit< tt)))
      (reads (ranged-read angle_limits 0 _ (back 787 (lit< tt)) refl)
      (reads (ranged-read accuracy_limits 0 _ (back 811 (lit< tt)) refl)
      (reads (limits-read spacing_limits h.xstep _ (back 817 (lit< tt)) heading.xstep)
      (reads (limits-read spacing_limits h.ystep _ (back 829 (lit< tt)) heading.ystep)
      (reads
      (ap (λ (v : ℕ). (ranged (height_limits v) (real (stretch 841 12 sent))).kind) vertical-is
      ∙ ranged-read (height_limits h.vertical) h.zstep _ (back 841 (lit< tt)) (height-limits h obeys))
      (reads (ranged-read rank_limits 1 _ (back 853 (lit< tt)) refl)
      (reads (limits-read profiles_limits (columns_of h) _ (back 859 (lit< tt)) (record { least = heading.columns.0; greatest = heading.columns.1; step = omega arith }))
      (reads (ap (λ (f : List ℕ). (judge 0 words 0 0 f).kind) (back 865 (lit< tt)) ∙ template-field 865 (lit< tt))
      done))))))))))))))))))))))))))

  -- ---- the header, and the whole record
  pub zero-header : header_of (block_zero template h grid) ≡ header_sent h grid
  unfolding header_of pieces_by
  zero-header =
      λ j.
      record {
        level = number (back 145 (lit< tt) j);
        system = number (back 157 (lit< tt) j);
        zone = number (back 163 (lit< tt) j);
        ground = number (back 529 (lit< tt) j);
        vertical = number (back 535 (lit< tt) j);
        sw = record { x = (back 547 (lit< tt) j).value; y = (back 571 (lit< tt) j).value };
        nw = record { x = (back 595 (lit< tt) j).value; y = (back 619 (lit< tt) j).value };
        ne = record { x = (back 643 (lit< tt) j).value; y = (back 667 (lit< tt) j).value };
        se = record { x = (back 691 (lit< tt) j).value; y = (back 715 (lit< tt) j).value };
        least = (back 739 (lit< tt) j).value;
        greatest = (back 763 (lit< tt) j).value;
        accuracy = number (back 811 (lit< tt) j);
        xstep = number (back 817 (lit< tt) j);
        ystep = number (back 829 (lit< tt) j);
        zstep = number (back 841 (lit< tt) j);
        profiles = number (back 859 (lit< tt) j);
      }

  one-to : (n : ℕ) → (1 ≤ n) × (n ≤ 2048) → one_to2048 n ≡ true
  one-to n b = and_both (le-leb 1 n b.0) (le-leb n 2048 b.1)

  sent-whole : (whole_fault (header_sent h grid)).kind ≡ 0
  sent-whole =
      let a = heading.corners in
      let b = and_both (one-to (columns_of h) heading.columns) (one-to (rows_of h) heading.rows) in
      let c = le-leb (columns_of h) (columns_of h) (omega arith) in
      rw (a, b, c)

  pub zero-fine : (first_fault 0 (block_zero template h grid) (fields_of 0)).kind ≡ 0
  zero-fine = reads-fine sent (fields_of 0) rows-read

  pub zero-whole : (whole_fault (header_of (block_zero template h grid))).kind ≡ 0
  zero-whole = ap (λ (x : Header). (whole_fault x).kind) zero-header ∙ sent-whole

  pub zero-faultless : (fault_of 0 (block_zero template h grid)).kind ≡ 0
  zero-faultless = rw (eq-eqb (length sent) 1024 long, eq-eqb (first_fault 0 sent (fields_of 0)).kind 0 zero-fine) zero-whole

  pub zero-reads : record_a (block_zero template h grid) ≡ Sheet (header_sent h grid)
  zero-reads = sym (verdict-sheet 0 sent long refl zero-fine refl zero-whole) ∙ ap Sheet zero-header
