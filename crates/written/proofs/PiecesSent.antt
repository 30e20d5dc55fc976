-- Block 0 as it is sent: every number of a good header fits its field, so each piece fills its place, and the block is 1,024 bytes.
use mathlib.Core.Bool.{Bool, true}
use Prim.Native.Nat.{◌+◌, ◌-◌, ℕ, zero, suc, ◌≤◌, ◌^◌}
use lib.Dec.{leb, ltb}
use lib.IntN.{pos, ℤ, nat_abs}
use mathlib.Core.List.{List, [], ◌∷◌, map}
use mathlib.Core.Path.{◌≡◌, refl, ◌∙◌, ap₂}
use lib.ListN.{get_or, length, drop, length-append, length-drop}
use native.Mathlib.Omega.{arith}
use borrow.Author.Tests.{leb-true, ltb-true}
use lib.Seq.{length-take-le}
use Rattle.laws.specs.Lists.{joined}
use Rattle.laws.proofs.Tables.{all}
use Rattle.laws.proofs.Tests.{and_first, and_second, split, and_both}
use Rattle.numerals.proofs.Numerals.{minus-short}
use Rattle.frame.specs.declared.Header.{Header}
use Rattle.frame.specs.declared.Corner.{Corner}
use Rattle.frame.specs.Frame.{columns_of}
use Rattle.heading.specs.Heading.{header_obeys, is_real_number, corner_real}
use Rattle.heading.proofs.HeadingFacts.{header-facts, Ranged, spacing_limits}
use Rattle.heading.proofs.Modest.{modest}
use Rattle.ground.specs.Extremes.{least_stated, greatest_stated}
use Rattle.spell.specs.Spell.{integer_fits, real_fits}
use Rattle.spell.proofs.Fits.{integer-length, real-length, integer-fits, thousands-fit, fits-real, whole-spacing-fits, fine-spacing-fits}
use Rattle.written.specs.Blocks.{Piece, piece_text, pieces_by, sheet_cells, block_zero}
use Rattle.written.specs.Blocks.Piece.{keeps, whole_sent, real_sent, spacing}

-- ---- a piece that fits fills its place

abbrev pub piece_fits : Piece → Bool
piece_fits (keeps first width) = leb (first - 1 + width) 1024
piece_fits (whole_sent n) = integer_fits 6 (pos n)
piece_fits (real_sent z) = real_fits 15 24 z
piece_fits (spacing v) = real_fits 6 12 (pos v)

abbrev pub piece_width : Piece → ℕ
piece_width (keeps first width) = width
piece_width (whole_sent n) = 6
piece_width (real_sent z) = 24
piece_width (spacing v) = 12

-- how many bytes stand before piece i
abbrev pub bytes_before : List Piece → ℕ → ℕ
bytes_before [] i = 0
bytes_before (p ∷ ps) zero = 0
bytes_before (p ∷ ps) (suc i) = piece_width p + bytes_before ps i

abbrev pub nothing : Piece
nothing = keeps 1 0

pub fit_at : (ps : List Piece) → all piece_fits ps ≡ true → (i : ℕ) → piece_fits (get_or ps i nothing) ≡ true
fit_at [] t i = refl
fit_at (p ∷ ps) t zero = and_first (piece_fits p) (all piece_fits ps) t
fit_at (p ∷ ps) t (suc i) = fit_at ps (and_second (piece_fits p) (all piece_fits ps) t) i

module _ (template : List ℕ) (long : length template ≡ 1024) where
  pub piece-length : (p : Piece) → piece_fits p ≡ true → length (piece_text template p) ≡ piece_width p
  piece-length (keeps first width) f =
      length-take-le width (drop (first - 1) template)
      (omega (arith, length-drop (first - 1) template, long, leb-true (first - 1 + width) 1024 f))
  piece-length (whole_sent n) f = integer-length 6 (pos n) f
  piece-length (real_sent z) f = real-length 15 24 z 68 f
  piece-length (spacing v) f = real-length 6 12 (pos v) 69 f

  pieces-length : (ps : List Piece) → all piece_fits ps ≡ true
      → length (joined (map (piece_text template) ps)) ≡ bytes_before ps (length ps)
  pieces-length [] t = refl
  pieces-length (p ∷ ps) t =
      length-append (piece_text template p) (joined (map (piece_text template) ps))
      ∙ ap₂ ◌+◌ (piece-length p (and_first (piece_fits p) (all piece_fits ps) t))
      (pieces-length ps (and_second (piece_fits p) (all piece_fits ps) t))

pub small-fits : (n : ℕ) → n ≤ 9999 → integer_fits 6 (pos n) ≡ true
small-fits n h = integer-fits 5 6 (pos n) (omega arith) (omega arith) (omega arith) (omega arith)

-- ---- its reals

pub zero-fits : real_fits 15 24 (pos 0) ≡ true
zero-fits = thousands-fit (pos 0) (omega arith) refl

-- both numbers of a corner fit
abbrev pub CornerFits : Corner → Type 0
CornerFits c = (real_fits 15 24 c.x ≡ true) × (real_fits 15 24 c.y ≡ true)

-- what a header's real can hold fits its field again
number_fits : (z : ℤ) → is_real_number z ≡ true → real_fits 15 24 z ≡ true
number_fits z t =
    let a = split (ltb (nat_abs z) (10 ^ 18)) _ t in
    fits-real 15 24 z
    (record { modest = ltb-true (nat_abs z) (10 ^ 18) a.0; few = a.1; room = omega (arith, minus-short z) })

corner-fits : (c : Corner) → corner_real c ≡ true → CornerFits c
corner-fits c t =
    let a = split (is_real_number c.x) _ t in
    (number_fits c.x a.0, number_fits c.y a.1)

spacing-fits : (v : ℕ) → Ranged spacing_limits v → real_fits 6 12 (pos v) ≡ true
spacing-fits v f = whole-spacing-fits v f.least f.greatest f.step

pub record HeaderReals (h : Header) : Type 0 where
  pub sw : CornerFits h.sw
  pub nw : CornerFits h.nw
  pub ne : CornerFits h.ne
  pub se : CornerFits h.se
  pub xstep : real_fits 6 12 (pos h.xstep) ≡ true
  pub ystep : real_fits 6 12 (pos h.ystep) ≡ true
  pub zstep : real_fits 6 12 (pos h.zstep) ≡ true

pub header-reals : (h : Header) → header_obeys h ≡ true → HeaderReals h
header-reals h good =
    let f = header-facts h good in
    let z = f.zstep in
    let sw = split (corner_real h.sw) _ f.reals in
    let nw = split (corner_real h.nw) _ sw.1 in
    let ne = split (corner_real h.ne) _ nw.1 in
    let se = split (corner_real h.se) _ ne.1 in
    record {
      sw = corner-fits h.sw sw.0;
      nw = corner-fits h.nw nw.0;
      ne = corner-fits h.ne ne.0;
      se = corner-fits h.se se.0;
      xstep = spacing-fits h.xstep f.xstep;
      ystep = spacing-fits h.ystep f.ystep;
      zstep = fine-spacing-fits h.zstep (omega (arith, z.least)) (omega (arith, z.greatest, z.step)) z.step;
    }

-- ---- block 0

pub all_fit : (h : Header) (least greatest : ℤ) (columns : ℕ) → header_obeys h ≡ true → real_fits 15 24 least ≡ true
    → real_fits 15 24 greatest ≡ true → columns ≤ 2048 → all piece_fits (pieces_by h least greatest columns) ≡ true
unfolding pieces_by
all_fit h least greatest columns good low high few =
    let m = modest h good in
    let r = header-reals h good in
    and_both (small-fits h.level m.level)
    (and_both (small-fits 1 (omega arith))
    (and_both (small-fits h.system m.system)
    (and_both (small-fits h.zone m.zone)
    (and_both (small-fits h.ground m.ground)
    (and_both (small-fits h.vertical m.vertical)
    (and_both (small-fits 4 (omega arith))
    (and_both r.sw.0
    (and_both r.sw.1
    (and_both r.nw.0
    (and_both r.nw.1
    (and_both r.ne.0
    (and_both r.ne.1
    (and_both r.se.0
    (and_both r.se.1
    (and_both low
    (and_both high
    (and_both zero-fits
    (and_both (small-fits 0 (omega arith))
    (and_both r.xstep
    (and_both r.ystep
    (and_both r.zstep
    (and_both (small-fits 1 (omega arith))
    (and_both (small-fits columns (omega arith)) refl)))))))))))))))))))))))

pub zero-length : (template : List ℕ) (h : Header) (grid : List ℤ) → length template ≡ 1024 → header_obeys h ≡ true
    → real_fits 15 24 (least_stated (sheet_cells h grid)) ≡ true → real_fits 15 24 (greatest_stated (sheet_cells h grid)) ≡ true
    → length (block_zero template h grid) ≡ 1024
unfolding block_zero pieces_by
zero-length template h grid long good low high =
    let cells = sheet_cells h grid in
    pieces-length template long (pieces_by h (least_stated cells) (greatest_stated cells) (columns_of h))
    (all_fit h (least_stated cells) (greatest_stated cells) (columns_of h) good low high (header-facts h good).columns.1)
