-- Block 0 painted piece by piece is its fields painted one behind the other: each stretch begins where the fields before it end.
use mathlib.Core.List.{List, [], ◌∷◌, ◌++◌}
use mathlib.Core.Path.{◌≡◌, refl, sym, ◌∙◌, ap}
use Prim.Native.Nat.{ℕ, zero, suc, ◌≤◌, ◌<◌}
use native.Mathlib.Omega.{arith}
use borrow.Rule.Slice.PartMut.{put_mid}
use lib.IntN.{ℤ}
use lib.ListN.{length, take, drop, get_or, length-drop, length-map, get_or-map}
use lib.Seq.{take_all, take-suc, length-take-le}
use Rattle.frame.specs.declared.Header.{Header}
use Rattle.written.specs.Blocks.{Piece, pieces_by}
use Rattle.written.specs.Painted.{Field, wide, over, painted, widths}
use Rattle.written.proofs.PiecesSent.{nothing}
use Rattle.written.proofs.PaintedFits.{painted-length, widths-append, painted-append}
use Rattle.title.specs.Title.{field_of, zero_fields}
use Rattle.title.specs.declared.Stretch.{Stretch}
use Rattle.title.specs.ZeroSteps.{stretches_by, start_of, width_of, content_of, within, text_by, stretch_after, stretches_to}
use Rattle.title.proofs.ZeroTable.{stretch_at, wide_is, text-is, pieces-many, piece-suits, content_is, stretch-inside, stretch-next, first-start, last_end}

module _ (template : List ℕ) (long : length template ≡ 1024) (h : Header) (least greatest : ℤ) (columns : ℕ) where
  abbrev pieces : List Piece
  pieces = pieces_by h least greatest columns

  abbrev stretches : List Stretch
  stretches = stretches_by h least greatest columns

  abbrev at : ℕ → Stretch
  at i = stretch_at h least greatest columns i

  abbrev fields : List Field
  fields = zero_fields template h least greatest columns

  abbrev field : ℕ → Field
  field i = field_of template (get_or pieces i nothing)

  fields-many : length fields ≡ 27
  fields-many = length-map pieces (field_of template) ∙ pieces-many h least greatest columns

  field-wide : (i : ℕ) → i < 27 → wide (field i) ≡ width_of (at i)
  field-wide i b =
      wide_is template (get_or pieces i nothing) (at i) (piece-suits h least greatest columns i b)
      (omega (arith, stretch-inside h least greatest columns i b, long))

  one_more : (i : ℕ) → i < 27 → take (suc i) fields ≡ take i fields ++ (field i ∷ [])
  one_more i b =
      take-suc fields i (field_of template nothing) (omega (arith, fields-many))
      ∙ ap (λ (f : Field). take i fields ++ (f ∷ [])) (get_or-map (field_of template) pieces i nothing)

  starts : (i : ℕ) → i ≤ 27 → widths (take i fields) ≡ start_of (at i)
  starts zero b = sym (first-start h least greatest columns)
  starts (suc i) b =
      ap widths (one_more i b)
      ∙ widths-append (take i fields) (field i ∷ [])
      ∙ omega (arith, starts i (omega arith), field-wide i b, stretch-next h least greatest columns i b)

  all_there : take 27 fields ≡ fields
  all_there = take_all 27 fields (omega (arith, fields-many))

  pub widths-all : widths fields ≡ 1024
  widths-all = ap widths (sym all_there) ∙ starts 27 (omega arith) ∙ last_end h least greatest columns

  module _ (block : List ℕ) (same : length block ≡ 1024) where
    inside : (i : ℕ) → i < 27 → widths (take i fields) ≤ length block
    inside i b = omega (arith, starts i (omega arith), stretch-inside h least greatest columns i b, same)

    one_piece : (i : ℕ) → i < 27
        → stretch_after template (at i) (painted (take i fields) block) ≡ painted (take (suc i) fields) block
    unfolding painted
    one_piece i b =
        let s = at i in
        let now = painted (take i fields) block in
        let old : length (within s now) ≡ width_of s =
        length-take-le (width_of s) (drop (start_of s) now)
        (omega (arith, length-drop (start_of s) now, painted-length (take i fields) block (inside i b), stretch-inside h least greatest columns i b, same)) in
        let put : text_by (content_of s) (within s template) (within s now) ≡ over (field i) (within s now) =
        text-is template (within s now) (get_or pieces i nothing) s (piece-suits h least greatest columns i b)
        (content_is h least greatest columns i) old in
        let from = sym (starts i (omega arith)) in
        let many = sym (field-wide i b) in
        ap (put_mid (start_of s) (width_of s) now) put
        ∙ (λ j. put_mid (from j) (many j) now (over (field i) (take (many j) (drop (from j) now))))
        ∙ sym (painted-append (take i fields) (field i ∷ []) block (inside i b))
        ∙ ap (λ (l : List Field). painted l block) (sym (one_more i b))

    walked : (i : ℕ) → i ≤ 27 → stretches_to template stretches i block ≡ painted (take i fields) block
    unfolding stretches_to painted
    walked zero b = refl
    walked (suc i) b = ap (stretch_after template (at i)) (walked i (omega arith)) ∙ one_piece i b

    pub walked_all : stretches_to template stretches 27 block ≡ painted fields block
    walked_all = walked 27 (omega arith) ∙ ap (λ (l : List Field). painted l block) all_there
