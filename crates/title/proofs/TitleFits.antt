-- Where every number fits its field, block 0 painted is the text of its pieces: nothing is left of what the block held.
use mathlib.Core.Bool.{true}
use mathlib.Core.List.{List, map, [], ◌∷◌, ◌++◌, append-nil}
use Prim.Native.Nat.{ℕ, ◌≤◌}
use mathlib.Core.Path.{◌≡◌, refl, ◌∙◌, ap₂, ap}
use lib.ListN.{length, drop_of_length-le}
use native.Mathlib.Omega.{arith}
use borrow.Author.Tests.{eq-eqb}
use lib.IntN.{ℤ}
use Rattle.laws.specs.Lists.{joined}
use Rattle.laws.proofs.Tables.{all}
use Rattle.laws.proofs.Tests.{and_first, and_second, and_both}
use Rattle.frame.specs.declared.Header.{Header}
use Rattle.heading.specs.Heading.{header_obeys}
use Rattle.spell.specs.Spell.{real_fits}
use Rattle.written.specs.Blocks.{piece_text, pieces_by, Piece}
use Rattle.written.specs.Blocks.Piece.{keeps, whole_sent, real_sent, spacing}
use Rattle.written.specs.Painted.{widths}
use Rattle.written.proofs.PiecesSent.{piece_fits, all_fit}
use Rattle.written.proofs.PaintedFits.{field_fits, field_text, text_of, painted-fits}
use Rattle.title.specs.Title.{field_of, zero_fields, zero_after}
use Rattle.title.proofs.ZeroWalk.{widths-all}

-- with the extremes and the columns as they are handed over
unfoldable pub zero_by : List ℕ → Header → ℤ → ℤ → ℕ → List ℕ
zero_by template h least greatest columns = joined (map (piece_text template) (pieces_by h least greatest columns))

module _ (template : List ℕ) where
  piece-text : (p : Piece) → field_text (field_of template p) ≡ piece_text template p
  piece-text (keeps first width) = refl
  piece-text (whole_sent n) = refl
  piece-text (real_sent z) = refl
  piece-text (spacing v) = refl

  piece-fits : (p : Piece) → piece_fits p ≡ true → field_fits (field_of template p) ≡ true
  piece-fits (keeps first width) t = refl
  piece-fits (whole_sent n) t = t
  piece-fits (real_sent z) t = t
  piece-fits (spacing v) t = t

  pieces-text : (ps : List Piece) → text_of (map (field_of template) ps) ≡ joined (map (piece_text template) ps)
  pieces-text [] = refl
  pieces-text (p ∷ ps) = ap₂ (λ (a b : List ℕ). a ++ b) (piece-text p) (pieces-text ps)

  pieces-fit : (ps : List Piece) → all piece_fits ps ≡ true → all field_fits (map (field_of template) ps) ≡ true
  pieces-fit [] t = refl
  pieces-fit (p ∷ ps) t =
      and_both (piece-fits p (and_first (piece_fits p) (all piece_fits ps) t)) (pieces-fit ps (and_second (piece_fits p) (all piece_fits ps) t))

pub zero-whole : (template : List ℕ) (h : Header) (least greatest : ℤ) (columns : ℕ) (block : List ℕ) {written : List ℕ}
    → written ≡ zero_after template h least greatest columns block → length template ≡ 1024 → length block ≡ 1024 → header_obeys h ≡ true
    → real_fits 15 24 least ≡ true → real_fits 15 24 greatest ≡ true → columns ≤ 2048 → written ≡ zero_by template h least greatest columns
unfolding zero_after zero_by
zero-whole template h least greatest columns block e long same obeys low high few =
    let fields = zero_fields template h least greatest columns in
    let pieces = pieces_by h least greatest columns in
    let none = drop_of_length-le block {i = widths fields} (omega (arith, widths-all template long h least greatest columns, same)) in
    (rw (eq-eqb (length template) 1024 long, eq-eqb (length block) 1024 same) at e)
    ∙ painted-fits fields block (pieces-fit template pieces (all_fit h least greatest columns obeys low high few))
    ∙ ap (λ (l : List ℕ). text_of fields ++ l) none
    ∙ append-nil (text_of fields)
    ∙ pieces-text template pieces
