-- The table of block 0 as the code walks it: each stretch begins where the one before it ends, and suits the piece that is written there.
use mathlib.Core.List.{List, [], ◌∷◌, map}
use mathlib.Core.Path.{◌≡◌, refl, sym, ◌∙◌, ap}
use Prim.Native.Nat.{ℕ, zero, suc, ◌<◌, ◌+◌, ◌≤◌, ◌^◌, min, ◌-◌}
use native.Mathlib.Nat.{le_of_suc-le-suc, not-suc-le-zero}
use lib.ListN.{length, get_or, drop, length-drop, get_or-map}
use mathlib.Core.Bool.{Bool, false, cond, true}
use lib.Dec.{leb, leb→le, eqb, T, eqb→eq, ltb}
use native.Mathlib.Omega.{arith}
use borrow.Author.Tests.{le-ltb, lt-leb, ne_eqb, leb-true, leb-false}
use lib.IntN.{pos, ℤ}
use lib.Seq.{length-take-le}
use Rattle.std.proofs.lemmas.List.{get_or_default}
use Rattle.laws.specs.Sign.{◌and◌}
use Rattle.laws.specs.Digits.{places}
use Rattle.laws.proofs.Tables.{all-at, and_left, and_right}
use Rattle.laws.proofs.Tests.{by-test}
use Rattle.numerals.specs.Numerals.{count}
use Rattle.frame.specs.declared.Header.{Header}
use Rattle.spell.specs.Spell.{whole_digits, whole_text as written, integer_fits, real_fits, integer_text, real_text}
use Rattle.spell.proofs.Texts.{whole_length}
use Rattle.written.specs.Blocks.{Piece, pieces_by}
use Rattle.written.specs.Blocks.Piece.{keeps, whole_sent, real_sent, spacing}
use Rattle.written.specs.Painted.{wide, over}
use Rattle.written.proofs.PiecesSent.{nothing}
use Rattle.title.specs.declared.Content.{Content}
use Rattle.title.specs.declared.Content.TheVariants.{Kept, Integer, Real, Spacing}
use Rattle.title.specs.declared.Stretch.{Stretch}
use Rattle.title.specs.ZeroSteps.{block_end, stretches_by, start_of, width_of, content_of, capped, text_by, within}
use Rattle.title.specs.Title.{field_of}

-- ---- the stretches fill the block

inside : Stretch → Bool
inside s = leb (start_of s + (width_of s)) 1024

abbrev chained : ℕ → List Stretch → Bool
chained at [] = eqb at 1024
chained at (s ∷ l) = eqb (start_of s) at and chained (at + (width_of s)) l

begins : (at : ℕ) (l : List Stretch) → T (chained at l) → start_of (get_or l 0 block_end) ≡ at
begins at [] t = sym (eqb→eq at 1024 t)
begins at (s ∷ l) t = eqb→eq (start_of s) at (and_left (eqb (start_of s) at) _ t)

goes_on : (at : ℕ) (l : List Stretch) → T (chained at l) → (i : ℕ) → i < length l
    → start_of (get_or l (suc i) block_end) ≡ start_of (get_or l i block_end) + width_of (get_or l i block_end)
goes_on at [] t i h = absurd (not-suc-le-zero h)
goes_on at (s ∷ l) t zero h =
    begins (at + (width_of s)) l (and_right (eqb (start_of s) at) _ t)
    ∙ ap (λ (n : ℕ). n + (width_of s)) (sym (eqb→eq (start_of s) at (and_left (eqb (start_of s) at) _ t)))
goes_on at (s ∷ l) t (suc i) h = goes_on (at + (width_of s)) l (and_right (eqb (start_of s) at) _ t) i (le_of_suc-le-suc h)

-- ---- what no field holds

long-whole : (n : ℕ) → 10 ^ 18 ≤ n → integer_fits 6 (pos n) ≡ false
unfolding integer_fits count places
long-whole n h =
    let some : eqb n 0 ≡ false = ne_eqb n 0 (λ e. omega (arith, h, e)) in
    let many : 19 ≤ whole_digits n =
    by-test (ltb n (10 ^ 19)) (λ e. rw (some, e, le-ltb n (10 ^ 18) h) (omega arith)) (λ e. rw (some, e) (omega arith))
    in
    lt-leb (length (written (pos n))) 6 (omega (arith, whole_length (pos n), many))

long-spacing : (n : ℕ) → 10 ^ 18 ≤ n → real_fits 6 12 (pos n) ≡ false
unfolding real_fits
long-spacing n h = rw (le-ltb n (10 ^ 18) h)

-- so the largest that the machine holds leaves the field as the number does
capped_same : (fits : ℤ → Bool) (text : ℤ → List ℕ) → ((n : ℕ) → 10 ^ 18 ≤ n → fits (pos n) ≡ false) → (n : ℕ) (old : List ℕ)
    → cond (fits (capped n)) (text (capped n)) old ≡ cond (fits (pos n)) (text (pos n)) old
capped_same fits text long n old =
    by-test (leb n 9223372036854775807)
    (λ t.
    let e : min n 9223372036854775807 ≡ n = omega (arith, leb-true n 9223372036854775807 t) in
    ap (λ (k : ℕ). cond (fits (pos k)) (text (pos k)) old) e)
    (λ t.
    let h : 9223372036854775807 < n = leb-false n 9223372036854775807 t in
    let e : min n 9223372036854775807 ≡ 9223372036854775807 = omega (arith, h) in
    ap (λ (k : ℕ). cond (fits (pos k)) (text (pos k)) old) e
    ∙ rw (long 9223372036854775807 (omega arith), long n (omega (arith, h))))

-- ---- each suits its piece

abbrev pub suits : Piece → Stretch → Bool
suits (keeps first width) s = eqb (start_of s) (first - 1) and eqb (width_of s) width
suits (whole_sent n) s = eqb (width_of s) 6
suits (real_sent z) s = eqb (width_of s) 24
suits (spacing v) s = eqb (width_of s) 12

abbrev suit : List Piece → List Stretch → Bool
suit [] l = true
suit (p ∷ ps) [] = false
suit (p ∷ ps) (s ∷ l) = suits p s and suit ps l

suit-at : (ps : List Piece) (l : List Stretch) → T (suit ps l) → (i : ℕ) → i < length ps → T (suits (get_or ps i nothing) (get_or l i block_end))
suit-at [] l t i h = absurd (not-suc-le-zero h)
suit-at (p ∷ ps) [] t i h = absurd t
suit-at (p ∷ ps) (s ∷ l) t zero h = and_left (suits p s) (suit ps l) t
suit-at (p ∷ ps) (s ∷ l) t (suc i) h = suit-at ps l (and_right (suits p s) (suit ps l) t) i (le_of_suc-le-suc h)

-- what the code writes for a piece
abbrev pub content_in : Piece → Content
content_in (keeps first width) = Kept
content_in (whole_sent n) = Integer n
content_in (real_sent z) = Real z
content_in (spacing v) = Spacing v

-- ---- the table of a sheet

module _ (h : Header) (least greatest : ℤ) (columns : ℕ) where
  abbrev pub stretch_at : ℕ → Stretch
  stretch_at i = get_or (stretches_by h least greatest columns) i block_end

  -- an entry, whatever would stand for one past the end
  pub in_table : (i : ℕ) (d : Stretch) → i < 27 → get_or (stretches_by h least greatest columns) i d ≡ stretch_at i
  unfolding stretches_by
  in_table i d b = get_or_default (stretches_by h least greatest columns) i d block_end b

  pub stretch-inside : (i : ℕ) → i < 27 → start_of (stretch_at i) + width_of (stretch_at i) ≤ 1024
  unfolding stretches_by inside
  stretch-inside i b = leb→le _ 1024 (all-at inside (stretches_by h least greatest columns) block_end tt i b)

  pub stretch-next : (i : ℕ) → i < 27 → start_of (stretch_at (suc i)) ≡ start_of (stretch_at i) + width_of (stretch_at i)
  unfolding stretches_by
  stretch-next i b = goes_on 0 (stretches_by h least greatest columns) tt i b

  pub first-start : start_of (stretch_at 0) ≡ 0
  unfolding stretches_by
  first-start = refl

  pub last_end : start_of (stretch_at 27) ≡ 1024
  unfolding stretches_by
  last_end = refl

  pub pieces-many : length (pieces_by h least greatest columns) ≡ 27
  unfolding pieces_by
  pieces-many = refl

  pub piece-suits : (i : ℕ) → i < 27 → T (suits (get_or (pieces_by h least greatest columns) i nothing) (stretch_at i))
  unfolding pieces_by stretches_by
  piece-suits i b = suit-at (pieces_by h least greatest columns) (stretches_by h least greatest columns) tt i b

  contents : map content_of (stretches_by h least greatest columns) ≡ map content_in (pieces_by h least greatest columns)
  unfolding pieces_by stretches_by
  contents = refl

  pub content_is : (i : ℕ) → content_of (stretch_at i) ≡ content_in (get_or (pieces_by h least greatest columns) i nothing)
  content_is i =
      sym (get_or-map content_of (stretches_by h least greatest columns) i block_end)
      ∙ ap (λ (l : List Content). get_or l i Kept) contents
      ∙ get_or-map content_in (pieces_by h least greatest columns) i nothing

-- ---- the text of a piece in its field

module _ (template : List ℕ) where
  pub wide_is : (p : Piece) (s : Stretch) → T (suits p s) → start_of s + width_of s ≤ length template → wide (field_of template p) ≡ width_of s
  wide_is (keeps first width) s t h =
      let from = eqb→eq (start_of s) (first - 1) (and_left (eqb (start_of s) (first - 1)) _ t) in
      let many = eqb→eq (width_of s) width (and_right (eqb (start_of s) (first - 1)) _ t) in
      length-take-le width (drop (first - 1) template) (omega (arith, length-drop (first - 1) template, from, many, h)) ∙ sym many
  wide_is (whole_sent n) s t h = sym (eqb→eq (width_of s) 6 t)
  wide_is (real_sent z) s t h = sym (eqb→eq (width_of s) 24 t)
  wide_is (spacing v) s t h = sym (eqb→eq (width_of s) 12 t)

  pub text-is : (field : List ℕ) (p : Piece) (s : Stretch) → T (suits p s) → content_of s ≡ content_in p → length field ≡ width_of s
      → text_by (content_of s) (within s template) field ≡ over (field_of template p) field
  unfolding text_by
  text-is field (keeps first width) s t e l =
      rw (
        e,
        eqb→eq (start_of s) (first - 1) (and_left (eqb (start_of s) (first - 1)) _ t),
        eqb→eq (width_of s) width (and_right (eqb (start_of s) (first - 1)) _ t),
      )
  text-is field (whole_sent n) s t e l =
      let six : length field ≡ 6 = l ∙ eqb→eq (width_of s) 6 t in
      rw (e, six) (capped_same (integer_fits 6) (integer_text 6) long-whole n field)
  text-is field (real_sent z) s t e l =
      let many : length field ≡ 24 = l ∙ eqb→eq (width_of s) 24 t in
      rw (e, many)
  text-is field (spacing v) s t e l =
      let twelve : length field ≡ 12 = l ∙ eqb→eq (width_of s) 12 t in
      rw (e, twelve) (capped_same (real_fits 6 12) (real_text 6 69 12) long-spacing v field)
