-- A profile's head that is sent has no fault and reads back as sent. The place of each of its nine pieces in the text carries it.
use mathlib.Core.List.{List, [], ◌∷◌, ◌++◌, append_assoc}
use mathlib.Core.Path.{◌≡◌, refl, ◌∙◌, ap, sym}
use Prim.Native.Nat.{ℕ, ◌-◌, ◌≤◌, ◌%◌, suc}
use lib.ListN.{drop, length, take, get_or, replicate}
use lib.Seq.{drop-append-add, take_at}
use native.Mathlib.Omega.{arith}
use lib.IntN.{pos, ℤ}
use mathlib.Core.Bool.{true}
use native.Mathlib.Nat.{mod-one}
use borrow.Author.Tests.{le-leb, eq-eqb}
use Rattle.laws.specs.Sign.{not_negative}
use Rattle.laws.proofs.Tests.{and_both}
use Rattle.number.specs.Integer.{integer, read}
use Rattle.number.specs.declared.Reading.{Reading}
use Rattle.number.specs.Real.{real}
use Rattle.field.specs.Field.{stretch, limits, in_range, ranged, fault, whole_at, real_at, first_of}
use Rattle.field.specs.declared.Fault.{Fault}
use Rattle.frame.specs.declared.Header.{Header}
use Rattle.frame.specs.Frame.{z_of}
use Rattle.profile.specs.RecordB.{head_fields, head_fault, head_of}
use Rattle.ground.specs.Extremes.{least_stated, greatest_stated}
use Rattle.spell.specs.Spell.{integer_text, real_text, real_fits}
use Rattle.spell.proofs.ReadBack.{integer-back, real-back}
use Rattle.written.specs.Cells.{cells_sent}
use Rattle.written.specs.Blocks.{x_sent, y_sent, head_text, posts_text, profile_block}
use Rattle.written.proofs.HeadSent.{onto, total, HeadFits, head_pieces, head-lengths, head-length}
use Rattle.written.proofs.PiecesSent.{small-fits, zero-fits}
use Rattle.written.proofs.PostsSent.{AllSent, profile-length}

-- ---- pieces one behind the other, and a text behind them

onto-append : (ps : List (List ℕ)) (a b : List ℕ) → onto ps a ++ b ≡ onto ps (a ++ b)
onto-append [] a b = refl
onto-append (p ∷ ps) a b = append_assoc p (onto ps a) b ∙ ap (λ (x : List ℕ). p ++ x) (onto-append ps a b)

past-pieces : (ps : List (List ℕ)) (after : List ℕ) → drop (total ps) (onto ps after) ≡ after
past-pieces [] after = refl
past-pieces (p ∷ ps) after = drop-append-add p (onto ps after) (total ps) ∙ past-pieces ps after

-- a piece stands behind those before it
piece-at : (first width : ℕ) (ps : List (List ℕ)) (piece after : List ℕ) → total ps ≡ first - 1 → length piece ≡ width
    → stretch first width (onto ps (piece ++ after)) ≡ piece
piece-at first width ps piece after e l =
    ap (take width) (ap (λ (n : ℕ). drop n (onto ps (piece ++ after))) (sym e) ∙ past-pieces ps (piece ++ after))
    ∙ take_at piece after width l

-- ---- numbers that fit their fields

small-back : (n : ℕ) → n ≤ 2048 → integer (integer_text 6 (pos n)) ≡ read (pos n)
small-back n h = integer-back 6 (pos n) (omega arith) (omega arith) (small-fits n (omega (arith, h)))

in-range : (least greatest kind n : ℕ) → least ≤ n → n ≤ greatest → (ranged (limits least greatest 1 kind) (read (pos n))).kind ≡ 0
in-range least greatest kind n l g =
    let t : in_range (limits least greatest 1 kind) n ≡ true =
    and_both (le-leb least n l) (and_both (le-leb n greatest g) (eq-eqb (n % 1) 0 (mod-one n))) in
    rw t

abbrev value : Reading → ℤ
value r = r.value

-- ---- the head

module _ (h : Header) (grid : List ℤ) (c : ℕ) (fits : HeadFits h grid c) where
  abbrev m : ℕ
  m = length (cells_sent h grid c)

  abbrev least : ℤ
  least = least_stated (cells_sent h grid c)

  abbrev greatest : ℤ
  greatest = greatest_stated (cells_sent h grid c)

  abbrev pieces : List (List ℕ)
  pieces = head_pieces h grid c

  -- ---- the profile's first block

  abbrev text : List ℕ
  text = head_text h grid c ++ posts_text (z_of h) (take 146 (cells_sent h grid c))

  abbrev rest : List ℕ
  rest = posts_text (z_of h) (take 146 (cells_sent h grid c)) ++ replicate (1024 - length text) 32

  abbrev block : List ℕ
  block = profile_block h grid c 0

  block-is : block ≡ onto pieces rest
  unfolding profile_block
  block-is =
      append_assoc (head_text h grid c) (posts_text (z_of h) (take 146 (cells_sent h grid c))) (replicate (1024 - length text) 32)
      ∙ onto-append (take 8 pieces) (real_text 15 68 24 greatest) rest

  field : (first width i : ℕ) → onto pieces rest ≡ onto (take i pieces) (get_or pieces i [] ++ onto (drop (suc i) pieces) rest)
      → total (take i pieces) ≡ first - 1 → length (get_or pieces i []) ≡ width → stretch first width block ≡ get_or pieces i []
  field first width i split e l =
      ap (stretch first width) (block-is ∙ split)
      ∙ piece-at first width (take i pieces) (get_or pieces i []) (onto (drop (suc i) pieces) rest) e l

  -- a field that stands where it should reads back
  whole-there : (first n : ℕ) → n ≤ 2048 → stretch first 6 block ≡ integer_text 6 (pos n)
      → integer (stretch first 6 block) ≡ read (pos n)
  whole-there first n le e = ap integer e ∙ small-back n le

  real-there : (first : ℕ) (v : ℤ) → real_fits 15 24 v ≡ true → stretch first 24 block ≡ real_text 15 68 24 v
      → real (stretch first 24 block) ≡ read v
  real-there first v f e = ap real e ∙ real-back 24 v (omega arith) f

  -- what each field reads as
  abbrev Readings : Type 0
  Readings =
      (integer (stretch 1 6 block) ≡ read (pos 1))
      × (integer (stretch 7 6 block) ≡ read (pos (suc c)))
      × (integer (stretch 13 6 block) ≡ read (pos m))
      × (integer (stretch 19 6 block) ≡ read (pos 1))
      × (real (stretch 25 24 block) ≡ read (x_sent h c))
      × (real (stretch 49 24 block) ≡ read (y_sent h grid c))
      × (real (stretch 73 24 block) ≡ read (pos 0))
      × (real (stretch 97 24 block) ≡ read least)
      × (real (stretch 121 24 block) ≡ read greatest)

  readings : Readings
  readings =
      let l = head-lengths h grid c fits in (
        whole-there 1 1 (omega arith) (field 1 6 0 refl refl l.0),
        whole-there 7 (suc c) fits.column (field 7 6 1 refl (omega (arith, l)) l.1),
        whole-there 13 m fits.most (field 13 6 2 refl (omega (arith, l)) l.2),
        whole-there 19 1 (omega arith) (field 19 6 3 refl (omega (arith, l)) l.0),
        real-there 25 (x_sent h c) fits.x (field 25 24 4 refl (omega (arith, l)) l.3),
        real-there 49 (y_sent h grid c) fits.y (field 49 24 5 refl (omega (arith, l)) l.4),
        real-there 73 (pos 0) zero-fits (field 73 24 6 refl (omega (arith, l)) l.5),
        real-there 97 least fits.least (field 97 24 7 refl (omega (arith, l)) l.6),
        real-there 121 greatest fits.greatest (field 121 24 8 refl (omega (arith, l)) l.7),
      )

  pub head-is : head_of (profile_block h grid c 0)
      ≡ record {
        posts = length (cells_sent h grid c);
        x = x_sent h c;
        y = y_sent h grid c;
        datum = pos 0;
        least = least_stated (cells_sent h grid c);
        greatest = greatest_stated (cells_sent h grid c);
      }
  head-is =
      let r = readings in
      let posts : whole_at 13 block ≡ m = ap (λ (n : Reading). not_negative n.value) r.2 in
      let x : real_at 25 block ≡ x_sent h c = ap value r.4 in
      let y : real_at 49 block ≡ y_sent h grid c = ap value r.5 in
      let datum : real_at 73 block ≡ pos 0 = ap value r.6 in
      let low : real_at 97 block ≡ least = ap value r.7 in
      let high : real_at 121 block ≡ greatest = ap value r.8 in
      rw (posts, x, y, datum, low, high)

  -- every field without fault
  fields-fine : first_of (head_fields 0 (suc c) block) ≡ fault 0 0
  fields-fine =
      let r = readings in
      rw (
        r.0,
        r.1,
        r.2,
        r.3,
        r.4,
        r.5,
        r.6,
        r.7,
        r.8,
        eq-eqb (ranged (limits (suc c) (suc c) 1 9) (read (pos (suc c)))).kind 0 (in-range (suc c) (suc c) 9 (suc c) (omega arith) (omega arith)),
        eq-eqb (ranged (limits 1 2048 1 7) (read (pos m))).kind 0 (in-range 1 2048 7 m fits.some fits.most),
      )

  pub head-fine : AllSent (z_of h) (cells_sent h grid c) → (head_fault 0 (suc c) (profile_block h grid c 0)).kind ≡ 0
  head-fine all =
      rw (eq-eqb (length block) 1024 (profile-length h grid c all (head-length h grid c fits) 0)) (ap (λ (f : Fault). f.kind) fields-fine)
