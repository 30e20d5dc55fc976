-- Fields painted one behind the other from a byte on, posts among them, and blanks to the end. Each is a step on lists.
use mathlib.Core.List.{List, [], ◌∷◌, ◌++◌, append_assoc}
use mathlib.Core.Path.{◌≡◌, refl, subst, sym, ◌∙◌, ap, ap₂}
use Prim.Native.Nat.{ℕ, ◌≤◌, ◌+◌, ◌*◌, ◌<◌}
use lib.ListN.{length, take, drop, length-append, length-drop, take-append-drop, get_or}
use lib.Seq.{length-take-le, take-suc, take_all}
use native.Mathlib.Omega.{arith}
use mathlib.Core.Bool.{Bool, cond, true, false}
use lib.IntN.{ℤ}
use native.Mathlib.Nat.{mul-suc}
use native.Mathlib.Numerals.{add-one}
use lib.Dec.{leb}
use Rattle.laws.proofs.Lists.{map-append}
use Rattle.written.specs.Painted.{Field, wide, over, painted, widths}
use Rattle.written.proofs.PaintedFits.{painted-length, widths-append, take-seam, drop-seam, painted-append}
use Rattle.paint.specs.Fields.{post_fields, post_field, blank_from, filled}
use Rattle.paint.specs.FieldSteps.{Paints}

-- ---- fields behind fields

module _ {before after : List ℕ} {at end : ℕ} {fs : List Field} (p : Paints before at fs after end) where
  room-left : widths fs ≤ length (drop at before)
  room-left = omega (arith, length-drop at before, p.place, p.room)

  front_long : length (take at before) ≡ at
  front_long = length-take-le at before (omega (arith, p.place, p.room))

  pub paints-length : length after ≡ length before
  paints-length =
      ap length p.is
      ∙ length-append (take at before) (painted fs (drop at before))
      ∙ omega (arith, front_long, painted-length fs (drop at before) room-left, length-drop at before, p.place, p.room)

pub named : {before after : List ℕ} {fs gs : List Field} {at end : ℕ} → fs ≡ gs → Paints before at fs after end
    → Paints before at gs after end
named {before} {after} {fs} {gs} {at} {end} e p = subst (λ (x : List Field). Paints before at x after end) e p

pub behind : {f g h : List ℕ} {ps qs : List Field} {at mid end : ℕ} → Paints f at ps g mid → Paints g mid qs h end
    → Paints f at (ps ++ qs) h end
behind {f} {g} {h} {ps} {qs} {at} {mid} {end} a b =
    let old = drop at f in
    let n = widths ps in
    let new = painted ps old in
    let seam : take mid g ≡ take at f ++ take n new =
    (λ i. take (a.place i) (a.is i)) ∙ take-seam (take at f) new at n (front_long a) in
    let rest : drop mid g ≡ drop n new = (λ i. drop (a.place i) (a.is i)) ∙ drop-seam (take at f) new at n (front_long a) in
    record {
      place = omega (arith, a.place, b.place, widths-append ps qs);
      room = omega (arith, b.room, paints-length a);
      is =
          b.is
          ∙ ap₂ (λ (x y : List ℕ). x ++ painted qs y) seam rest
          ∙ append_assoc (take at f) (take n new) (painted qs (drop n new))
          ∙ ap (λ (l : List ℕ). take at f ++ l) (sym (painted-append ps qs old (room-left a)));
    }

pub paint-none : (l : List ℕ) (at : ℕ) → at ≤ length l → Paints l at [] l at
unfolding painted
paint-none l at h = record { place = omega arith; room = h; is = sym (take-append-drop at l) }

-- the stretch that was lent is back with the field in it
pub field-painted : (f : Field) (l : List ℕ) (at k : ℕ) → at + wide f ≤ length l → k ≡ wide f → (field : List ℕ)
    → field ≡ over f (take k (drop at l)) → Paints l at (f ∷ []) (take at l ++ (field ++ drop k (drop at l))) (at + wide f)
unfolding painted
field-painted f l at k room e field is =
    record {
      place = omega arith;
      room = room;
      is =
          ap (λ (x : List ℕ). take at l ++ (x ++ drop k (drop at l))) is
          ∙ ap (λ (n : ℕ). take at l ++ (over f (take n (drop at l)) ++ drop n (drop at l))) e;
    }

-- a writer of numbers was lent the stretch, which is as wide as the field
pub number-over : (fits : ℕ → ℤ → Bool) (spelled : ℕ → ℤ → List ℕ) (l : List ℕ) (at width k : ℕ) {given value : ℤ} {field : List ℕ}
    → at + width ≤ length l → k ≡ width → given ≡ value
    → field ≡ cond (fits (length (take k (drop at l))) given) (spelled (length (take k (drop at l))) given) (take k (drop at l))
    → field ≡ cond (fits width value) (spelled width value) (take k (drop at l))
number-over fits spelled l at width k room e same is =
    let part = take k (drop at l) in
    let long : length part ≡ width = length-take-le k (drop at l) (omega (arith, length-drop at l, room, e)) ∙ e in
    is ∙ ap₂ (λ (n : ℕ) (v : ℤ). cond (fits n v) (spelled n v) part) long same

-- ---- posts

pub posts-wide : (z : ℕ) (cells : List ℤ) → widths (post_fields z cells) ≡ 6 * length cells
posts-wide z [] = refl
posts-wide z (c ∷ cells) = omega (arith, posts-wide z cells, mul-suc 6 (length cells))

-- one more post painted
pub post-painted : {before block after : List ℕ} {at end next : ℕ} (z : ℕ) (cells : List ℤ) (i : ℕ) (d : ℤ) → i < length cells
    → Paints before at (post_fields z (take i cells)) block end → Paints block end (post_field z (get_or cells i d) ∷ []) after next
    → Paints before at (post_fields z (take (i + 1) cells)) after next
post-painted z cells i d h p q =
    let more : post_fields z (take i cells) ++ (post_field z (get_or cells i d) ∷ []) ≡ post_fields z (take (i + 1) cells) =
    rw (add-one i, take-suc cells i d h) (sym (map-append (post_field z) (take i cells) (get_or cells i d ∷ []))) in
    named more (behind p q)

-- all of them
pub posts-all : {before block : List ℕ} {at end : ℕ} (z : ℕ) (cells : List ℤ) (i : ℕ) → i ≡ length cells
    → Paints before at (post_fields z (take i cells)) block end → Paints before at (post_fields z cells) block end
posts-all z cells i e p = named (ap (post_fields z) (take_all i cells (omega arith))) p

-- ---- a block for so many bytes

module _ (fs : List Field) (block : List ℕ) {bytes : ℕ} (e : widths fs ≡ bytes) where
  pub no_room : leb bytes (length block) ≡ false → block ≡ filled fs block
  no_room t = rw (e, t)

  -- fields from its start, and blanks behind them
  pub room-filled : {written after : List ℕ} {end : ℕ} → leb bytes (length block) ≡ true → Paints block 0 fs written end
      → after ≡ blank_from end written → after ≡ filled fs block
  room-filled {written} {after} {end} t p is =
      let test : leb (widths fs) (length block) ≡ true = ap (λ (n : ℕ). leb n (length block)) e ∙ t in
      let place : end ≡ widths fs = omega (arith, p.place) in
      rw test (is ∙ (λ i. blank_from (place i) (p.is i)))
