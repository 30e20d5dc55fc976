-- Where no field is at fault, the header from the walk's values is the header of the block.
use mathlib.Core.Bool.{Bool, true, false, cond}
use mathlib.Core.List.{List, [], ◌∷◌}
use mathlib.Core.Path.{◌≡◌, refl, sym, ◌∙◌, ap}
use Prim.Native.Nat.{ℕ, zero, suc, ◌<◌}
use native.Mathlib.Nat.{le_of_suc-le-suc, not-suc-le-zero}
use borrow.Author.Tests.{eqb-true, eqb-false, eq-eqb, ne_eqb}
use lib.Dec.{eqb, lit<}
use lib.ListN.{length, get_or}
use native.Mathlib.Omega.{arith}
use lib.IntN.{ℤ, pos}
use Rattle.laws.specs.Family.{known, is_canadian}
use Rattle.laws.specs.Sign.{not_negative}
use Rattle.laws.proofs.Tests.{by-test}
use Rattle.number.specs.declared.Reading.{Reading}
use Rattle.number.specs.Integer.{integer}
use Rattle.number.specs.Real.{real}
use Rattle.field.specs.Field.{ranged, stretch, whole_at}
use Rattle.field.specs.declared.Fault.{Fault}
use Rattle.field.specs.declared.Limits.{Limits}
use Rattle.field.proofs.Ranges.{ranged-value}
use Rattle.frame.specs.Frame.{family_fault}
use Rattle.heading.specs.Heading.{Name, limits_of, family_limits, spacing_at, header_of}
use Rattle.heading.specs.Heading.Name.{level, system, zone, ground, vertical, accuracy, spacing, height, profiles}
use Rattle.heading.proofs.LimitKinds.{family-kind}
use Rattle.sheet.specs.RecordA.{Row, judge, judge_row, first_fault, row, canadian_front, back, front_of, fields_fault, corner_told, record_of}
use Rattle.sheet.specs.RecordA.Rule.{words, spaced}
use Rattle.sheet.specs.RecordASteps.{AllRead, place_in, place_of, number_from, header_from}
use Rattle.sheet.specs.RecordA.Checked.{Sheet, Refused}
use Rattle.sheet.proofs.RowRules.{kind_of}
use Rattle.sheet.proofs.TableA.{fault-append}

-- no fault is found where no row has one
rows-fine : (family : ℕ) (block : List ℕ) (rs : List Row) (d : Row) → (first_fault family block rs).kind ≡ 0 → (i : ℕ) → i < length rs
    → (judge_row family block (get_or rs i d)).kind ≡ 0
rows-fine family block [] d z i h = absurd (not-suc-le-zero h)
rows-fine family block (r ∷ rs) d z i h = go i h (rows-fine family block rs d) (eqb (judge_row family block r).kind 0) refl
  where
    go : (i : ℕ) → i < length (r ∷ rs)
        → ((first_fault family block rs).kind ≡ 0 → (j : ℕ) → j < length rs → (judge_row family block (get_or rs j d)).kind ≡ 0)
        → (b : Bool) → eqb (judge_row family block r).kind 0 ≡ b → (judge_row family block (get_or (r ∷ rs) i d)).kind ≡ 0
    go zero h ih true e = eqb-true (judge_row family block r).kind 0 e
    go (suc i) h ih true e = ih (rw e at z) i (le_of_suc-le-suc h)
    go i h ih false e = absurd (eqb-false (judge_row family block r).kind 0 e (rw e at z))

-- a field of the back, by the byte at which it begins
abbrev pub back_row : ℕ → Row
back_row first = get_or back (place_in first back) (row 0 0 words)

-- both runs of a family's rows
fine-parts : (family : ℕ) (block : List ℕ) → (fields_fault family block).kind ≡ 0
    → ((first_fault family block (front_of family)).kind ≡ 0) × ((first_fault family block back).kind ≡ 0)
fine-parts family block z =
    let k : (cond (eqb (first_fault family block (front_of family)).kind 0) (first_fault family block back) (first_fault family block (front_of family))).kind ≡ 0 =
    ap (λ (f : Fault). f.kind) (sym (fault-append family block (front_of family) back)) ∙ z
    in
    by-test (eqb (first_fault family block (front_of family)).kind 0)
    (λ e. (eqb-true (first_fault family block (front_of family)).kind 0 e, rw e at k))
    (λ e. absurd (eqb-false (first_fault family block (front_of family)).kind 0 e (rw e at k)))

pub back-fine : (family : ℕ) (block : List ℕ) → (fields_fault family block).kind ≡ 0 → (first_fault family block back).kind ≡ 0
back-fine family block z = (fine-parts family block z).1

-- a field of a Canadian front, by the byte at which it begins
abbrev pub front_row : ℕ → Row
front_row first = get_or canadian_front (place_in first canadian_front) (row 0 0 words)

pub front-field : (family : ℕ) (block : List ℕ) → (fields_fault family block).kind ≡ 0 → is_canadian family ≡ true → (first : ℕ)
    → place_in first canadian_front < 12 → (judge_row family block (front_row first)).kind ≡ 0
unfolding canadian_front
front-field family block z c first h =
    rows-fine family block canadian_front (row 0 0 words) (rw c at (fine-parts family block z).0) (place_in first canadian_front) h

pub field-fine : (family : ℕ) (block : List ℕ) → (fields_fault family block).kind ≡ 0 → (first : ℕ) → place_in first back < 40
    → (judge_row family block (back_row first)).kind ≡ 0
unfolding back
field-fine family block z first h = rows-fine family block back (row 0 0 words) (back-fine family block z) (place_in first back) h

module _ (family : ℕ) (block : List ℕ) (values : List ℤ) (z : (fields_fault family block).kind ≡ 0)
    (read : AllRead family block back values) where
  -- the value of a field of the back
  value-is : (first : ℕ) → place_of first < 40 → get_or values (place_of first) (pos 0) ≡ (judge_row family block (back_row first)).value
  unfolding back
  value-is first h = read (place_of first) h

  -- a number in limits that have a kind
  number_is : (first : ℕ) (h : place_of first < 40) (l : Limits) (r : Reading)
      → judge_row family block (back_row first) ≡ ranged l r → (l.kind ≡ 0 → ⊥) → number_from values first ≡ not_negative r.value
  number_is first h l r e n =
      ap not_negative
      (value-is first h
      ∙ ap (λ (x : Reading). x.value) e
      ∙ ranged-value l r n (ap (λ (x : Reading). x.kind) (sym e) ∙ field-fine family block z first h))

  abbrev by : Name → Limits
  by name = family_limits family name (whole_at 157 block) (whole_at 535 block)

  named : (name : Name) → (kind_of name ≡ 0 → ⊥) → (by name).kind ≡ 0 → ⊥
  named name n q = n (sym (family-kind family name (whole_at 157 block) (whole_at 535 block)) ∙ q)

  integer-is : (first : ℕ) (h : place_of first < 40) (name : Name)
      → judge_row family block (back_row first) ≡ ranged (by name) (integer (stretch first 6 block))
      → (kind_of name ≡ 0 → ⊥) → number_from values first ≡ whole_at first block
  integer-is first h name e n = number_is first h (by name) (integer (stretch first 6 block)) e (named name n)

  spacing-is : (first : ℕ) (h : place_of first < 40) (name : Name)
      → judge_row family block (back_row first) ≡ ranged (by name) (real (stretch first 12 block))
      → (kind_of name ≡ 0 → ⊥) → number_from values first ≡ spacing_at first block
  spacing-is first h name e n = number_is first h (by name) (real (stretch first 12 block)) e (named name n)

  -- x and y: any real in a Canadian sheet
  step_is : (first : ℕ) (h : place_of first < 40)
      → judge_row family block (back_row first)
      ≡ judge family spaced (whole_at 157 block) (whole_at 535 block) (stretch first 12 block)
      → number_from values first ≡ spacing_at first block
  step_is first h e =
      by-test (is_canadian family)
      (λ c. ap not_negative (value-is first h ∙ ap (λ (x : Reading). x.value) (rw c at e)))
      (λ c.
      number_is first h (limits_of spacing (whole_at 157 block) (whole_at 535 block)) (real (stretch first 12 block)) (rw c at e)
      (λ q. omega arith))

  pub header_is : header_from values ≡ header_of block
  unfolding back header_of
  header_is =
      λ j.
      record {
        level = integer-is 145 (lit< tt) level refl (λ q. omega arith) j;
        system = integer-is 157 (lit< tt) system refl (λ q. omega arith) j;
        zone = integer-is 163 (lit< tt) zone refl (λ q. omega arith) j;
        ground = integer-is 529 (lit< tt) ground refl (λ q. omega arith) j;
        vertical = integer-is 535 (lit< tt) vertical refl (λ q. omega arith) j;
        sw = record { x = value-is 547 (lit< tt) j; y = value-is 571 (lit< tt) j };
        nw = record { x = value-is 595 (lit< tt) j; y = value-is 619 (lit< tt) j };
        ne = record { x = value-is 643 (lit< tt) j; y = value-is 667 (lit< tt) j };
        se = record { x = value-is 691 (lit< tt) j; y = value-is 715 (lit< tt) j };
        least = value-is 739 (lit< tt) j;
        greatest = value-is 763 (lit< tt) j;
        accuracy = integer-is 811 (lit< tt) accuracy refl (λ q. omega arith) j;
        xstep = step_is 817 (lit< tt) refl j;
        ystep = step_is 829 (lit< tt) refl j;
        zstep = spacing-is 841 (lit< tt) height refl (λ q. omega arith) j;
        profiles = integer-is 859 (lit< tt) profiles refl (λ q. omega arith) j;
      }

-- ---- the verdict, by what the code found
module _ (family : ℕ) (block : List ℕ) where
  pub verdict-length : (length block ≡ 1024 → ⊥) → Refused 1 0 ≡ record_of family block
  unfolding record_of
  verdict-length h = sym (simp (ne_eqb (length block) 1024 h))

  module _ (h : length block ≡ 1024) where
    pub verdict-family : known family ≡ false → Refused 2 0 ≡ record_of family block
    unfolding record_of
    verdict-family k = sym (simp (eq-eqb (length block) 1024 h, k))

    module _ (k : known family ≡ true) where
      pub verdict-field : (f : Fault) → f ≡ fields_fault family block → (f.kind ≡ 0 → ⊥) → Refused f.kind f.byte ≡ record_of family block
      unfolding record_of
      verdict-field f e n =
          let q : eqb (fields_fault family block).kind 0 ≡ false = ap (λ (x : Fault). eqb x.kind 0) (sym e) ∙ ne_eqb f.kind 0 n in
          sym (simp (eq-eqb (length block) 1024 h, k, q) (ap (λ (x : Fault). Refused x.kind x.byte) (sym e)))

      module _ (z : (fields_fault family block).kind ≡ 0) where
        pub verdict-corner : corner_told family block ≡ false → Refused 15 110 ≡ record_of family block
        unfolding record_of
        verdict-corner c = sym (simp (eq-eqb (length block) 1024 h, k, eq-eqb (fields_fault family block).kind 0 z, c))

        module _ (c : corner_told family block ≡ true) where
          pub verdict-whole : (w : Fault) → w ≡ family_fault family (header_of block) → (w.kind ≡ 0 → ⊥)
              → Refused w.kind w.byte ≡ record_of family block
          unfolding record_of
          verdict-whole w e n =
              let q : eqb (family_fault family (header_of block)).kind 0 ≡ false =
              ap (λ (x : Fault). eqb x.kind 0) (sym e) ∙ ne_eqb w.kind 0 n
              in
              sym
              (simp (eq-eqb (length block) 1024 h, k, eq-eqb (fields_fault family block).kind 0 z, c, q)
              (ap (λ (x : Fault). Refused x.kind x.byte) (sym e)))

          pub verdict-sheet : (family_fault family (header_of block)).kind ≡ 0 → Sheet (header_of block) ≡ record_of family block
          unfolding record_of
          verdict-sheet e =
              sym
              (simp (
                eq-eqb (length block) 1024 h,
                k,
                eq-eqb (fields_fault family block).kind 0 z,
                c,
                eq-eqb (family_fault family (header_of block)).kind 0 e,
              ))
