-- The header of a good block 0 obeys record A: what is read keeps the fields' rules.
use mathlib.Core.Bool.{true, false}
use mathlib.Core.Path.{◌≡◌, refl, sym, ◌∙◌, ap}
use Prim.Native.Nat.{◌^◌, ℕ}
use borrow.Author.Tests.{lt-ltb, eq-eqb}
use lib.Dec.{lit<}
use lib.IntN.{ℤ, nat_abs}
use mathlib.Core.List.{List}
use native.Mathlib.Omega.{arith}
use Rattle.laws.specs.Family.{known, is_canadian}
use Rattle.laws.specs.Sign.{not_negative}
use Rattle.laws.proofs.Tests.{and_both, by-test}
use Rattle.number.specs.declared.Reading.{Reading}
use Rattle.number.specs.Integer.{integer}
use Rattle.number.specs.Real.{real}
use Rattle.number.proofs.Limits.{Limited, real-limits}
use Rattle.field.specs.Field.{stretch, in_range, ranged, whole_at, real_at}
use Rattle.field.specs.declared.Limits.{Limits}
use Rattle.field.proofs.Ranges.{range-read}
use Rattle.frame.specs.Frame.{whole_fault, canadian_fault, family_fault}
use Rattle.frame.specs.declared.Header.{Header}
use Rattle.heading.specs.Heading.{Name, limits_of, family_limits, spacing_at, header_of, is_real_number, fields_obey, reals_obey, header_obeys, canadian_fields, family_obeys}
use Rattle.heading.specs.Heading.Name.{level, system, zone, ground, vertical, accuracy, spacing, height, profiles}
use Rattle.heading.proofs.LimitKinds.{family-kind}
use Rattle.sheet.specs.RecordA.{back, judge, fields_fault, record_of, record_a}
use Rattle.sheet.specs.RecordA.Rule.{spaced}
use Rattle.sheet.specs.RecordA.Checked.{Sheet}
use Rattle.sheet.proofs.RowRules.{kind_of}
use Rattle.sheet.proofs.HeaderA.{field-fine}
use Rattle.sheet.proofs.RulesA.{sheet-header, sheet-fine, sheet-whole}

pub real-number : (z : ℤ) → Limited z → is_real_number z ≡ true
real-number z l = and_both (lt-ltb (nat_abs z) (10 ^ 18) l.0) l.1

module _ (family : ℕ) (block : List ℕ) (fine : (fields_fault family block).kind ≡ 0) where
  abbrev by : Name → Limits
  by name = family_limits family name (whole_at 157 block) (whole_at 535 block)

  stands-in : (name : Name) (r : Reading) → (ranged (by name) r).kind ≡ 0 → (kind_of name ≡ 0 → ⊥)
      → in_range (by name) (not_negative r.value) ≡ true
  stands-in name r z n =
      range-read (by name) r (λ q. n (sym (family-kind family name (whole_at 157 block) (whole_at 535 block)) ∙ q)) z

  integer-in : (name : Name) (first : ℕ) → (ranged (by name) (integer (stretch first 6 block))).kind ≡ 0 → (kind_of name ≡ 0 → ⊥)
      → in_range (by name) (whole_at first block) ≡ true
  integer-in name first = stands-in name (integer (stretch first 6 block))

  spacing-in : (name : Name) (first : ℕ) → (ranged (by name) (real (stretch first 12 block))).kind ≡ 0 → (kind_of name ≡ 0 → ⊥)
      → in_range (by name) (spacing_at first block) ≡ true
  spacing-in name first = stands-in name (real (stretch first 12 block))

  -- an x or y spacing of a USGS sheet
  step_in : is_canadian family ≡ false → (first : ℕ)
      → (judge family spaced (whole_at 157 block) (whole_at 535 block) (stretch first 12 block)).kind ≡ 0
      → in_range (limits_of spacing (whole_at 157 block) (whole_at 535 block)) (spacing_at first block) ≡ true
  step_in u first z =
      range-read (limits_of spacing (whole_at 157 block) (whole_at 535 block)) (real (stretch first 12 block)) (λ q. omega arith) (rw u at z)

  -- each number of the header in the limits of its family
  pub record InLimits (h : Header) : Type 0 where
    pub level_in : in_range (family_limits family level h.system h.vertical) h.level ≡ true
    pub system-in : in_range (family_limits family system h.system h.vertical) h.system ≡ true
    pub zone-in : in_range (family_limits family zone h.system h.vertical) h.zone ≡ true
    pub ground-in : in_range (family_limits family ground h.system h.vertical) h.ground ≡ true
    pub vertical-in : in_range (family_limits family vertical h.system h.vertical) h.vertical ≡ true
    pub accuracy-in : in_range (family_limits family accuracy h.system h.vertical) h.accuracy ≡ true
    pub height-in : in_range (family_limits family height h.system h.vertical) h.zstep ≡ true
    pub profiles-in : in_range (family_limits family profiles h.system h.vertical) h.profiles ≡ true

  limits-read : InLimits (header_of block)
  unfolding back header_of
  limits-read =
      record {
        level_in = integer-in level 145 (field-fine family block fine 145 (lit< tt)) (λ e. omega arith);
        system-in = integer-in system 157 (field-fine family block fine 157 (lit< tt)) (λ e. omega arith);
        zone-in = integer-in zone 163 (field-fine family block fine 163 (lit< tt)) (λ e. omega arith);
        ground-in = integer-in ground 529 (field-fine family block fine 529 (lit< tt)) (λ e. omega arith);
        vertical-in = integer-in vertical 535 (field-fine family block fine 535 (lit< tt)) (λ e. omega arith);
        accuracy-in = integer-in accuracy 811 (field-fine family block fine 811 (lit< tt)) (λ e. omega arith);
        height-in = spacing-in height 841 (field-fine family block fine 841 (lit< tt)) (λ e. omega arith);
        profiles-in = integer-in profiles 859 (field-fine family block fine 859 (lit< tt)) (λ e. omega arith);
      }

  real-in : (first : ℕ) → (real (stretch first 24 block)).kind ≡ 0 → is_real_number (real_at first block) ≡ true
  real-in first z = real-number (real_at first block) (real-limits (stretch first 24 block) z)

  reals-read : reals_obey (header_of block) ≡ true
  unfolding back header_of
  reals-read =
      and_both (and_both (real-in 547 (field-fine family block fine 547 (lit< tt))) (real-in 571 (field-fine family block fine 571 (lit< tt))))
      (and_both (and_both (real-in 595 (field-fine family block fine 595 (lit< tt))) (real-in 619 (field-fine family block fine 619 (lit< tt))))
      (and_both (and_both (real-in 643 (field-fine family block fine 643 (lit< tt))) (real-in 667 (field-fine family block fine 667 (lit< tt))))
      (and_both (and_both (real-in 691 (field-fine family block fine 691 (lit< tt))) (real-in 715 (field-fine family block fine 715 (lit< tt))))
      (and_both (real-in 739 (field-fine family block fine 739 (lit< tt))) (real-in 763 (field-fine family block fine 763 (lit< tt)))))))

  usgs-fields : is_canadian family ≡ false → fields_obey (header_of block) ≡ true
  unfolding back header_of
  usgs-fields u =
      let l = limits-read in
      and_both (rw u at l.level_in)
      (and_both (rw u at l.system-in)
      (and_both (rw u at l.zone-in)
      (and_both (rw u at l.ground-in)
      (and_both (rw u at l.vertical-in)
      (and_both (rw u at l.accuracy-in)
      (and_both (step_in u 817 (field-fine family block fine 817 (lit< tt)))
      (and_both (step_in u 829 (field-fine family block fine 829 (lit< tt)))
      (and_both (rw u at l.height-in) (rw u at l.profiles-in)))))))))

  canadian-fields : is_canadian family ≡ true → canadian_fields (header_of block) ≡ true
  canadian-fields c =
      let l = limits-read in
      and_both (rw c at l.level_in)
      (and_both (rw c at l.system-in)
      (and_both (rw c at l.zone-in)
      (and_both (rw c at l.ground-in)
      (and_both (rw c at l.vertical-in)
      (and_both (rw c at l.accuracy-in) (and_both (rw c at l.height-in) (rw c at l.profiles-in)))))))

  obeys : (family_fault family (header_of block)).kind ≡ 0 → family_obeys family (header_of block) ≡ true
  obeys w =
      by-test (is_canadian family)
      (λ c. rw c (and_both (canadian-fields c) (and_both reals-read (eq-eqb (canadian_fault (header_of block)).kind 0 (rw c at w)))))
      (λ u. rw u (and_both (usgs-fields u) (and_both reals-read (eq-eqb (whole_fault (header_of block)).kind 0 (rw u at w)))))

-- the header of a good block 0 obeys record A of its family
pub family-sheet-obeys : (family : ℕ) → known family ≡ true → (block : List ℕ) (h : Header) → record_of family block ≡ Sheet h
    → family_obeys family h ≡ true
family-sheet-obeys family k block h e =
    let same : h ≡ header_of block = sheet-header family k block e in
    let w : (family_fault family (header_of block)).kind ≡ 0 =
    ap (λ (x : Header). (family_fault family x).kind) (sym same) ∙ sheet-whole family k block e
    in
    ap (family_obeys family) same ∙ obeys family block (sheet-fine family k block e) w

-- and of a USGS one
pub sheet-obeys : (block : List ℕ) (h : Header) → record_a block ≡ Sheet h → header_obeys h ≡ true
sheet-obeys block h e = family-sheet-obeys 0 refl block h e
