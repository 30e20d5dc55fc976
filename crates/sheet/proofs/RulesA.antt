-- The verdict on a block is its first broken rule, or its header where it keeps all: carried by an induction over the rows.
use mathlib.Core.Bool.{Bool, true, false, cond}
use mathlib.Core.List.{List, [], ◌∷◌, ◌++◌}
use mathlib.Core.Logic.{◌⊎◌, inl, inr, ◌↔◌}
use mathlib.Core.Path.{◌≡◌, sym, ◌∙◌, refl, ap}
use Prim.Native.Nat.{ℕ, ◌+◌, ◌-◌}
use borrow.Author.Tests.{eqb-false, leb-true, eq-eqb, ne_eqb, eqb-true}
use lib.ListN.{length}
use lib.Dec.{leb, eqb}
use native.Mathlib.Omega.{arith}
use Rattle.laws.specs.Family.{known, is_canadian}
use Rattle.laws.specs.Sign.{◌and◌}
use Rattle.laws.proofs.Tests.{by-test, and_first, and_second}
use Rattle.laws.proofs.Tables.{all}
use Rattle.laws.proofs.Families.{each-family}
use Rattle.field.specs.declared.Fault.{Fault}
use Rattle.field.specs.Field.{fault}
use Rattle.field.specs.Rules.{Clause, KeepsAll, FirstBroken, Pointed}
use Rattle.field.proofs.Rules.{named, broken_or, first-append, kept-or-broken, keeps-first, broken-first, broken-named}
use Rattle.field.proofs.FieldRules.{Says}
use Rattle.field.proofs.Points.{Forms, forms-append, broken-pointed}
use Rattle.field.proofs.Points.Forms.{none, other}
use Rattle.frame.specs.Frame.{family_fault}
use Rattle.frame.specs.declared.Header.{Header}
use Rattle.heading.specs.Heading.{header_of}
use Rattle.sheet.specs.RulesA.{rules_a, whole_rules, rules_canadian, canadian_whole, rules_for}
use Rattle.sheet.specs.RecordA.{canadian_front, usgs_front, back, fields_of, fields_fault, Row, judge_row, first_fault, corner_told, whole_of, fault_of, record_of}
use Rattle.sheet.specs.RecordA.Checked.{Sheet, Refused}
use Rattle.sheet.proofs.RowRules.{clauses_of, field_clauses, suits, rule-says, other_kind, rule-forms}
use Rattle.sheet.proofs.HeaderA.{verdict-length}

-- ---- the rules of record A
pub rules-count : length rules_a ≡ 86
unfolding rules_a
rules-count = refl

pub canadian-count : length rules_canadian ≡ 104
unfolding rules_canadian
canadian-count = refl

abbrev whole_for : ℕ → List Clause
whole_for family = cond (is_canadian family) canadian_whole whole_rules

module _ (family : ℕ) (k : known family ≡ true) where
  pub rules-named : all named (rules_for family) ≡ true
  unfolding rules_a rules_canadian
  rules-named = each-family (λ f. all named (rules_for f) ≡ true) family k refl refl

  -- the rules written out are those of the table that the verdict goes by: same bytes, widths, limits and order
  pub rules-of-table : rules_for family ≡ field_clauses family (fields_of family) ++ whole_for family
  unfolding rules_a rules_canadian canadian_front usgs_front back
  rules-of-table = each-family (λ f. rules_for f ≡ field_clauses f (fields_of f) ++ whole_for f) family k refl refl

-- a row stands inside the block, and its width and kind suit its rule
abbrev sound : Row → Bool
sound r = leb 1 r.width and leb (r.first - 1 + r.width) 1024 and suits r.width r.rule

rows-sound : (family : ℕ) → known family ≡ true → all sound (fields_of family) ≡ true
unfolding canadian_front usgs_front back
rows-sound family k = each-family (λ f. all sound (fields_of f) ≡ true) family k refl refl

-- the rules over the whole record say what their verdict says
whole_says : (family : ℕ) (block : List ℕ) → broken_or block (whole_for family) (fault 0 0) ≡ whole_of family block
whole_says family block = by-test (is_canadian family) (λ e. rw e) (λ e. rw e)

module _ (family : ℕ) (k : known family ≡ true) (block : List ℕ) (l : length block ≡ 1024) where
  row-says : (r : Row) → sound r ≡ true → Says block r.first (clauses_of family r.first r.width r.rule) (judge_row family block r)
  row-says r t =
      let some = leb 1 r.width in
      let inside = leb (r.first - 1 + r.width) 1024 in
      let fits = suits r.width r.rule in
      let u = and_second some (inside and fits) t in
      rule-says family block r.first r.width l (leb-true 1 r.width (and_first some (inside and fits) t))
      (leb-true (r.first - 1 + r.width) 1024 (and_first inside fits u)) r.rule (and_second inside fits u)

  -- f stands for what the rules after the rows say
  rows-say : (rs : List Row) → all sound rs ≡ true → (f : Fault)
      → broken_or block (field_clauses family rs) f ≡ cond (eqb (first_fault family block rs).kind 0) f (first_fault family block rs)
  rows-say [] t f = refl
  rows-say (r ∷ rs) t f =
      let i = rows-say rs (and_second (sound r) (all sound rs) t) f in
      first-append block (clauses_of family r.first r.width r.rule) (field_clauses family rs) f
      ∙ row-says r (and_first (sound r) (all sound rs) t) _
      ∙ by-test (eqb (judge_row family block r).kind 0) (λ e. rw e i) (λ e. simp e)

  fault-is : fault_of family block ≡ broken_or block (rules_for family) (fault 0 0)
  fault-is =
      rw (eq-eqb (length block) 1024 l, k, rules-of-table family k)
      (sym
      (first-append block (field_clauses family (fields_of family)) (whole_for family) (fault 0 0)
      ∙ ap (broken_or block (field_clauses family (fields_of family))) (whole_says family block)
      ∙ rows-say (fields_of family) (rows-sound family k) (whole_of family block)))

  verdict-is : (f : Fault) → broken_or block (rules_for family) (fault 0 0) ≡ f
      → record_of family block ≡ cond (eqb f.kind 0) (Sheet (header_of block)) (Refused f.kind f.byte)
  unfolding record_of
  verdict-is f e = rw (fault-is ∙ e)

  verdict-kept : KeepsAll block (rules_for family) → record_of family block ≡ Sheet (header_of block)
  verdict-kept k = verdict-is (fault 0 0) (keeps-first k (fault 0 0))

  verdict-broken : {c : Clause} → FirstBroken block c (rules_for family) → record_of family block ≡ Refused c.kind (c.byte block)
  verdict-broken {c} b =
      let n : eqb c.kind 0 ≡ false = ne_eqb c.kind 0 (broken-named b (rules-named family k)) in
      verdict-is (fault c.kind (c.byte block)) (broken-first b (fault 0 0)) ∙ rw n

-- a block without fault is of a family that we know
pub fine-known : (family : ℕ) (block : List ℕ) → (fault_of family block).kind ≡ 0 → known family ≡ true
fine-known family block z =
    by-test (known family) (λ k. k)
    (λ k.
    by-test (eqb (length block) 1024)
    (λ l.
    let e : ◌≡◌ {A = ℕ} 2 0 = rw (l, k) at z in
    absurd (omega arith))
    (λ l.
    let e : ◌≡◌ {A = ℕ} 1 0 = rw l at z in
    absurd (omega arith)))

-- ---- what the verdict says
not-both {ℓ} : {X : Type ℓ} {h : Header} {kind y : ℕ} → Sheet h ≡ Refused kind y → X
not-both e =
    let z : ◌≡◌ {A = ℕ} 0 1 = cc in
    absurd (omega arith)

module _ (family : ℕ) (k : known family ≡ true) (block : List ℕ) where
  pub refused-length : (length block ≡ 1024 → ⊥) → record_of family block ≡ Refused 1 0
  refused-length n = sym (verdict-length family block n)

  pub refused-first : (kind y : ℕ) → length block ≡ 1024
      → (record_of family block ≡ Refused kind y) ↔ ((c : Clause) × FirstBroken block c (rules_for family) × (c.kind ≡ kind) × (c.byte block ≡ y))
  refused-first kind y l = (λ e. go e (kept-or-broken block (rules_for family)), λ b. verdict-broken family k block l b.1 ∙ rw (b.2, b.3))
    where
      go : record_of family block ≡ Refused kind y → KeepsAll block (rules_for family) ⊎ ((c : Clause) × FirstBroken block c (rules_for family))
          → (c : Clause) × FirstBroken block c (rules_for family) × (c.kind ≡ kind) × (c.byte block ≡ y)
      go e (inl a) = not-both (sym (verdict-kept family k block l a) ∙ e)
      go e (inr b) =
          let d = verdict-broken family k block l b.1 in
          (b.0, b.1, cc, cc)

  sheet-keeps : {h : Header} → record_of family block ≡ Sheet h → (length block ≡ 1024) × KeepsAll block (rules_for family)
  sheet-keeps e =
      by-test (eqb (length block) 1024) (λ t. go (eqb-true (length block) 1024 t) (kept-or-broken block (rules_for family)))
      (λ t. not-both (sym e ∙ refused-length (eqb-false (length block) 1024 t)))
    where
      go : length block ≡ 1024 → KeepsAll block (rules_for family) ⊎ ((c : Clause) × FirstBroken block c (rules_for family))
          → (length block ≡ 1024) × KeepsAll block (rules_for family)
      go l (inl r) = (l, r)
      go l (inr b) = not-both (sym e ∙ verdict-broken family k block l b.1)

  pub sheet-exactly : ((h : Header) × (record_of family block ≡ Sheet h)) ↔ ((length block ≡ 1024) × KeepsAll block (rules_for family))
  sheet-exactly = (λ s. sheet-keeps s.1, λ r. (header_of block, verdict-kept family k block r.0 r.1))

  pub sheet-header : {h : Header} → record_of family block ≡ Sheet h → h ≡ header_of block
  sheet-header {h} e =
      let r = sheet-keeps e in
      let d = verdict-kept family k block r.0 r.1 in
      cc

  -- so neither a field nor a rule of the whole record is at fault
  module _ {h : Header} (e : record_of family block ≡ Sheet h) where
    sheet-faults : (cond (eqb (fields_fault family block).kind 0) (whole_of family block) (fields_fault family block)).kind ≡ 0
    sheet-faults =
        let r = sheet-keeps e in
        rw (eq-eqb (length block) 1024 r.0, k)
        at (ap (λ (f : Fault). f.kind) (fault-is family k block r.0 ∙ keeps-first r.1 (fault 0 0)))

    pub sheet-fine : (fields_fault family block).kind ≡ 0
    sheet-fine =
        by-test (eqb (fields_fault family block).kind 0) (eqb-true (fields_fault family block).kind 0) (λ t. rw t at sheet-faults)

    -- the corner's text says the SW corner, where the family has one
    pub sheet-corner : corner_told family block ≡ true
    sheet-corner = by-test (corner_told family block) (λ c. c) (λ c. absurd (wrong c))
      where
        wrong : corner_told family block ≡ false → ⊥
        wrong c =
            let f : ◌≡◌ {A = ℕ} 15 0 = rw (eq-eqb (fields_fault family block).kind 0 sheet-fine, c) at sheet-faults in
            omega arith

    pub sheet-whole : (family_fault family h).kind ≡ 0
    sheet-whole = rw (sheet-header e) (rw (eq-eqb (fields_fault family block).kind 0 sheet-fine, sheet-corner) at sheet-faults)

-- ---- 02, request 6: wrong form at the very byte of its field
rows-forms : (family : ℕ) (rs : List Row) → all (λ r. other_kind r.rule) rs ≡ true → Forms (field_clauses family rs)
rows-forms family [] t = none
rows-forms family (r ∷ rs) t =
    let one = other_kind r.rule in
    let rest = all (λ (q : Row). other_kind q.rule) rs in
    forms-append (rule-forms family r.first r.width r.rule (and_first one rest t)) (rows-forms family rs (and_second one rest t))

whole-forms : (family : ℕ) → Forms (whole_for family)
whole-forms family =
    by-test (is_canadian family) (λ e. rw e (other refl (other refl (other refl (other refl none)))))
    (λ e. rw e (other refl (other refl (other refl none))))

module _ (family : ℕ) (k : known family ≡ true) where
  rows_other : all (λ r. other_kind r.rule) (fields_of family) ≡ true
  unfolding canadian_front usgs_front back
  rows_other = each-family (λ f. all (λ r. other_kind r.rule) (fields_of f) ≡ true) family k refl refl

  rules-forms : Forms (rules_for family)
  rules-forms = rw (rules-of-table family k) (forms-append (rows-forms family (fields_of family) rows_other) (whole-forms family))

pub record-a-pointed : (family : ℕ) (block : List ℕ) (y : ℕ) → record_of family block ≡ Refused 6 y → Pointed block (rules_for family) y
unfolding record_of
record-a-pointed family block y e =
    by-test (eqb (length block) 1024)
    (λ l.
    by-test (known family)
    (λ k.
    let b = (refused-first family k block 6 y (eqb-true (length block) 1024 l)).0 e in
    broken-pointed (rules-forms family k) b.1 b.2 b.3)
    (λ k.
    let q : Refused 2 0 ≡ Refused 6 y = rw (l, k) at e in
    let z : ◌≡◌ {A = ℕ} 2 6 = cc in
    absurd (omega arith)))
    (λ l.
    let q : Refused 1 0 ≡ Refused 6 y = rw l at e in
    let z : ◌≡◌ {A = ℕ} 1 6 = cc in
    absurd (omega arith))
