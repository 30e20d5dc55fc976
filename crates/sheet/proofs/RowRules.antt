-- The rules of a row of the table: made from the table alone, they say what its readings say.
use mathlib.Core.Bool.{Bool, true, cond, not}
use mathlib.Core.List.{List, [], ◌∷◌, ◌++◌}
use Prim.Native.Nat.{ℕ, ◌+◌, ◌-◌, ◌≤◌}
use mathlib.Core.Path.{◌≡◌, refl}
use lib.Dec.{eqb, leb}
use borrow.Author.Tests.{leb-true, not-true}
use lib.ListN.{length}
use Rattle.laws.specs.Family.{is_canadian}
use Rattle.laws.specs.Sign.{◌and◌}
use Rattle.laws.specs.Texts.{every}
use Rattle.laws.proofs.Tests.{and_first, and_second, by-test}
use Rattle.number.specs.Bytes.{is_blank}
use Rattle.field.specs.Field.{is_word, is_text, stretch, whole_at}
use Rattle.field.specs.declared.Limits.{Limits}
use Rattle.field.specs.Rules.{Clause, text_rules, mixed_rules, filler_rules, integer_forms, integer_by, real_forms, real_rules, real_by}
use Rattle.field.proofs.Rules.{nonzero}
use Rattle.field.proofs.FieldRules.{Says, form-says, integer-says, real-says, stepped-says, text_says, real-alone}
use Rattle.field.proofs.Points.{Forms, integer-forms, integer-by, real-forms, real-by}
use Rattle.field.proofs.Points.Forms.{none, other, reals}
use Rattle.heading.specs.Heading.{Name, limits_of, family_limits}
use Rattle.heading.specs.Heading.Name.{spacing}
use Rattle.heading.proofs.LimitKinds.{family-kind}
use Rattle.sheet.specs.RecordA.{Rule, Row, judge}
use Rattle.sheet.specs.RecordA.Rule.{words, mixed, filler, form, free, plain, spaced, whole, stepped}

-- the kind of a name's refusal, which is one whatever its limits go by
abbrev pub kind_of : Name → ℕ
kind_of name = (limits_of name 0 0).kind

abbrev limits_in : ℕ → Name → List ℕ → Limits
limits_in family name b = family_limits family name (whole_at 157 b) (whole_at 535 b)

abbrev spacing_in : List ℕ → Limits
spacing_in b = limits_of spacing (whole_at 157 b) (whole_at 535 b)

abbrev pub clauses_of : ℕ → ℕ → ℕ → Rule → List Clause
clauses_of family first width words = text_rules first width
clauses_of family first width mixed = mixed_rules first width
clauses_of family first width filler = filler_rules first width
clauses_of family first width form = real_forms first width
clauses_of family first width free = real_rules first width
clauses_of family first width plain = integer_forms first width
clauses_of family first width spaced = cond (is_canadian family) (real_rules first width) (real_by first width (kind_of spacing) spacing_in)
clauses_of family first width (whole name) = integer_by first width (kind_of name) (limits_in family name)
clauses_of family first width (stepped name) = real_by first width (kind_of name) (limits_in family name)

abbrev pub field_clauses : ℕ → List Row → List Clause
field_clauses family [] = []
field_clauses family (r ∷ rs) = clauses_of family r.first r.width r.rule ++ field_clauses family rs

-- a row is as wide as its reading allows, and its limits have a kind
abbrev pub suits : ℕ → Rule → Bool
suits width words = true
suits width mixed = true
suits width filler = true
suits width form = true
suits width free = leb width 24
suits width plain = leb width 6
suits width spaced = leb width 24
suits width (whole name) = leb width 6 and nonzero (kind_of name)
suits width (stepped name) = leb width 24 and nonzero (kind_of name)

module _ (family : ℕ) (block : List ℕ) (first width : ℕ) (h : length block ≡ 1024) (some : 1 ≤ width) (inside : first - 1 + width ≤ 1024) where
  pub rule-says : (r : Rule) → suits width r ≡ true
      → Says block first (clauses_of family first width r) (judge family r (whole_at 157 block) (whole_at 535 block) (stretch first width block))
  rule-says words t = text_says block first (λ b. every is_word (stretch first width b))
  rule-says mixed t = text_says block first (λ b. every is_text (stretch first width b))
  rule-says filler t = text_says block first (λ b. every is_blank (stretch first width b))
  rule-says form t = real-alone block first width
  rule-says free t = real-says block first width h some inside (leb-true width 24 t)
  rule-says plain t = form-says block first width h some inside (leb-true width 6 t)
  rule-says spaced t =
      by-test (is_canadian family) (λ e. rw e (real-says block first width h some inside (leb-true width 24 t)))
      (λ e. rw e (stepped-says block first width h some inside (kind_of spacing) spacing_in refl refl (leb-true width 24 t)))
  rule-says (whole name) t =
      let k = nonzero (kind_of name) in
      integer-says block first width h some inside (kind_of name) (limits_in family name) (and_second (leb width 6) k t)
      (family-kind family name (whole_at 157 block) (whole_at 535 block)) (leb-true width 6 (and_first (leb width 6) k t))
  rule-says (stepped name) t =
      let k = nonzero (kind_of name) in
      stepped-says block first width h some inside (kind_of name) (limits_in family name) (and_second (leb width 24) k t)
      (family-kind family name (whole_at 157 block) (whole_at 535 block)) (leb-true width 24 (and_first (leb width 24) k t))

-- ---- 02, request 6: a rule of kind 6 is one of form

-- limits, where a row has some, are refused with another kind than 6
abbrev pub other_kind : Rule → Bool
other_kind words = true
other_kind mixed = true
other_kind filler = true
other_kind form = true
other_kind free = true
other_kind plain = true
other_kind spaced = true
other_kind (whole name) = not (eqb (kind_of name) 6)
other_kind (stepped name) = not (eqb (kind_of name) 6)

pub rule-forms : (family first width : ℕ) (r : Rule) → other_kind r ≡ true → Forms (clauses_of family first width r)
rule-forms family first width words t = other refl none
rule-forms family first width mixed t = other refl none
rule-forms family first width filler t = other refl none
rule-forms family first width form t = reals first width none
rule-forms family first width free t = real-forms first width
rule-forms family first width plain t = integer-forms first width
rule-forms family first width spaced t =
    by-test (is_canadian family) (λ e. rw e (real-forms first width)) (λ e. rw e (real-by first width (kind_of spacing) spacing_in refl))
rule-forms family first width (whole name) t =
    integer-by first width (kind_of name) (limits_in family name) (not-true (eqb (kind_of name) 6) t)
rule-forms family first width (stepped name) t = real-by first width (kind_of name) (limits_in family name) (not-true (eqb (kind_of name) 6) t)
