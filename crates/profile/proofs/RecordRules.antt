-- The verdict on a head, and on a record C, is the first broken rule of its list, or good where all are kept.
use mathlib.Core.Bool.{Bool, not, true, false, cond}
use mathlib.Core.List.{List, [], ◌∷◌, ◌++◌}
use mathlib.Core.Logic.{◌↔◌}
use mathlib.Core.Path.{◌≡◌, sym, ◌∙◌, refl, ap, subst}
use Prim.Native.Nat.{ℕ, ◌+◌, ◌≤◌, ◌*◌, ◌%◌, ◌^◌}
use borrow.Author.Tests.{eqb-true, eq-eqb, ne_eqb, leb-true, le-ltb}
use lib.Dec.{eqb, leb}
use lib.IntN.{ℤ, pos, negsuc, nat_abs}
use lib.Signed.{lt_z}
use lib.ListN.{length}
use native.Mathlib.Omega.{arith}
use Rattle.laws.specs.Lists.{joined}
use Rattle.laws.specs.Sign.{◌and◌, is_zero, implies}
use Rattle.laws.proofs.Tests.{by-test}
use Rattle.laws.proofs.Tables.{all}
use Rattle.number.specs.declared.Reading.{Reading}
use Rattle.number.specs.Integer.{integer}
use Rattle.number.specs.Real.{real}
use Rattle.field.proofs.Ranges.{posts-kind}
use Rattle.field.specs.Field.{place_in, fault, limits, stretch, whole_at, real_at, rest_fault}
use Rattle.field.specs.Rules.{Clause, KeepsAll, FirstBroken, Pointed, clause, integer_forms, real_rules, blank_rules}
use Rattle.field.proofs.Rules.{broken_or, named, first-append, broken-named, fault-first, fault-exactly}
use Rattle.field.proofs.FieldRules.{owned, Says, own-says, form-says, integer-says, integer-field, real-field, Told, told-first, told-all}
use Rattle.field.proofs.FieldRules.Told.{end, next}
use Rattle.field.proofs.Points.{Forms, forms-append, forms-joined, integer-by, real-forms, integer-forms, fault-pointed}
use Rattle.field.proofs.Points.Forms.{none as no-rule, other}
use Rattle.field.proofs.Points.Each.{end as no_field, next as field-then}
use Rattle.profile.specs.RecordB.{head_fields, head_fault, head_of, record_b}
use Rattle.profile.specs.RecordC.{is_negative, error_reading, fields_c, record_c}
use Rattle.profile.specs.RulesB.{many_posts, head_rules, rules_head}
use Rattle.profile.specs.RulesC.{error_rules, accuracy_rules, rules_c}
use Rattle.profile.specs.declared.record_b.Head.{Head}
use Rattle.profile.specs.RecordB.Headed.{Profile, Refused}
use Rattle.profile.proofs.RecordLaws.{head-answered}

negative-is : (z : ℤ) → lt_z z (pos 0) ≡ is_negative z
negative-is (pos n) = le-ltb n 0 (omega arith)
negative-is (negsuc n) = refl

-- ---- the head of a record B
module _ (family number : ℕ) (block : List ℕ) where
  head-told : length block ≡ 1024 → Told block (head_rules family number) (head_fields family number block)
  head-told h =
      next (integer-field block h 1 refl (limits 1 1 1 9) refl)
      (next (integer-field block h 7 refl (limits number number 1 9) refl)
      (next (integer-says block 13 6 h (omega arith) (omega arith) 7 (λ b. many_posts family) refl (posts-kind family) (omega arith))
      (next (integer-field block h 19 refl (limits 1 1 1 9) refl)
      (next (real-field block h 25 refl)
      (next (real-field block h 49 refl)
      (next
      (own-says block 73 (real_rules 73 24) (real (stretch 73 24 block)) (real-field block h 73 refl) 7
      (λ b. eqb (nat_abs (real_at 73 b) % 10 ^ 7) 0 and leb (nat_abs (real_at 73 b)) (10000 * 10 ^ 9)) refl 7 refl)
      (next (real-field block h 97 refl) (next (real-field block h 121 refl) end))))))))

  head-is : head_fault family number block ≡ broken_or block (rules_head family number) (fault 0 0)
  unfolding rules_head
  head-is =
      by-test (eqb (length block) 1024) (λ e. rw e (sym (told-all (head-told (eqb-true (length block) 1024 e))))) (λ e. rw e)

  head-named : all named (rules_head family number) ≡ true
  unfolding rules_head
  head-named = refl

  -- no fault exactly when every rule is kept, and else the first broken one
  pub head-exactly : ((head_fault family number block).kind ≡ 0) ↔ KeepsAll block (rules_head family number)
  head-exactly = fault-exactly block (rules_head family number) (head_fault family number block) head-is head-named

  pub head_first : (c : Clause) → FirstBroken block c (rules_head family number) → head_fault family number block ≡ fault c.kind (c.byte block)
  head_first = fault-first block (rules_head family number) (head_fault family number block) head-is head-named

  -- the same of the answer
  pub profile-exactly : (h : Head) → (record_b family number block ≡ Profile h) ↔ (KeepsAll block (rules_head family number) × (h ≡ head_of block))
  unfolding record_b
  profile-exactly h = (
    λ p.
        let a = head-answered family number block h p in
        (head-exactly.0 a.0, a.1),
    λ k. rw (eq-eqb (head_fault family number block).kind 0 (head-exactly.1 k.0)) (ap Profile (sym k.1)),
  )

  pub profile-refused : (c : Clause) → FirstBroken block c (rules_head family number) → record_b family number block ≡ Refused c.kind (c.byte block)
  unfolding record_b
  profile-refused c b =
      let n : eqb c.kind 0 ≡ false = ne_eqb c.kind 0 (broken-named b head-named) in
      rw (head_first c b, n)

  -- 02, request 6: wrong form at the very byte of its field
  head-forms : Forms (rules_head family number)
  unfolding rules_head
  head-forms =
      other refl
      (forms-joined
      (field-then (integer-by 1 6 9 (λ b. limits 1 1 1 9) refl)
      (field-then (integer-by 7 6 9 (λ b. limits number number 1 9) refl)
      (field-then (integer-by 13 6 7 (λ b. many_posts family) refl)
      (field-then (integer-by 19 6 9 (λ b. limits 1 1 1 9) refl)
      (field-then (real-forms 25 24)
      (field-then (real-forms 49 24)
      (field-then (forms-append (real-forms 73 24) (other refl no-rule))
      (field-then (real-forms 97 24) (field-then (real-forms 121 24) no_field))))))))))

  pub head-pointed : (y : ℕ) → record_b family number block ≡ Refused 6 y → Pointed block (rules_head family number) y
  unfolding record_b
  head-pointed y e =
      let f = head_fault family number block in
      by-test (eqb f.kind 0)
      (λ z.
      let q : Profile (head_of block) ≡ Refused 6 y = rw z at e in
      let w : ◌≡◌ {A = ℕ} 0 1 = cc in
      absurd (omega arith))
      (λ z.
      let q : Refused f.kind f.byte ≡ Refused 6 y = rw z at e in
      let k : f.kind ≡ 6 = cc in
      let b : f.byte ≡ y = cc in
      subst (Pointed block (rules_head family number)) b (fault-pointed head-forms f head-is k))

-- ---- record C
error-is : (code : ℕ) (r : Reading)
    → owned (implies (eqb code 0) (is_zero r.value)) 9 (owned (not (lt_z r.value (pos 0))) 7 r) ≡ error_reading code r
error-is code r =
    rw (negative-is r.value)
    (by-test (eqb r.kind 0)
    (λ k.
    by-test (is_negative r.value) (λ n. simp (k, n))
    (λ n.
    by-test (eqb code 0) (λ c. by-test (is_zero r.value) (λ z. simp (k, n, c, z)) (λ z. simp (k, n, c, z)))
    (λ c. simp (k, n, c))))
    (λ k. simp k))

module _ (block : List ℕ) where
  module _ (h : length block ≡ 1024) where
    error-field : (code first : ℕ) → leb (first + 5) 1024 ≡ true
        → Says block first (error_rules code first) (error_reading (whole_at code block) (integer (stretch first 6 block)))
    error-field code first t f =
        let e : first + 5 ≤ 1024 = leb-true (first + 5) 1024 t in
        let r = integer (stretch first 6 block) in
        let tests : List ℕ → Bool = λ b. not (lt_z (integer (stretch first 6 b)).value (pos 0)) in
        own-says block first (integer_forms first 6 ++ (clause first 7 tests ∷ [])) (owned (tests block) 7 r)
        (own-says block first (integer_forms first 6) r (form-says block first 6 h (omega arith) (omega arith) (omega arith)) 7 tests refl 7 refl)
        9 (λ b. implies (eqb (whole_at code b) 0) (is_zero (integer (stretch first 6 b)).value)) refl 9 refl f
        ∙ ap (λ (x : Reading). cond (eqb x.kind 0) f (fault x.kind (place_in first x))) (error-is (whole_at code block) r)

    c-told : Told block accuracy_rules (fields_c block)
    c-told =
        next (integer-field block h 1 refl (limits 0 1 1 9) refl)
        (next (error-field 1 7 refl)
        (next (error-field 1 13 refl)
        (next (error-field 1 19 refl)
        (next (error-field 1 25 refl)
        (next (integer-field block h 31 refl (limits 0 1 1 9) refl)
        (next (error-field 31 37 refl)
        (next (error-field 31 43 refl) (next (error-field 31 49 refl) (next (error-field 31 55 refl) end)))))))))

  c-is : record_c block ≡ broken_or block rules_c (fault 0 0)
  unfolding record_c rules_c
  c-is =
      by-test (eqb (length block) 1024)
      (λ e.
      rw e
      (sym
      (first-append block (joined accuracy_rules) (blank_rules 61) (fault 0 0)
      ∙ told-first (c-told (eqb-true (length block) 1024 e)) (rest_fault 61 block))))
      (λ e. rw e)

  c-named : all named rules_c ≡ true
  unfolding rules_c
  c-named = refl

  pub record-c-exactly : ((record_c block).kind ≡ 0) ↔ KeepsAll block rules_c
  record-c-exactly = fault-exactly block rules_c (record_c block) c-is c-named

  pub record-c-first : (c : Clause) → FirstBroken block c rules_c → record_c block ≡ fault c.kind (c.byte block)
  record-c-first = fault-first block rules_c (record_c block) c-is c-named

  error-forms : (code first : ℕ) → Forms (error_rules code first)
  error-forms code first = forms-append (integer-forms first 6) (other refl (other refl no-rule))

  c-forms : Forms rules_c
  unfolding rules_c
  c-forms =
      other refl
      (forms-append
      (forms-joined
      (field-then (integer-by 1 6 9 (λ b. limits 0 1 1 9) refl)
      (field-then (error-forms 1 7)
      (field-then (error-forms 1 13)
      (field-then (error-forms 1 19)
      (field-then (error-forms 1 25)
      (field-then (integer-by 31 6 9 (λ b. limits 0 1 1 9) refl)
      (field-then (error-forms 31 37)
      (field-then (error-forms 31 43) (field-then (error-forms 31 49) (field-then (error-forms 31 55) no_field)))))))))))
      (other refl no-rule))

  -- 02, request 6: wrong form at the very byte of its field
  pub record-c-pointed : (record_c block).kind ≡ 6 → Pointed block rules_c (record_c block).byte
  record-c-pointed = fault-pointed c-forms (record_c block) c-is
