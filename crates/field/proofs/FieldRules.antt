-- The rules of a field say what its judged reading says: carried by the few kinds that a reading of a fitting length can have.
use mathlib.Core.Bool.{cond, Bool, true, false}
use mathlib.Core.List.{List, [], ◌∷◌, ◌++◌}
use Prim.Native.Nat.{ℕ, ◌*◌, ◌/◌, ◌%◌, ◌^◌, ◌+◌, ◌-◌, ◌≤◌}
use mathlib.Core.Logic.{◌↔◌}
use mathlib.Core.Path.{◌≡◌, refl, sym, ◌∙◌, ap}
use lib.Dec.{eqb, leb}
use lib.IntN.{pos}
use borrow.Author.Tests.{eqb-true, eqb-false, not-true, leb-true}
use native.Mathlib.Nat.{add-zero}
use native.Mathlib.Omega.{arith}
use lib.ListN.{length, length-take, length-drop}
use Rattle.laws.specs.Lists.{joined}
use Rattle.laws.specs.Digits.{short}
use Rattle.laws.specs.Sign.{◌and◌}
use Rattle.laws.proofs.Tests.{either, clash, and_first, and_second, by-test}
use Rattle.laws.proofs.Tables.{all}
use Rattle.number.specs.declared.Reading.{Reading}
use Rattle.number.specs.Integer.{integer, integer_form, unsigned_part, read, refused}
use Rattle.number.specs.Real.{billionths, real, real_form}
use Rattle.number.proofs.Fields.{within-good}
use Rattle.number.proofs.Grammar.{Fits, integer-pointed, real-pointed}
use Rattle.field.specs.Field.{fault, place_in, in_limits, ranged, stretch, rest_fault, Judged, first_of, fault_or}
use Rattle.field.specs.declared.Fault.{Fault}
use Rattle.field.specs.declared.Limits.{Limits}
use Rattle.field.specs.Rules.{Clause, clause, form_clause, spared, integer_forms, real_forms, integer_by, integer_in, real_rules, real_by, blank_rules, KeepsAll, FirstBroken}
use Rattle.field.proofs.Ranges.{HasKind}
use Rattle.field.proofs.Rules.{broken_or, first-append, nonzero, fault-first, fault-exactly}

-- ---- the kinds that a reading can have
abbrev among : List ℕ → ℕ → Bool
among [] n = false
among (k ∷ ks) n = cond (eqb n k) true (among ks n)

abbrev OneOf : List ℕ → Reading → Type 0
OneOf ks r = among ks r.kind ≡ true

abbrev integer_kinds : List ℕ
integer_kinds = 6 ∷ []

abbrev real_kinds : List ℕ
real_kinds = 6 ∷ 7 ∷ 8 ∷ []

integer-kinds : (s : List ℕ) → Fits 6 s → OneOf (0 ∷ integer_kinds) (integer s)
unfolding integer
integer-kinds s f = rw (within-good 6 s _ f.0 f.1) (either (OneOf (0 ∷ integer_kinds)) (integer_form s) refl refl)

billionths-kinds : (minus : Bool) (m u d : ℕ) → OneOf (0 ∷ real_kinds) (billionths minus m u d)
unfolding billionths
billionths-kinds minus m u d =
    either (OneOf (0 ∷ real_kinds)) (leb (10 ^ 18 * 10 ^ d) (m * 10 ^ u)) refl
    (either (OneOf (0 ∷ real_kinds)) (eqb (m * 10 ^ u % 10 ^ d) 0 and short 18 15 (m * 10 ^ u / 10 ^ d)) refl refl)

kinds-of_real : (s : List ℕ) → Fits 24 s → OneOf (0 ∷ real_kinds) (real s)
unfolding real
kinds-of_real s f =
    rw (within-good 24 s _ f.0 f.1)
    (either (OneOf (0 ∷ real_kinds)) (real_form (unsigned_part s)) (billionths-kinds _ _ _ _) refl)

-- ---- the rules of one field

-- a reading that passed, with a rule of its own: a test of its value and the kind of its refusal
abbrev pub owned : Bool → ℕ → Reading → Reading
owned t k r = cond (eqb r.kind 0) (cond t r (refused k)) r

module _ (block : List ℕ) (first : ℕ) where
  -- rules that say what a reading says: a good one leaves f, another is its kind at its place in the field
  abbrev pub Says : List Clause → Reading → Type 0
  Says cs r = (f : Fault) → broken_or block cs f ≡ cond (eqb r.kind 0) f (fault r.kind (place_in first r))

  -- a reading is refused for none of these kinds, one rule for each; a reading that names no byte is refused at the first
  abbrev sparing : List ℕ → (List ℕ → Reading) → List Clause
  sparing [] r = []
  sparing (k ∷ ks) r = clause first k (λ b. spared k (r b)) ∷ sparing ks r

  sparing-says : (ks : List ℕ) (r : List ℕ → Reading) → all nonzero ks ≡ true → OneOf (0 ∷ ks) (r block) → (r block).byte ≡ 0
      → Says (sparing ks r) (r block)
  sparing-says [] r t o n f = by-test (eqb (r block).kind 0) (λ e. rw e) (λ e. clash (sym (rw e at o)))
  sparing-says (k ∷ ks) r t o y f =
      let n : eqb k 0 ≡ false = not-true (eqb k 0) (and_first (nonzero k) (all nonzero ks) t) in
      let m : all nonzero ks ≡ true = and_second (nonzero k) (all nonzero ks) t in
      by-test (eqb (r block).kind k) (λ e. rw (e, eqb-true (r block).kind k e, n, y) (ap (fault k) (sym (add-zero first))))
      (λ e. rw e (sparing-says ks r m (rw e at o) y f))

  -- the byte of wrong form, which is named exactly then
  form-place : (r : Reading) → (r.byte ≡ 0) ↔ (r.kind ≡ 6 → ⊥) → r.kind ≡ 6 → first + r.byte - 1 ≡ place_in first r
  form-place r p k = let n : r.byte ≡ 0 → ⊥ = λ z. p.0 z k in omega (arith, n)

  -- .. and first for its form
  form-first : (ks : List ℕ) (r : List ℕ → Reading) → all nonzero ks ≡ true → OneOf (0 ∷ 6 ∷ ks) (r block)
      → ((r block).byte ≡ 0) ↔ ((r block).kind ≡ 6 → ⊥) → Says (form_clause first r ∷ sparing ks r) (r block)
  form-first ks r t o p f =
      by-test (eqb (r block).kind 6)
      (λ e. let k = eqb-true (r block).kind 6 e in rw k (ap (fault 6) (form-place (r block) p k)))
      (λ e. rw e (sparing-says ks r t (rw e at o) (p.1 (eqb-false (r block).kind 6 e)) f))

  -- of some reals the form alone is asked
  form-alone : (r : List ℕ → Reading) → ((r block).byte ≡ 0) ↔ ((r block).kind ≡ 6 → ⊥)
      → Says (form_clause first r ∷ []) (cond (eqb (r block).kind 6) (r block) (read (pos 0)))
  form-alone r p f =
      by-test (eqb (r block).kind 6)
      (λ e. let k = eqb-true (r block).kind 6 e in rw k (ap (fault 6) (form-place (r block) p k))) (λ e. rw e)

  pub real-alone : (width : ℕ) → let s = stretch first width block in
      Says (real_forms first width) (cond (eqb (real s).kind 6) (real s) (read (pos 0)))
  real-alone width = form-alone (λ b. real (stretch first width b)) (real-pointed (stretch first width block))

  -- a stretch of text or blanks stands at its first byte
  pub text_says : (test : List ℕ → Bool) → Says (clause first 5 test ∷ []) (cond (test block) (read (pos 0)) (refused 5))
  text_says test f = by-test (test block) (λ e. rw e) (λ e. rw e (ap (fault 5) (sym (add-zero first))))

  -- a field's own rule stands last: of a reading that is refused already it has nothing to say
  pub own-says : (cs : List Clause) (r : Reading) → Says cs r → (k : ℕ) (test : List ℕ → Bool) → nonzero k ≡ true
      → (kind : ℕ) → kind ≡ k → Says (cs ++ (clause first k test ∷ [])) (owned (test block) kind r)
  own-says cs r says k test n kind e f =
      let m : eqb k 0 ≡ false = not-true (eqb k 0) n in
      first-append block cs _ f
      ∙ says _
      ∙ by-test (eqb r.kind 0) (λ z. by-test (test block) (λ i. simp (z, i)) (λ i. simp (z, i, e, m) (ap (fault k) (sym (add-zero first))))) (λ z. simp z)

  module _ (width : ℕ) (h : length block ≡ 1024) (some : 1 ≤ width) (inside : first - 1 + width ≤ 1024) where
    stretch-fits : (most : ℕ) → width ≤ most → Fits most (stretch first width block)
    stretch-fits most k = simp (length-take, length-drop) (omega arith)

    -- the readings of the field, in a block
    abbrev integer_of : List ℕ → Reading
    integer_of b = integer (stretch first width b)

    abbrev real_of : List ℕ → Reading
    real_of b = real (stretch first width b)

    pub form-says : width ≤ 6 → Says (integer_forms first width) (integer_of block)
    form-says w = form-first [] integer_of refl (integer-kinds _ (stretch-fits 6 w)) (integer-pointed _)

    pub real-says : width ≤ 24 → Says (real_rules first width) (real_of block)
    real-says w = form-first (7 ∷ 8 ∷ []) real_of refl (kinds-of_real _ (stretch-fits 24 w)) (real-pointed _)

    module _ (k : ℕ) (within : List ℕ → Limits) (n : nonzero k ≡ true) (e : HasKind k (within block)) where
      pub integer-says : width ≤ 6 → Says (integer_by first width k within) (ranged (within block) (integer_of block))
      integer-says w =
          own-says (integer_forms first width) (integer_of block) (form-says w) k (λ b. in_limits (within b) (integer_of b).value) n
          (within block).kind e

      pub stepped-says : width ≤ 24 → Says (real_by first width k within) (ranged (within block) (real_of block))
      stepped-says w =
          own-says (real_rules first width) (real_of block) (real-says w) k (λ b. in_limits (within b) (real_of b).value) n
          (within block).kind e

-- ---- fields of fixed limits, one behind the other
module _ (block : List ℕ) (h : length block ≡ 1024) (first : ℕ) where
  pub integer-field : leb (first + 5) 1024 ≡ true → (l : Limits) → nonzero l.kind ≡ true
      → Says block first (integer_in first 6 l) (ranged l (integer (stretch first 6 block)))
  integer-field t l n =
      let e : first + 5 ≤ 1024 = leb-true (first + 5) 1024 t in
      integer-says block first 6 h (omega arith) (omega arith) l.kind (λ b. l) n refl (omega arith)

  pub real-field : leb (first + 23) 1024 ≡ true → Says block first (real_rules first 24) (real (stretch first 24 block))
  real-field t =
      let e : first + 23 ≤ 1024 = leb-true (first + 23) 1024 t in
      real-says block first 24 h (omega arith) (omega arith) (omega arith)

-- fields, each with rules that say what its reading says
pub data Told (block : List ℕ) : List (List Clause) → List Judged → Type 0 where
  end : Told block [] []
  next : {cs : List Clause} {css : List (List Clause)} {j : Judged} {js : List Judged} → Says block j.byte cs j.reading
      → Told block css js → Told block (cs ∷ css) (j ∷ js)

-- f stands for what the rules after the fields say
pub told-first : {block : List ℕ} {css : List (List Clause)} {js : List Judged} → Told block css js → (f : Fault)
    → broken_or block (joined css) f ≡ cond (eqb (first_of js).kind 0) f (first_of js)
told-first end f = refl
told-first {block} (next {cs} {css} {j} {js} s t) f =
    first-append block cs (joined css) f
    ∙ s _
    ∙ by-test (eqb j.reading.kind 0) (λ e. rw e (told-first t f)) (λ e. simp e)

-- .. and where none stand after them
pub told-all : {block : List ℕ} {css : List (List Clause)} {js : List Judged} → Told block css js
    → broken_or block (joined css) (fault 0 0) ≡ first_of js
told-all end = refl
told-all {block} (next {cs} {css} {j} {js} s t) =
    first-append block cs (joined css) (fault 0 0) ∙ s _ ∙ ap (λ (g : Fault). fault_or j.reading j.byte g) (told-all t)

-- ---- "All that remains of a block is blank (5)": no fault exactly when it is, and else 5 at the first of its bytes
module _ (byte : ℕ) (block : List ℕ) where
  pub rest-is : rest_fault byte block ≡ broken_or block (blank_rules byte) (fault 0 0)
  rest-is = refl

  pub rest-exactly : ((rest_fault byte block).kind ≡ 0) ↔ KeepsAll block (blank_rules byte)
  rest-exactly = fault-exactly block (blank_rules byte) (rest_fault byte block) rest-is refl

  pub rest-first : (c : Clause) → FirstBroken block c (blank_rules byte) → rest_fault byte block ≡ fault c.kind (c.byte block)
  rest-first = fault-first block (blank_rules byte) (rest_fault byte block) rest-is refl
