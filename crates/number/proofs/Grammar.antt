-- `integer` and `real` answer what the grammar answers, both ways and for every kind: carried by the laws of forms and values.
use mathlib.Core.List.{List}
use Prim.Native.Nat.{ℕ, ◌≤◌}
use lib.ListN.{length}
use mathlib.Core.Bool.{Bool, true, cond}
use mathlib.Core.Logic.Iff
use mathlib.Core.Logic.{◌↔◌}
use mathlib.Core.Path.{◌≡◌, sym, ◌∙◌, subst, ap, refl}
use borrow.Author.Tests.{le-leb}
use native.Mathlib.Omega.{arith}
use lib.Dec.{leb}
use lib.IntN.{ℤ}
use Rattle.laws.specs.Sign.{◌and◌, signed}
use Rattle.laws.proofs.Tests.{clash, and_both, by-test}
use Rattle.laws.specs.Starts.{VeryByte, Anyhow}
use Rattle.laws.proofs.Answers.{one_answer}
use Rattle.laws.proofs.Starts.{very-wrong, one-very-byte}
use Rattle.number.specs.declared.Reading.{Reading}
use Rattle.number.specs.Integer.{refused, wrong_form, of_length, read, integer, integer_form, integer_value, unsigned_part}
use Rattle.number.specs.Grammar.{IntegerMeans, SomeInteger, RealText, RealMeans, SomeReal, Large, Billionths}
use Rattle.number.specs.Bytes.{is_blank, is_minus, starts, past_all}
use Rattle.number.specs.Real.{real_value, real, real_form}
use Rattle.number.specs.IntegerStarts.{integer_byte}
use Rattle.number.specs.RealStarts.{real_byte}
use Rattle.number.proofs.IntegerBytes.{integer-byte-is, integer-byte-any}
use Rattle.number.proofs.RealBytes.{real-byte-is, real-byte-any}
use Rattle.number.proofs.GrammarParts.{between}
use Rattle.number.proofs.GrammarForms.{integer-read, integer-found, real_read, real-found}
use Rattle.number.proofs.GrammarValues.{Valued, valued-is, valued}
use Rattle.number.proofs.GrammarValues.Valued.{exact, large, fine}

-- 1 to `most` bytes
abbrev pub Fits : ℕ → List ℕ → Type 0
Fits most s = (1 ≤ length s) × (length s ≤ most)

-- what a grammar answers of a text: `Field` holds the ways to take one apart, `Says` what each of them means; wrong form names the very byte
pub data Answer (most : ℕ) (Field : List ℕ → Type 0) (s : List ℕ) (Says : Field s → Reading → Type 0) : Reading → Type 0 where
  wrong-length : (Fits most s → ⊥) → Answer most Field s Says (refused 1)
  wrong-form : Fits most s → (k : ℕ) → VeryByte Field s k → Answer most Field s Says (wrong_form k)
  formed : {r : Reading} → Fits most s → (t : Field s) → Says t r → Answer most Field s Says r

module _ (most : ℕ) {Field : List ℕ → Type 0} (s : List ℕ) {Says : Field s → Reading → Type 0} (form : Bool) (good : Reading) (byte : ℕ)
    (found : form ≡ true → Field s) (says : (e : form ≡ true) → Says (found e) good)
    (passes : Field s → form ≡ true) (said : (t : Field s) (r : Reading) → Says t r → good ≡ r)
    (points : (Field s → ⊥) → 1 ≤ length s → VeryByte Field s byte) where
  abbrev fits : Bool
  fits = leb 1 (length s) and leb (length s) most

  abbrev reading : Reading
  reading = of_length most s (cond form good (wrong_form byte))

  fits-test : Fits most s → fits ≡ true
  fits-test f = and_both (le-leb 1 (length s) f.0) (le-leb (length s) most f.1)

  answer : Answer most Field s Says reading
  answer = by-test fits go (λ i. rw i (wrong-length (λ f. clash (sym (fits-test f) ∙ i))))
    where
      go : fits ≡ true → Answer most Field s Says reading
      go i =
          let f = between 1 (length s) most i in
          by-test form (λ e. rw (i, e) (formed f (found e) (says e)))
          (λ e. rw (i, e) (wrong-form f byte (points (λ t. clash (sym (passes t) ∙ e)) f.0)))

  answer-is : {r : Reading} → Answer most Field s Says r → reading ≡ r
  answer-is (wrong-length g) = by-test fits (λ i. absurd (g (between 1 (length s) most i))) (λ i. rw i)
  answer-is (wrong-form f k v) =
      by-test form (λ e. absurd (very-wrong v (found e)))
      (λ e. rw (fits-test f, e) (ap wrong_form (one-very-byte (points (very-wrong v) f.0) v)))
  answer-is (formed f t v) = rw (fits-test f, passes t) (said t _ v)

  answers : (r : Reading) → (reading ≡ r) ↔ Answer most Field s Says r
  answers r = (λ e. subst (Answer most Field s Says) e answer, answer-is)

pub data Whole (negative : Bool) (size : ℕ) : Reading → Type 0 where
  whole : Whole negative size (read (signed negative size))

abbrev pub IntegerAnswer : List ℕ → Reading → Type 0
IntegerAnswer s = Answer 6 SomeInteger s (λ t. Whole t.negative t.size)

integer-permits : (s : List ℕ) → SomeInteger s ↔ (integer_form s ≡ true)
integer-permits s = (λ t. (integer-read t.form).form, λ e. record { negative = _; size = _; form = integer-found s e })

pub integer-answers : (s : List ℕ) (r : Reading) → (integer s ≡ r) ↔ IntegerAnswer s r
unfolding integer integer-permits
integer-answers s =
    answers 6 s (integer_form s) (read (integer_value s)) (integer_byte s) (integer-permits s).1 (λ e. whole) (integer-permits s).0
    (λ t r. said (integer-read t.form).value) (integer-byte-is integer-permits s)
  where
    said : {n : Bool} {k : ℕ} {r : Reading} → integer_value s ≡ signed n k → Whole n k r → read (integer_value s) ≡ r
    said e whole = ap read e

pub integer-means : (s : List ℕ) (z : ℤ) → (integer s ≡ read z) ↔ (Fits 6 s × IntegerMeans s z)
integer-means s z = Iff.trans (integer-answers s (read z)) (go, λ h. back h.0 h.1)
  where
    go : {z : ℤ} → IntegerAnswer s (read z) → Fits 6 s × IntegerMeans s z
    go (formed f t whole) = (f, record { negative = t.negative; size = t.size; form = t.form; value = refl })

    back : Fits 6 s → IntegerMeans s z → IntegerAnswer s (read z)
    back f m =
        let w : Whole m.negative m.size (read z) = rw m.value whole in
        formed f (record { negative = m.negative; size = m.size; form = m.form }) w

-- 02, request 6: refused for its form at byte k exactly if k is the very byte
pub integer-wrong-form : (s : List ℕ) (k : ℕ) → (integer s ≡ wrong_form k) ↔ (Fits 6 s × VeryByte SomeInteger s k)
integer-wrong-form s k = Iff.trans (integer-answers s (wrong_form k)) (go, λ h. wrong-form h.0 k h.1)
  where
    go : {k : ℕ} → IntegerAnswer s (wrong_form k) → Fits 6 s × VeryByte SomeInteger s k
    go (formed _ t x4) = elim x4 [ ]
    go (wrong-form f k v) = (f, v)

-- .. with fields of whatever length, in the request's own two cases
pub integer-byte-anyhow : (s : List ℕ) (k : ℕ) → integer s ≡ wrong_form k → Anyhow SomeInteger s k
integer-byte-anyhow s k e =
    let v = (integer-wrong-form s k).0 e in
    subst (Anyhow SomeInteger s)
    (one-very-byte (integer-byte-is integer-permits s (very-wrong v.1) v.0.0) v.1)
    (integer-byte-any integer-permits s (very-wrong v.1))

pub integer-wrong-length : (s : List ℕ) → (integer s ≡ refused 1) ↔ (Fits 6 s → ⊥)
integer-wrong-length s = Iff.trans (integer-answers s (refused 1)) (go, λ h. wrong-length h)
  where
    go : IntegerAnswer s (refused 1) → Fits 6 s → ⊥
    go (formed _ t x4) = elim x4 [ ]
    go (wrong-length g) = g

pub one-integer-meaning : {s : List ℕ} {z z' : ℤ} → IntegerMeans s z → IntegerMeans s z' → z ≡ z'
one-integer-meaning a b =
    one_answer (a.value ∙ sym (integer-read a.form).value) (b.value ∙ sym (integer-read b.form).value)

abbrev pub RealAnswer : List ℕ → Reading → Type 0
RealAnswer s = Answer 24 SomeReal s (λ t. Valued t.negative t.mantissa t.places t.lowered t.power)

-- the reading of a text that has the form
abbrev value_of : List ℕ → Reading
value_of s = real_value (starts is_minus (past_all is_blank s)) (length s) (unsigned_part s)

value-is : {s : List ℕ} {n : Bool} {m p : ℕ} {l : Bool} {e : ℕ} {r : Reading} → RealText s n m p l e → Valued n m p l e r
    → value_of s ≡ r
value-is t v = (real_read t).value ∙ valued-is _ _ _ _ v

means-valued : {s : List ℕ} {z : ℤ} (m : RealMeans s z)
    → Valued m.negative m.mantissa m.places m.lowered m.power (read z)
means-valued m = rw m.value (exact m.size m.modest m.exact)

real-permits : (s : List ℕ) → SomeReal s ↔ (real_form (unsigned_part s) ≡ true)
real-permits s = (
  λ t. (real_read t.form).form,
  λ e. record { negative = _; mantissa = _; places = _; lowered = _; power = _; form = real-found s e },
)

pub real-answers : (s : List ℕ) (r : Reading) → (real s ≡ r) ↔ RealAnswer s r
unfolding real real-permits
real-answers s =
    answers 24 s (real_form (unsigned_part s)) (value_of s) (real_byte s) (real-permits s).1 (λ e. valued _ _ _ _ _) (real-permits s).0
    (λ t r v. value-is t.form v) (real-byte-is real-permits s)

means-formed : {s : List ℕ} {n : Bool} {m p : ℕ} {l : Bool} {e : ℕ} {z : ℤ} → RealText s n m p l e → Valued n m p l e (read z)
    → RealMeans s z
means-formed t (exact k h b) =
    record {
      negative = _;
      mantissa = _;
      places = _;
      lowered = _;
      power = _;
      size = k;
      form = t;
      modest = h;
      exact = b;
      value = refl;
    }

-- texts that are taken apart alike mean the same
pub same-means : {s t : List ℕ} {n : Bool} {m p : ℕ} {l : Bool} {e : ℕ} {z : ℤ} → RealText s n m p l e → RealText t n m p l e
    → RealMeans s z → RealMeans t z
same-means {n = n} {m} {p} {l} {e} a b means =
    means-formed b
    (subst (Valued n m p l e) (sym (real_read a).value ∙ value-is means.form (means-valued means)) (valued m p l e n))

pub real-means : (s : List ℕ) (z : ℤ) → (real s ≡ read z) ↔ (Fits 24 s × RealMeans s z)
real-means s z = Iff.trans (real-answers s (read z)) (go, λ h. back h.0 h.1)
  where
    go : {z : ℤ} → RealAnswer s (read z) → Fits 24 s × RealMeans s z
    go (formed f t v) = (f, means-formed t.form v)

    back : Fits 24 s → RealMeans s z → RealAnswer s (read z)
    back f m =
        formed f (record { negative = _; mantissa = _; places = _; lowered = _; power = _; form = m.form }) (means-valued m)

pub real-wrong-form : (s : List ℕ) (k : ℕ) → (real s ≡ wrong_form k) ↔ (Fits 24 s × VeryByte SomeReal s k)
real-wrong-form s k = Iff.trans (real-answers s (wrong_form k)) (go, λ h. wrong-form h.0 k h.1)
  where
    go : {k : ℕ} → RealAnswer s (wrong_form k) → Fits 24 s × VeryByte SomeReal s k
    go (formed _ t x4) = elim x4 [ ]
    go (wrong-form f k v) = (f, v)

pub real-byte-anyhow : (s : List ℕ) (k : ℕ) → real s ≡ wrong_form k → Anyhow SomeReal s k
real-byte-anyhow s k e =
    let v = (real-wrong-form s k).0 e in
    subst (Anyhow SomeReal s) (one-very-byte (real-byte-is real-permits s (very-wrong v.1) v.0.0) v.1)
    (real-byte-any real-permits s (very-wrong v.1))

pub real-wrong-length : (s : List ℕ) → (real s ≡ refused 1) ↔ (Fits 24 s → ⊥)
real-wrong-length s = Iff.trans (real-answers s (refused 1)) (go, λ h. wrong-length h)
  where
    go : RealAnswer s (refused 1) → Fits 24 s → ⊥
    go (formed _ t x4) = elim x4 [ ]
    go (wrong-length g) = g

abbrev pub TooLarge : {s : List ℕ} → SomeReal s → Type 0
TooLarge t = Large t.mantissa t.places t.lowered t.power

pub real-too-large : (s : List ℕ) → (real s ≡ refused 7) ↔ (Fits 24 s × (t : SomeReal s) × TooLarge t)
real-too-large s = Iff.trans (real-answers s (refused 7)) (go, λ h. formed h.0 h.1 (large h.2))
  where
    go : RealAnswer s (refused 7) → Fits 24 s × (t : SomeReal s) × TooLarge t
    go (formed f t (large h)) = (f, t, h)

-- of a smaller magnitude, and no number of billionths with at most 15 significant digits
abbrev pub TooFine : {s : List ℕ} → SomeReal s → Type 0
TooFine t = (TooLarge t → ⊥) × ((n : ℕ) → Billionths t.mantissa t.places t.lowered t.power n → ⊥)

pub real-too-fine : (s : List ℕ) → (real s ≡ refused 8) ↔ (Fits 24 s × (t : SomeReal s) × TooFine t)
real-too-fine s = Iff.trans (real-answers s (refused 8)) (go, λ h. formed h.0 h.1 (fine h.2.0 h.2.1))
  where
    go : RealAnswer s (refused 8) → Fits 24 s × (t : SomeReal s) × TooFine t
    go (formed f t (fine h k)) = (f, t, (h, k))

pub one-real-meaning : {s : List ℕ} {z z' : ℤ} → RealMeans s z → RealMeans s z' → z ≡ z'
one-real-meaning a b =
    ap (λ r. r.value) (sym (value-is a.form (means-valued a)) ∙ value-is b.form (means-valued b))

-- ---- a byte is named exactly where the form is wrong
module _ {most : ℕ} {Field : List ℕ → Type 0} {s : List ℕ} {Says : Field s → Reading → Type 0}
    (read-well : (t : Field s) (r : Reading) → Says t r → (r.byte ≡ 0) × (r.kind ≡ 6 → ⊥)) where
  pointed : {r : Reading} → Answer most Field s Says r → (r.byte ≡ 0) ↔ (r.kind ≡ 6 → ⊥)
  pointed (wrong-length g) = (λ e k. absurd (omega (arith, k)), λ n. refl)
  pointed (wrong-form f k v) = (λ e. absurd (omega (arith, e, v.from_one)), λ n. absurd (n refl))
  pointed (formed f t v) = (λ e. (read-well t _ v).1, λ n. (read-well t _ v).0)

  points : {r : Reading} → Answer most Field s Says r → r.kind ≡ 6 → VeryByte Field s r.byte
  points (wrong-length g) k = absurd (omega (arith, k))
  points (wrong-form f k v) e = v
  points (formed f t v) k = absurd ((read-well t _ v).1 k)

module _ (s : List ℕ) where
  whole-well : (t : SomeInteger s) (r : Reading) → Whole t.negative t.size r → (r.byte ≡ 0) × (r.kind ≡ 6 → ⊥)
  whole-well t r whole = (refl, λ k. omega (arith, k))

  pub integer-pointed : ((integer s).byte ≡ 0) ↔ ((integer s).kind ≡ 6 → ⊥)
  integer-pointed = pointed whole-well ((integer-answers s (integer s)).0 refl)

  pub integer-points : (integer s).kind ≡ 6 → VeryByte SomeInteger s (integer s).byte
  integer-points = points whole-well ((integer-answers s (integer s)).0 refl)

valued-well : {n : Bool} {m p : ℕ} {l : Bool} {e : ℕ} {r : Reading} → Valued n m p l e r → (r.byte ≡ 0) × (r.kind ≡ 6 → ⊥)
valued-well (exact k h b) = (refl, λ k. omega (arith, k))
valued-well (large h) = (refl, λ k. omega (arith, k))
valued-well (fine h b) = (refl, λ k. omega (arith, k))

module _ (s : List ℕ) where
  pub real-pointed : ((real s).byte ≡ 0) ↔ ((real s).kind ≡ 6 → ⊥)
  real-pointed = pointed (λ t r. valued-well) ((real-answers s (real s)).0 refl)

  pub real-points : (real s).kind ≡ 6 → VeryByte SomeReal s (real s).byte
  real-points = points (λ t r. valued-well) ((real-answers s (real s)).0 refl)
