-- Document 01's rules of a block as lists that a person can count: where each stands, its kind, and when a block keeps it.
-- No function goes by them; that a verdict is the first broken rule of its list is proved where the list stands.
use Rattle.std.specs.Prelude.{Bool, not, true, List, [], ◌∷◌, ◌++◌, ℕ, ◌+◌, ◌-◌, eqb, drop, length, ◌≡◌}
use Rattle.laws.specs.Starts.{VeryByte}
use Rattle.laws.specs.Texts.{every}
use Rattle.number.specs.declared.Reading.{Reading}
use Rattle.number.specs.Grammar.{SomeInteger, SomeReal}
use Rattle.number.specs.Integer.{integer}
use Rattle.number.specs.Real.{real}
use Rattle.number.specs.Bytes.{is_blank}
use Rattle.field.specs.declared.Limits.{Limits}
use Rattle.field.specs.Field.{in_limits, stretch, is_word, is_text}

-- a rule: the byte of its refusal, which for a rule of form goes by the block; its kind; and whether a block keeps it
pub record Clause : Type 0 where
  pub byte : List ℕ → ℕ
  pub kind : ℕ
  pub kept : List ℕ → Bool

abbrev pub clause : ℕ → ℕ → (List ℕ → Bool) → Clause
clause byte kind kept = record { byte = λ b. byte; kind = kind; kept = kept }

-- ---- what a field is asked, by its first byte and its width

-- a block has 1,024 bytes (1 at 0)
abbrev pub length_rules : List Clause
length_rules = clause 0 1 (λ b. eqb (length b) 1024) ∷ []

-- text: bytes 32 to 126 without lower case (5)
abbrev pub text_rules : ℕ → ℕ → List Clause
text_rules first width = clause first 5 (λ b. every is_word (stretch first width b)) ∷ []

-- 02, request 2: text that may have lower case (5), and a stretch of blanks (5)
abbrev pub mixed_rules : ℕ → ℕ → List Clause
mixed_rules first width = clause first 5 (λ b. every is_text (stretch first width b)) ∷ []

abbrev pub filler_rules : ℕ → ℕ → List Clause
filler_rules first width = clause first 5 (λ b. every is_blank (stretch first width b)) ∷ []

-- from a byte to the block's end there are blanks (5)
abbrev pub blank_rules : ℕ → List Clause
blank_rules first = clause first 5 (λ b. every is_blank (drop (first - 1) b)) ∷ []

-- a reading is not refused for this kind
abbrev pub spared : ℕ → Reading → Bool
spared kind r = not (eqb r.kind kind)

-- a field has its form (6 at its first byte + k - 1, where k is the very byte)
abbrev pub form_clause : ℕ → (List ℕ → Reading) → Clause
form_clause first reading = record { byte = λ b. first + (reading b).byte - 1; kind = 6; kept = λ b. spared 6 (reading b) }

-- an integer has its form (6)
abbrev pub integer_forms : ℕ → ℕ → List Clause
integer_forms first width = form_clause first (λ b. integer (stretch first width b)) ∷ []

-- .. and then stands in limits: in fixed ones, or in those of one kind that go by another field
abbrev pub integer_by : ℕ → ℕ → ℕ → (List ℕ → Limits) → List Clause
integer_by first width kind within =
    integer_forms first width ++ (clause first kind (λ b. in_limits (within b) (integer (stretch first width b)).value) ∷ [])

abbrev pub integer_in : ℕ → ℕ → Limits → List Clause
integer_in first width l = integer_by first width l.kind (λ b. l)

-- of some reals the form alone is asked (6)
abbrev pub real_forms : ℕ → ℕ → List Clause
real_forms first width = form_clause first (λ b. real (stretch first width b)) ∷ []

-- a real has its form (6), is below 1,000,000,000 (7), and no finer than a billionth or 15 digits (8)
abbrev pub real_rules : ℕ → ℕ → List Clause
real_rules first width =
    form_clause first (λ b. real (stretch first width b))
    ∷ clause first 7 (λ b. spared 7 (real (stretch first width b)))
    ∷ clause first 8 (λ b. spared 8 (real (stretch first width b)))
    ∷ []

-- .. and then stands in limits, as an integer does
abbrev pub real_by : ℕ → ℕ → ℕ → (List ℕ → Limits) → List Clause
real_by first width kind within =
    real_rules first width ++ (clause first kind (λ b. in_limits (within b) (real (stretch first width b)).value) ∷ [])

abbrev pub real_in : ℕ → ℕ → Limits → List Clause
real_in first width l = real_by first width l.kind (λ b. l)

-- ---- what a block does with rules

-- a block keeps every rule of a list
pub data KeepsAll (block : List ℕ) : List Clause → Type 0 where
  none : KeepsAll block []
  more : {c : Clause} {cs : List Clause} → c.kept block ≡ true → KeepsAll block cs → KeepsAll block (c ∷ cs)

-- c is the first rule of a list that a block breaks: those before it are kept
pub data FirstBroken (block : List ℕ) (c : Clause) : List Clause → Type 0 where
  here : {cs : List Clause} → (c.kept block ≡ true → ⊥) → FirstBroken block c (c ∷ cs)
  later : {d : Clause} {cs : List Clause} → d.kept block ≡ true → FirstBroken block c cs → FirstBroken block c (d ∷ cs)

-- ---- 02, request 6: what a refusal for wrong form points at

-- a rule of form, of an integer or of a real by its first byte and its width, and the place of the field's very byte
pub data PointsAt (block : List ℕ) : Clause → ℕ → Type 0 where
  in-integer : (first width k : ℕ) → VeryByte SomeInteger (stretch first width block) k
      → PointsAt block (form_clause first (λ b. integer (stretch first width b))) (first + k - 1)
  in-real : (first width k : ℕ) → VeryByte SomeReal (stretch first width block) k
      → PointsAt block (form_clause first (λ b. real (stretch first width b))) (first + k - 1)

-- the first rule that a block breaks is one of form, and y is the place of its field's very byte
pub record Pointed (block : List ℕ) (cs : List Clause) (y : ℕ) : Type 0 where
  pub rule : Clause
  pub broken : FirstBroken block rule cs
  pub points : PointsAt block rule y
