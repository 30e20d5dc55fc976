-- A field where its digits, from the last byte back, have ended; and one that is all digits.
use mathlib.Core.Bool.{true, false}
use mathlib.Core.List.{List, [], ◌∷◌, ◌++◌}
use mathlib.Core.Path.{◌≡◌, sym, ◌∙◌, ap}
use Prim.Native.Nat.{ℕ, suc, ◌+◌, ◌-◌, ◌*◌, ◌^◌, ◌≤◌, ◌<◌}
use native.Mathlib.Omega.{arith}
use native.Mathlib.Nat.{add-mul, mul_assoc, mul_comm, lt_of_lt_of_le}
use borrow.Author.Tests.{le-leb}
use lib.Dec.{lit<}
use lib.ListN.{length, take, drop, get_or, length-drop, drop_of_length-le}
use lib.Seq.{drop-cons, split_at}
use Rattle.laws.specs.Sign.{signed}
use Rattle.laws.specs.Texts.{every}
use Rattle.laws.proofs.Tests.{and_both}
use Rattle.laws.proofs.Tens.{ten-up}
use Rattle.number.specs.Bytes.{is_blank, is_digit, is_minus, is_empty, number}
use Rattle.number.specs.Integer.{read, integer_form, integer_value, integer}
use Rattle.six.specs.Steps.{is_front, FrontAsked}
use Rattle.number.proofs.Runs.{number-below}
use Rattle.six.proofs.FromTheEnd.{right, good-front, digits-alone}

-- ---- what stands before the digits

module _ (s : List ℕ) (k size : ℕ) (a : FrontAsked s k size) where
  abbrev c : ℕ
  c = get_or s k 0

  parts : s ≡ take k s ++ (c ∷ drop (suc k) s)
  parts = split_at s k 0 (omega (arith, a.long, a.some))

  some : is_empty (drop (suc k) s) ≡ false
  some = ap is_empty (drop-cons s (suc k) 0 (omega (arith, a.long, a.some)))

  pub front_read : is_front c ≡ true → every is_blank (take k s) ≡ true → integer s ≡ read (signed (is_minus c) size)
  front_read e blank =
      let g = good-front (take k s) c (drop (suc k) s) blank a.rest e some in
      right s a.long (signed (is_minus c) size) (ap integer_form parts ∙ g.0)
      (ap integer_value parts ∙ g.1 ∙ ap (signed (is_minus c)) (sym a.size_is))

-- ---- the six steps

abbrev pub Digit : ℕ → Type 0
Digit c = (48 ≤ c) × (c ≤ 57)

digit : {c : ℕ} → Digit c → is_digit c ≡ true
digit {c} d = and_both (le-leb 48 c d.0) (le-leb c 57 d.1)

-- from k on the field is digits, which spell size; a digit before them counts as many times as `weight`
pub record Tail (s : List ℕ) (k weight size : ℕ) : Type 0 where
  pub inside : k ≤ 6
  pub rest : every is_digit (drop k s) ≡ true
  pub spells : (v : ℕ) → number v (drop k s) ≡ v * weight + size

spread : (v d weight size : ℕ) → (v * 10 + d) * weight + size ≡ v * (10 * weight) + (size + weight * d)
spread v d weight size = omega (arith, add-mul (v * 10) d weight, mul_assoc v 10 weight, mul_comm d weight)

module _ (s : List ℕ) (long : length s ≡ 6) where
  none : Tail s 6 1 0
  none =
      let e : drop 6 s ≡ [] = drop_of_length-le s {i = 6} (omega (arith, long)) in
      record { inside = omega arith; rest = rw e; spells = λ v. rw e (omega arith) }

  pub step : {k weight size : ℕ} → Tail s (suc k) weight size → Digit (get_or s k 0)
      → Tail s k (10 * weight) (size + weight * (get_or s k 0 - 48))
  step {k} {weight} {size} t d =
      let here : drop k s ≡ get_or s k 0 ∷ drop (suc k) s = drop-cons s k 0 (omega (arith, long, t.inside)) in
      record {
        inside = omega (arith, t.inside);
        rest = rw here (and_both (digit d) t.rest);
        spells = λ v. rw here (t.spells (v * 10 + (get_or s k 0 - 48)) ∙ spread v (get_or s k 0 - 48) weight size);
      }

  pub last : Digit (get_or s 5 0) → Tail s 5 10 (get_or s 5 0 - 48)
  last d =
      let t = step none d in
      record { inside = t.inside; rest = t.rest; spells = λ v. t.spells v ∙ omega arith }

  module _ {k weight size : ℕ} (t : Tail s k weight size) where
    size_is : size ≡ number 0 (drop k s)
    size_is = omega (arith, t.spells 0)

    pub modest : size < 2 ^ 63
    modest =
        let b = number-below 0 0 (drop k s) t.rest (lit< tt) in
        let e : 0 + length (drop k s) ≤ 6 = omega (arith, length-drop k s, long) in
        omega (arith, size_is, lt_of_lt_of_le b (ten-up e))

  pub asked : {k weight size : ℕ} → Tail s (suc k) weight size → k < 5 → FrontAsked s k size
  asked t h = record { long = long; some = h; rest = t.rest; size_is = size_is t; small = modest t }

  pub all_read : {weight size : ℕ} → Tail s 0 weight size → integer s ≡ read (signed false size)
  all_read {weight} {size} t =
      let g = digits-alone s t.rest (ap is_empty (drop-cons s 0 0 (omega (arith, long)))) in
      right s long (signed false size) g.0 (g.1 ∙ ap (signed false) (sym (size_is t)))
