-- An integer's bytes from the right: a byte put before those that stand, one more digit, and what stands before the digits.
use mathlib.Core.Bool.{Bool, true, false, cond}
use mathlib.Core.List.{List, [], ◌∷◌, ◌++◌}
use mathlib.Core.Path.{◌≡◌, sym, ◌∙◌, ap}
use Prim.Native.Nat.{ℕ, zero, suc, ◌+◌, ◌-◌, ◌/◌, ◌%◌, ◌^◌, ◌≤◌, ◌<◌}
use native.Mathlib.Omega.{arith}
use lib.Dec.{ltb}
use lib.IntN.{ℤ, nat_abs}
use lib.ListN.{length, take, drop, get_or, set, replicate, length-append, length-replicate, length-drop}
use lib.Seq.{take-suc, append_snoc, set_at, length-take-le, drop-cons, drop_at}
use Rattle.numerals.specs.Numerals.{numeral, minus, count}
use Rattle.numerals.proofs.Counts.{count-least}
use Rattle.numerals.proofs.LastDigit.{last-digit}
use Rattle.numerals.proofs.Numerals.{minus-short}
use Rattle.numerals.proofs.Spelling.{spell-length}
use Rattle.spell.specs.RightSteps.{FromRight, filled_before}
use Rattle.spell.specs.Spell.{integer_text, integer_fits}
use Rattle.spell.proofs.Fits.{integer-room}
use Rattle.spell.proofs.Pieces.{gap-blank}

-- a byte put before what stands at the right end
put-before : (lent stands : List ℕ) (at d : ℕ) → 0 < at → at ≤ length lent
    → set (take at lent ++ stands) (at - 1) d ≡ take (at - 1) lent ++ (d ∷ stands)
put-before lent stands zero d p h = absurd (omega arith)
put-before lent stands (suc at) d p h =
    let e : suc at - 1 ≡ at = omega arith in
    let x = get_or lent at 0 in
    rw e
    (ap (λ (l : List ℕ). set (l ++ stands) at d) (take-suc lent at 0 h)
    ∙ ap (λ (l : List ℕ). set l at d) (append_snoc (take at lent) x stands)
    ∙ set_at (take at lent) x stands d at (length-take-le at lent (omega arith)))

-- ---- the digits

-- those that are still to come
abbrev to_come : Bool → ℕ → List ℕ
to_come more rest = cond more (numeral rest) []

-- digits half put: with those to come before them, those that stand are the numeral
pub record Leftward (lent : List ℕ) (n : ℕ) (field : List ℕ) (at rest : ℕ) (more : Bool) : Type 0 where
  pub stands : List ℕ
  pub whole : to_come more rest ++ stands ≡ numeral n
  pub bytes : field ≡ take at lent ++ stands
  pub span : at + length stands ≡ length lent
  pub below : rest < 10 ^ 20

has-digit : (n : ℕ) → n < 10 ^ 20 → 1 ≤ length (numeral n)
has-digit n h = omega (arith, spell-length (count 1 20 n) n, count-least 1 20 n (omega arith) h)

module _ {lent field : List ℕ} {n at rest : ℕ} {more : Bool} (s : Leftward lent n field at rest more) where
  -- there is a byte for the next digit
  pub some_left : more ≡ true → length (numeral n) ≤ length lent → 0 < at
  some_left e room =
      let w : numeral rest ++ s.stands ≡ numeral n = rw e at s.whole in
      omega (arith, ap length w, length-append (numeral rest) s.stands, has-digit rest s.below, s.span)

  pub digit-put : more ≡ true → length (numeral n) ≤ length lent
      → Leftward lent n (set field (at - 1) (48 + rest % 10)) (at - 1) (rest / 10) (ltb 0 (rest / 10))
  digit-put e room =
      let d = 48 + rest % 10 in
      let w : numeral rest ++ s.stands ≡ numeral n = rw e at s.whole in
      let p = some_left e room in
      record {
        stands = d ∷ s.stands;
        whole =
            sym (append_snoc (to_come (ltb 0 (rest / 10)) (rest / 10)) d s.stands)
            ∙ ap (λ (l : List ℕ). l ++ s.stands) (sym (last-digit 20 rest (omega arith) s.below))
            ∙ w;
        bytes =
            ap (λ (l : List ℕ). set l (at - 1) d) s.bytes ∙ put-before lent s.stands at d p (omega (arith, s.span));
        span = omega (arith, s.span);
        below = omega (arith, s.below);
      }

  pub all-put : more ≡ false → FromRight lent (numeral n) field at
  all-put e =
      let w : s.stands ≡ numeral n = rw e at s.whole in
      record { place = ap (λ (l : List ℕ). at + length l) (sym w) ∙ s.span; bytes = s.bytes ∙ ap (λ (l : List ℕ). take at lent ++ l) w }

  pub same-room : length field ≡ length lent
  same-room =
      ap length s.bytes
      ∙ length-append (take at lent) s.stands
      ∙ omega (arith, length-take-le at lent (omega (arith, s.span)), s.span)

-- ---- what stands before them

module _ (z : ℤ) (at : ℕ) (lent : List ℕ) where
  -- bytes half filled: from `left` on they are as they shall be, and the mark is the byte before them
  pub record Filling (field : List ℕ) (mark left : ℕ) : Type 0 where
    pub bytes : field ≡ take left lent ++ drop left (filled_before z at lent)
    pub inside : left ≤ at
    pub next : 0 < left → mark ≡ get_or (filled_before z at lent) (left - 1) 0

  module _ (minus-inside : length (minus z) ≤ at) (inside : at ≤ length lent) where
    filled-length : length (filled_before z at lent) ≡ length lent
    filled-length =
        let gap = at - length (minus z) in
        length-append (replicate gap 32) (minus z ++ drop at lent)
        ∙ omega
        (arith, length-replicate {A = ℕ} gap 32, length-append (minus z) (drop at lent), length-drop at lent)

    pub byte-filled : {field : List ℕ} {mark left : ℕ} → Filling field mark left → 0 < left
        → Filling (set field (left - 1) mark) 32 (left - 1)
    byte-filled {field} {mark} {left} f p =
        let t = filled_before z at lent in
        let i : left - 1 < length t = omega (arith, filled-length, f.inside) in
        let s : suc (left - 1) ≡ left = omega arith in
        record {
          bytes =
              ap (λ (l : List ℕ). set l (left - 1) mark) f.bytes
              ∙ put-before lent (drop left t) left mark p (omega (arith, f.inside))
              ∙ ap (λ (b : ℕ). take (left - 1) lent ++ (b ∷ drop left t)) (f.next p)
              ∙ ap (λ (j : ℕ). take (left - 1) lent ++ (get_or t (left - 1) 0 ∷ drop j t)) (sym s)
              ∙ ap (λ (l : List ℕ). take (left - 1) lent ++ l) (sym (drop-cons t (left - 1) 0 i));
          inside = omega (arith, f.inside);
          next =
              λ q. sym (gap-blank (at - length (minus z)) (left - 1 - 1) (minus z ++ drop at lent) (omega (arith, minus-short z, f.inside)));
        }

-- ---- the whole field

module _ (z : ℤ) {lent digits : List ℕ} {at : ℕ} (d : FromRight lent (numeral (nat_abs z)) digits at) where
  -- what fits has a byte for its minus
  pub minus-fits : integer_fits (length lent) z ≡ true → length (minus z) ≤ at
  minus-fits fits = omega (arith, integer-room (length lent) z fits, length-append (minus z) (numeral (nat_abs z)), d.place)

  pub digits-room : at ≤ length digits
  digits-room =
      omega
      (arith, ap length d.bytes, length-append (take at lent) (numeral (nat_abs z)), length-take-le at lent (omega (arith, d.place)))

  pub field-text : filled_before z at digits ≡ integer_text (length lent) z
  unfolding integer_text
  field-text =
      let n = numeral (nat_abs z) in
      let gap : at - length (minus z) ≡ length lent - length (minus z ++ n) = omega (arith, length-append (minus z) n, d.place) in
      let behind : drop at digits ≡ n =
      ap (λ (l : List ℕ). drop at l) d.bytes ∙ drop_at (take at lent) n at (length-take-le at lent (omega (arith, d.place)))
      in
      rw (gap, behind)
