-- Digits put from the left: one of them, and the rest still to come. What stands and what is to come are the whole.
use mathlib.Core.Path.{◌≡◌, refl, ap, sym, ◌∙◌}
use Prim.Native.Nat.{ℕ, zero, suc, ◌%◌, ◌^◌, ◌+◌, ◌-◌, ◌/◌, ◌<◌, ◌≤◌}
use lib.ListN.{length, take, set, drop, length-set}
use mathlib.Core.List.{◌∷◌, List, [], ◌++◌, append_assoc, append-nil}
use native.Mathlib.Omega.{arith}
use native.Mathlib.Nat.{div-lt_iff_lt-mul, pow-suc, mul_comm, mod-lt}
use lib.Seq.{drop-set-lt, drop-drop}
use Rattle.laws.proofs.Tens.{ten-pos}
use Rattle.numerals.specs.Numerals.{spell}
use Rattle.numerals.specs.Pieces.{GivenAt}
use Rattle.numerals.proofs.Pieces.{put_one, stands-whole}

pub spell-length : (k n : ℕ) → length (spell k n) ≡ k
unfolding spell
spell-length zero n = refl
spell-length (suc k) n = ap suc (spell-length k (n % 10 ^ k))

pub spell-first : (k n : ℕ) → 0 < k → spell k n ≡ (48 + n / 10 ^ (k - 1)) ∷ spell (k - 1) (n % 10 ^ (k - 1))
unfolding spell
spell-first zero n h = absurd (omega arith)
spell-first (suc k) n h =
    let e : suc k - 1 ≡ k = omega arith in
    rw e

-- a digit put, and the rest of them still to come
digit-turn : (l : List ℕ) (end k n : ℕ) → end < length l → 0 < k
    → take (end + 1) (set l end (48 + n / 10 ^ (k - 1))) ++ spell (k - 1) (n % 10 ^ (k - 1)) ≡ take end l ++ spell k n
digit-turn l end k n h p =
    let d = 48 + n / 10 ^ (k - 1) in
    let rest = spell (k - 1) (n % 10 ^ (k - 1)) in
    ap (λ (x : List ℕ). x ++ rest) (put_one l end d h).text
    ∙ append_assoc (take end l) (d ∷ []) rest
    ∙ ap (λ (x : List ℕ). take end l ++ x) (sym (spell-first k n p))

-- the first digit is one
pub first_small : (k n : ℕ) → n < 10 ^ suc k → n / 10 ^ k < 10
first_small k n h = (div-lt_iff_lt-mul (ten-pos k)).1 (rw (mul_comm 10 (10 ^ k), ← pow-suc 10 k) h)

pub digit-small : (k n : ℕ) → 0 < k → n < 10 ^ k → n / 10 ^ (k - 1) < 10
digit-small zero n p h = absurd (omega arith)
digit-small (suc k) n p h =
    let e : suc k - 1 ≡ k = omega arith in
    rw e (first_small k n h)

spell-end : (n : ℕ) → spell 0 n ≡ []
unfolding spell
spell-end n = refl

-- what is behind the place of a digit is behind the next
behind-turn : (text before : List ℕ) (end d : ℕ) → drop end text ≡ drop end before
    → drop (end + 1) (set text end d) ≡ drop (end + 1) before
behind-turn text before end d e =
    drop-set-lt (end + 1) text end d (omega arith)
    ∙ sym (drop-drop 1 end text)
    ∙ ap (λ (l : List ℕ). drop 1 l) e
    ∙ drop-drop 1 end before

-- digits half put: what stands of the first `i`, and those of `rest` still to come
pub record Spelling (before : List ℕ) (at k n : ℕ) (text : List ℕ) (i rest : ℕ) : Type 0 where
  pub below : rest < 10 ^ (k - i)
  pub kept : length text ≡ length before
  pub whole : take (at + i) text ++ spell (k - i) rest ≡ take at before ++ spell k n
  pub behind : drop (at + i) text ≡ drop (at + i) before

module _ {before text : List ℕ} {at k n i rest : ℕ} (s : Spelling before at k n text i rest) where
  pub digit : i < k → {power : ℕ} → power ≡ 10 ^ (k - 1 - i) → rest / power < 10
  digit p e =
      let last : k - 1 - i ≡ k - i - 1 = omega arith in
      rw (e, last) (digit-small (k - i) rest (omega arith) s.below)

  pub turn : i < k → {power : ℕ} → power ≡ 10 ^ (k - 1 - i) → at + k ≤ length before
      → Spelling before at k n (set text (at + i) (48 + rest / power)) (i + 1) (rest % power)
  turn p e room =
      let end = at + i in
      let left = k - i in
      let digit = 48 + rest / 10 ^ (left - 1) in
      let further : at + (i + 1) ≡ end + 1 = omega arith in
      let fewer : k - (i + 1) ≡ left - 1 = omega arith in
      let last : k - 1 - i ≡ left - 1 = omega arith in
      rw (e, last) (record {
        below = rw fewer (mod-lt rest (ten-pos (left - 1)));
        kept = length-set text end digit ∙ s.kept;
        whole = rw (fewer, further) (digit-turn text end left rest (omega (arith, s.kept)) (omega arith) ∙ s.whole);
        behind = rw further (behind-turn text before end digit s.behind);
      })

  pub done : i ≡ k → at + k ≤ length before → GivenAt at (spell k n) before text (at + k)
  done e room =
      let none : k - i ≡ 0 = omega arith in
      let end : at + i ≡ at + k = omega arith in
      stands-whole
      (record {
        kept = s.kept;
        place = omega (arith, spell-length k n);
        text =
            sym (append-nil (take (at + k) text))
            ∙ ap (λ (x : List ℕ). take (at + k) text ++ x) (sym (spell-end rest))
            ∙ (rw (end, none) at s.whole);
      })
      (omega (arith, spell-length k n)) (rw end at s.behind)
