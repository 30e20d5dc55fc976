-- Runs of digits: what holds while a loop passes them, and at its end. The two loops over digits cite these laws.
use mathlib.Core.List.{List, [], ◌∷◌, ◌++◌}
use mathlib.Core.Path.{◌≡◌, ◌∙◌, refl, sym, ap}
use Prim.Native.Nat.{ℕ, ◌≤◌, ◌+◌, ◌<◌, ◌-◌, ◌^◌, ◌*◌, suc}
use lib.ListN.{length, drop, get_or, length-drop}
use mathlib.Core.Bool.{true, false, Bool}
use native.Mathlib.Omega.{arith}
use native.Mathlib.Nat.{sub_self, add-zero, pow-suc}
use borrow.Author.Tests.{ltb-true}
use lib.Dec.{ltb}
use Rattle.laws.specs.Texts.{every}
use Rattle.laws.proofs.Tens.{room, ten-up}
use Rattle.laws.proofs.Tests.{and_first, and_second}
use Rattle.number.specs.Bytes.{is_digit, past_all, digits, number}
use Rattle.number.specs.Steps.{Past, WholeAt, kept_all, kept_one, RunAt}
use Rattle.number.specs.declared.decimal.Kept.{Kept}
use Rattle.number.proofs.Places.{all-turn, all-stop, all_end, digits-turn, digit-range}

-- from `from` to i every byte was a digit
pub record Passing (s : List ℕ) (from i : ℕ) : Type 0 where
  pub onward : from ≤ i
  pub inside : i ≤ length s
  pub left : past_all is_digit (drop i s) ≡ past_all is_digit (drop from s)

module _ (s : List ℕ) (from i : ℕ) (p : Passing s from i) where
  pub passing-turn : i < length s → is_digit (get_or s i 0) ≡ true → Passing s from (i + 1)
  passing-turn h t =
      record { onward = omega (arith, p.onward); inside = omega arith; left = all-turn is_digit s i h t ∙ p.left }

  pub passing-stop : i < length s → is_digit (get_or s i 0) ≡ false → Past (past_all is_digit) s from i
  passing-stop h t = record { onward = p.onward; inside = p.inside; is = all-stop is_digit s i h t ∙ p.left }

  pub passing-end : length s ≤ i → Past (past_all is_digit) s from i
  passing-end k = record { onward = p.onward; inside = p.inside; is = all_end is_digit s i k ∙ p.left }

pub passing-start : (s : List ℕ) (from : ℕ) → from ≤ length s → Passing s from from
passing-start s from h = record { onward = omega arith; inside = h; left = refl }

-- the number of the digits so far
pub record Spelling (s : List ℕ) (from v i : ℕ) : Type 0 where
  pub passing : Passing s from i
  pub room : v < 10 ^ (i - from)
  pub value : number v (digits (drop i s)) ≡ number 0 (digits (drop from s))

pub spelling-start : (s : List ℕ) (from : ℕ) → from ≤ length s → Spelling s from 0 from
spelling-start s from h = record { passing = passing-start s from h; room = rw (sub_self from) (omega arith); value = refl }

module _ (s : List ℕ) (from v i : ℕ) (few : length s ≤ 6) (p : Spelling s from v i) where
  pub spelling-small : v < 10 ^ 6
  spelling-small =
      let h : i - from ≤ 6 = omega (arith, p.passing.inside) in
      let k : 10 ^ (i - from) ≤ 10 ^ 6 = ten-up h in
      omega (arith, p.room)

  pub spelling-turn : i < length s → is_digit (get_or s i 0) ≡ true → Spelling s from (v * 10 + (get_or s i 0 - 48)) (i + 1)
  spelling-turn h t =
      record {
        passing = passing-turn s from i p.passing h t;
        room = room v (get_or s i 0 - 48) from i p.passing.onward p.room (omega (arith, digit-range (get_or s i 0) t));
        value = ap (number v) (sym (digits-turn s i h t)) ∙ p.value;
      }

  pub spelling-done : Past (past_all is_digit) s from i → digits (drop i s) ≡ [] → WholeAt s from (record { next = i; value = v })
  spelling-done q e =
      record { past = q; value = sym (ap (number v) e) ∙ p.value; small = spelling-small }

-- the digits so far, kept in 64 bits
pub record Keeping (s : List ℕ) (from : ℕ) (k₀ k : Kept) (i : ℕ) : Type 0 where
  pub passing : Passing s from i
  pub small : k.head < 10 ^ 15
  pub few : k.dropped ≤ i
  pub kept : kept_all k (digits (drop i s)) ≡ kept_all k₀ (digits (drop from s))

pub keeping_start : (s : List ℕ) (from : ℕ) (k : Kept) → from ≤ length s → k.head < 10 ^ 15 → k.dropped ≤ from → Keeping s from k k from
keeping_start s from k h a b = record { passing = passing-start s from h; small = a; few = b; kept = refl }

kept_small : (k : Kept) (d : ℕ) → d < 10 → k.head < 10 ^ 15 → (kept_one k d).head < 10 ^ 15
kept_small k d h a = go (ltb k.head (10 ^ 14)) refl
  where
    go : (b : Bool) → ltb k.head (10 ^ 14) ≡ b → (kept_one k d).head < 10 ^ 15
    go true e = let q : k.head < 10 ^ 14 = ltb-true k.head (10 ^ 14) e in rw e (omega arith)
    go false e = rw e a

kept-few : (k : Kept) (d : ℕ) → (kept_one k d).dropped ≤ k.dropped + 1
kept-few k d = go (ltb k.head (10 ^ 14)) refl
  where
    go : (b : Bool) → ltb k.head (10 ^ 14) ≡ b → (kept_one k d).dropped ≤ k.dropped + 1
    go true e = rw e (omega arith)
    go false e = rw e (omega arith)

module _ (s : List ℕ) (from : ℕ) (k₀ k : Kept) (i : ℕ) (p : Keeping s from k₀ k i) where
  pub keeping-turn : i < length s → is_digit (get_or s i 0) ≡ true → Keeping s from k₀ (kept_one k (get_or s i 0 - 48)) (i + 1)
  keeping-turn h t =
      record {
        passing = passing-turn s from i p.passing h t;
        small = kept_small k (get_or s i 0 - 48) (omega (arith, digit-range (get_or s i 0) t)) p.small;
        few = omega (arith, kept-few k (get_or s i 0 - 48), p.few);
        kept = ap (kept_all k) (sym (digits-turn s i h t)) ∙ p.kept;
      }

  pub keeping-done : Past (past_all is_digit) s from i → digits (drop i s) ≡ [] → RunAt s from k₀ (record { next = i; kept = k })
  keeping-done q e = record { past = q; kept = sym (ap (kept_all k) e) ∙ p.kept; small = p.small; few = p.few }

-- digits and what follows them are the whole text
digits-count : (l : List ℕ) → length (digits l) + length (past_all is_digit l) ≡ length l
digits-count [] = refl
digits-count (c ∷ l) = go (digits-count l) (is_digit c) refl
  where
    go : length (digits l) + length (past_all is_digit l) ≡ length l → (b : Bool) → is_digit c ≡ b
        → length (digits (c ∷ l)) + length (past_all is_digit (c ∷ l)) ≡ length (c ∷ l)
    go h true e = rw e (omega arith)
    go h false e = rw e (omega arith)

-- as many digits as places passed
pub run_length : (s : List ℕ) (from next : ℕ) → Past (past_all is_digit) s from next → length (digits (drop from s)) ≡ next - from
run_length s from next p =
    omega (
      arith,
      digits-count (drop from s),
      length-drop from s,
      length-drop next s,
      ap length p.is,
      p.onward,
      p.inside,
    )

pub kept_append : (k : Kept) (xs ys : List ℕ) → kept_all k (xs ++ ys) ≡ kept_all (kept_all k xs) ys
kept_append k [] ys = refl
kept_append k (c ∷ xs) ys = kept_append (kept_one k (c - 48)) xs ys

-- digits spell less than the power of ten that has as many zeros
pub number-below : (v : ℕ) (k : ℕ) (ds : List ℕ) → every is_digit ds ≡ true → v < 10 ^ k → number v ds < 10 ^ (k + length ds)
number-below v k [] e h = rw (add-zero k) h
number-below v k (c ∷ ds) e h =
    let r = digit-range c (and_first (is_digit c) (every is_digit ds) e) in
    let p : v * 10 + (c - 48) < 10 ^ suc k = rw (pow-suc 10 k) (omega (arith, r.0, r.1)) in
    let q : k + suc (length ds) ≡ suc k + length ds = omega arith in
    rw q (number-below (v * 10 + (c - 48)) (suc k) ds (and_second (is_digit c) (every is_digit ds) e) p)
