-- What one byte of a field decides: laws of `past_one`, `past_all`, `digits` and `number` at a place of a text, over any test of a byte.
use mathlib.Core.List.{List, ◌∷◌, []}
use mathlib.Core.Path.{◌≡◌, refl, sym, ◌∙◌}
use Prim.Native.Nat.{ℕ, ◌+◌, ◌-◌, ◌<◌, ◌≤◌}
use native.Mathlib.Numerals.{add-one}
use lib.ListN.{length, drop, get_or, drop_of_length-le, length-drop}
use lib.Seq.{drop-cons}
use mathlib.Core.Bool.{Bool, true, false, cond}
use native.Mathlib.Omega.{arith}
use lib.Dec.{leb, ltb}
use borrow.Author.Tests.{leb-true, lt-ltb, le-ltb, ltb-true, ltb-false}
use Rattle.laws.proofs.Tests.{clash, by-test}
use Rattle.number.specs.Bytes.{starts, past_one, past_all, is_digit, digits}
use Rattle.number.specs.Steps.{Past}

pub drop_here : (s : List ℕ) (i : ℕ) → i < length s → drop i s ≡ get_or s i 0 ∷ drop (i + 1) s
drop_here s i h = rw (add-one) (drop-cons s i 0 h)

module _ (is : ℕ → Bool) (s : List ℕ) (i : ℕ) where
  pub one-taken : i < length s → is (get_or s i 0) ≡ true → Past (past_one is) s i (i + 1)
  one-taken h t = record { onward = omega arith; inside = omega arith; is = rw (drop_here s i h, t) }

  pub one_left : i < length s → is (get_or s i 0) ≡ false → Past (past_one is) s i i
  one_left h t = record { onward = omega arith; inside = omega arith; is = rw (drop_here s i h, t) }

  pub one_none : i ≤ length s → length s ≤ i → Past (past_one is) s i i
  one_none h k = record { onward = omega arith; inside = h; is = rw (drop_of_length-le s k) }

  pub starts-here : i < length s → is (get_or s i 0) ≡ starts is (drop i s)
  starts-here h = rw (drop_here s i h)

  pub starts_none : length s ≤ i → false ≡ starts is (drop i s)
  starts_none k = rw (drop_of_length-le s k)

  pub starts-inside : starts is (drop i s) ≡ true → i < length s
  starts-inside t =
      by-test (ltb i (length s)) (ltb-true i (length s)) (λ e. clash (sym t ∙ sym (starts_none (ltb-false i (length s) e))))

  pub all-turn : i < length s → is (get_or s i 0) ≡ true → past_all is (drop (i + 1) s) ≡ past_all is (drop i s)
  all-turn h t = rw (drop_here s i h, t)

  pub all-stop : i < length s → is (get_or s i 0) ≡ false → drop i s ≡ past_all is (drop i s)
  all-stop h t = rw (drop_here s i h, t)

  pub all_end : length s ≤ i → drop i s ≡ past_all is (drop i s)
  all_end k = rw (drop_of_length-le s k)

-- past one such byte, if there is one: the place moves on exactly where it stands
pub one-length : (is : ℕ → Bool) (l : List ℕ) (b : Bool) → starts is l ≡ b → length (past_one is l) + cond b 1 0 ≡ length l
one-length is [] true e = clash (sym e)
one-length is [] false e = refl
one-length is (c ∷ l) true e = rw e (omega arith)
one-length is (c ∷ l) false e = rw e (omega arith)

pub one-stands : (is : ℕ → Bool) (s : List ℕ) (from r : ℕ) → Past (past_one is) s from r → ltb from r ≡ starts is (drop from s)
one-stands is s from r p =
    by-test (starts is (drop from s)) (λ e. lt-ltb from r (omega (arith, moved true e, p)) ∙ sym e)
    (λ e. le-ltb from r (omega (arith, moved false e, p)) ∙ sym e)
  where
    moved : (b : Bool) → starts is (drop from s) ≡ b → (length s - r) + cond b 1 0 ≡ length s - from
    moved b e = rw (← length-drop r s, ← length-drop from s, p.is) (one-length is (drop from s) b e)

-- a digit is a byte from 48 to 57
pub digit-range : (c : ℕ) → is_digit c ≡ true → (48 ≤ c) × (c ≤ 57)
digit-range c t = go (leb 48 c) refl
  where
    go : (b : Bool) → leb 48 c ≡ b → (48 ≤ c) × (c ≤ 57)
    go true e = (leb-true 48 c e, leb-true c 57 (rw e at t))
    go false e = let z : false ≡ true = rw e at t in clash (sym z)

module _ (s : List ℕ) (i : ℕ) where
  pub digits-turn : i < length s → is_digit (get_or s i 0) ≡ true → digits (drop i s) ≡ get_or s i 0 ∷ digits (drop (i + 1) s)
  digits-turn h t = rw (drop_here s i h, t)

  pub digits-stop : i < length s → is_digit (get_or s i 0) ≡ false → digits (drop i s) ≡ []
  digits-stop h t = rw (drop_here s i h, t)

  pub digits-end : length s ≤ i → digits (drop i s) ≡ []
  digits-end k = rw (drop_of_length-le s k)
