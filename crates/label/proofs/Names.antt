-- What a name's length says: it ends within the text, only blanks follow, and its last byte is none. These three leave one number. An induction on the text carries it.
use mathlib.Core.List.{List, ◌∷◌, []}
use mathlib.Core.Path.{◌≡◌, refl}
use Prim.Native.Nat.{ℕ, ◌-◌, ◌≤◌, ◌<◌, zero, suc}
use lib.ListN.{length, get_or, take, length-take}
use mathlib.Core.Bool.{Bool, true, false, cond}
use native.Mathlib.Omega.{arith}
use borrow.Author.Tests.{eqb-true, eqb-false}
use lib.Dec.{eqb, eqb-suc-zero}
use native.Mathlib.Decide.{dec_lt, ℕ_discrete}
use lib.Seq.{length-take-le}
use Rattle.laws.proofs.Answers.{one_answer}
use Rattle.label.specs.Label.{filled, name_length}
use Rattle.label.proofs.Blocks.{name_of, no_name}

-- "to the last non-blank": n bytes of a text, and what the bytes after them and the last of them are
pub record EndsAt (s : List ℕ) (n : ℕ) : Type 0 where
  pub inside : n ≤ length s
  pub blank : (i : ℕ) → n ≤ i → i < length s → get_or s i 0 ≡ 32
  pub last : 0 < n → get_or s (n - 1) 0 ≡ 32 → ⊥

module _ (c : ℕ) (s : List ℕ) where
  later : {n : ℕ} → EndsAt s n → (i : ℕ) → suc n ≤ i → i < suc (length s) → get_or (c ∷ s) i 0 ≡ 32
  later r zero h l = absurd (omega arith)
  later r (suc i) h l = r.blank i (omega arith) (omega arith)

  longer : (n : ℕ) → EndsAt s n → (b : Bool) → eqb c 32 ≡ b → EndsAt (c ∷ s) (cond (eqb n 0) (cond b 0 1) (suc n))
  longer zero r true e = record { inside = omega arith; blank = all; last = λ h. absurd (omega arith) }
    where
      all : (i : ℕ) → 0 ≤ i → i < suc (length s) → get_or (c ∷ s) i 0 ≡ 32
      all zero h l = eqb-true c 32 e
      all (suc i) h l = later r (suc i) (omega arith) l
  longer zero r false e = record { inside = omega arith; blank = later r; last = λ h. eqb-false c 32 e }
  longer (suc n) r b e =
      let q : suc (suc n) - 1 ≡ suc (suc n - 1) = omega arith in
      rw (eqb-suc-zero n) (record { inside = omega (arith, r.inside); blank = later r; last = λ h. rw q (r.last (omega arith)) })

pub name-is : (s : List ℕ) → EndsAt s (filled s)
name-is [] = record { inside = omega arith; blank = λ i h l. absurd (omega arith); last = λ h. absurd (omega arith) }
name-is (c ∷ s) = longer c s (filled s) (name-is s) (eqb c 32) refl

module _ (s : List ℕ) where
  not-before : (m n : ℕ) → EndsAt s m → EndsAt s n → n ≤ m
  not-before m n a b = go (dec_lt m n)
    where
      go : Dec (m < n) → n ≤ m
      go (yes h) = absurd (b.last (omega arith) (a.blank (n - 1) (omega arith) (omega (arith, b.inside))))
      go (no h) = omega arith

  pub one_end : (m n : ℕ) → EndsAt s m → EndsAt s n → m ≡ n
  one_end m n a b = omega (arith, not-before m n a b, not-before n m b a)

module _ (block : List ℕ) where
  pub block-name : length block ≡ 1024 → EndsAt (take 40 block) (name_length block)
  block-name h = rw (← name_of block h) (name-is (take 40 block))

  -- the one number that says where the name ends
  pub name-ends : length block ≡ 1024 → (n : ℕ) → EndsAt (take 40 block) n → (n ≤ length block) × (n ≡ name_length block)
  name-ends h n e =
      (omega (arith, e.inside, length-take 40 block), one_end (take 40 block) n (name_length block) e (block-name h))

  pub name-elsewhere : (length block ≡ 1024 → ⊥) → take (name_length block) block ≡ []
  name-elsewhere h = rw (← no_name block h)

  pub one_name : {first second : List ℕ} → first ≡ take (name_length block) block → second ≡ take (name_length block) block → first ≡ second
  one_name = one_answer

  -- the name is inside the block, so that its length is what the promise says
  pub name-length : length (take (name_length block) block) ≡ name_length block
  name-length = length-take-le (name_length block) block (go (ℕ_discrete (length block) 1024))
    where
      go : Dec (length block ≡ 1024) → name_length block ≤ length block
      go (yes h) = omega (arith, (block-name h).inside, length-take 40 block)
      go (no h) = omega (arith, no_name block h)
