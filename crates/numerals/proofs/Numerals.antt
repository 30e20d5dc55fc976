-- The decimal text of a number is right: its digits spell the number, and the first is no zero; and how long the pieces are.
use Prim.Native.Nat.{ℕ, ◌-◌, ◌/◌, ◌^◌, ◌≤◌, ◌<◌, ◌+◌}
use native.Mathlib.Nat.{le-div_iff_mul-le}
use native.Mathlib.Omega.{arith}
use lib.ListN.{get_or, length}
use mathlib.Core.Path.{◌≡◌, subst, subst⁻¹}
use lib.IntN.{ℤ, pos}
use lib.Signed.{lt_z}
use mathlib.Core.Bool.{false}
use mathlib.Core.List.{List, []}
use borrow.Author.Tests.{lt-ltb, le-leb, lt-leb}
use lib.Dec.{leb, ltb}
use Rattle.laws.proofs.Tens.{ten-pos}
use Rattle.laws.proofs.Shorts.{places-below}
use Rattle.laws.proofs.Tests.{by-test, and_both, and-fails-first, and-fails-second}
use Rattle.number.specs.Bytes.{number}
use Rattle.numerals.specs.Numerals.{spell, count, digits_of, numeral, minus, fixed}
use Rattle.numerals.specs.Pieces.{Puts, GivenAt}
use Rattle.numerals.proofs.Spelling.{spell-first, spell-length}
use Rattle.numerals.proofs.Counts.{count-some, count-above, count-least, count_most}
use Rattle.numerals.proofs.Spelled.{spell-number}
use Rattle.numerals.proofs.Pieces.{nothing, no_room, puts}

-- the first of k digits, where the number reaches the last power of ten below them; 48 is the digit 0
pub first_above : (k n : ℕ) → 0 < k → 10 ^ (k - 1) ≤ n → 48 < get_or (spell k n) 0 0
first_above k n p h =
    let q : 1 ≤ n / 10 ^ (k - 1) = (le-div_iff_mul-le (ten-pos (k - 1))).1 (omega arith) in
    rw (spell-first k n p) (omega arith)

pub count-below : (none k n : ℕ) → 0 < n → n < 10 ^ k → 10 ^ (count none k n - 1) ≤ n
count-below none k n p h = rw (count-some none k n (λ e. omega arith)) (places-below k n p h)

pub spells : (k n : ℕ) → 0 < k → n < 10 ^ k → number 0 (digits_of k n) ≡ n
spells k n p h = spell-number (count 1 k n) n (count-above 1 k n h)

pub no-zero-first : (k n : ℕ) → 0 < k → n < 10 ^ k → 0 < n → 48 < get_or (digits_of k n) 0 0
no-zero-first k n p h z = first_above (count 1 k n) n (count-least 1 k n (omega arith) h) (count-below 1 k n z h)

-- every number of 64 bits
pub numeral-spells : (n : ℕ) → n < 2 ^ 64 → number 0 (numeral n) ≡ n
numeral-spells n h = spells 20 n (omega arith) (omega arith)

pub numeral-short : (n : ℕ) → length (numeral n) ≤ 20
numeral-short n = omega (arith, spell-length (count 1 20 n) n, count_most 1 20 n (omega arith))

pub minus-short : (z : ℤ) → length (minus z) ≤ 1
minus-short z = by-test (lt_z z (pos 0)) (λ e. rw e (omega arith)) (λ e. rw e (omega arith))

-- so many digits, where they are enough; else none
module _ (k n : ℕ) where
  pub fixed-is : k ≤ 20 → n < 10 ^ k → fixed k n ≡ spell k n
  fixed-is l h = rw (and_both (le-leb k 20 l) (lt-ltb n (10 ^ k) h))

  pub fixed-long : 20 < k → fixed k n ≡ []
  fixed-long l = rw (and-fails-first (ltb n (10 ^ k)) (lt-leb k 20 l))

  pub fixed-few : ltb n (10 ^ k) ≡ false → fixed k n ≡ []
  fixed-few h = rw (and-fails-second (leb k 20) h)

  pub no-digits : (lent : List ℕ) (at : ℕ) → fixed k n ≡ [] → GivenAt at (fixed k n) lent lent at
  no-digits lent at e = subst⁻¹ (λ (p : List ℕ). GivenAt at p lent lent at) e (nothing lent at)

  pub digits-past : {lent : List ℕ} {at : ℕ} → k ≤ 20 → n < 10 ^ k → length lent < at + k → GivenAt at (fixed k n) lent lent at
  digits-past {lent} {at} l h past =
      subst⁻¹ (λ (p : List ℕ). GivenAt at p lent lent at) (fixed-is l h) (no_room (omega (arith, spell-length k n)))

  -- what a caller learns of digits that are enough, and where they have room
  pub digits-given : {lent after : List ℕ} {at r : ℕ} → k ≤ 20 → n < 10 ^ k → GivenAt at (fixed k n) lent after r
      → GivenAt at (spell k n) lent after r
  digits-given {lent} {after} {at} {r} l h g = subst (λ (p : List ℕ). GivenAt at p lent after r) (fixed-is l h) g

  pub digits-put : {lent after : List ℕ} {at r : ℕ} → k ≤ 20 → n < 10 ^ k → GivenAt at (fixed k n) lent after r → at + k ≤ length lent
      → Puts lent at (spell k n) after r
  digits-put l h g room = puts (digits-given l h g) (omega (arith, spell-length k n))
