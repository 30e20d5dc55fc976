-- What fits its field: the tests taken apart, the lengths that follow, and the values that always fit.
use mathlib.Core.Bool.{true, false}
use mathlib.Core.Path.{◌≡◌, sym, ◌∙◌, ap}
use Prim.Native.Nat.{ℕ, ◌≤◌, ◌+◌, ◌-◌, ◌^◌, ◌<◌, ◌*◌, ◌/◌, ◌%◌}
use borrow.Author.Tests.{leb-true, leb-false, ltb-true, lt-ltb, le-leb, lt-leb}
use lib.IntN.{ℤ, nat_abs, pos, negsuc}
use lib.ListN.{length}
use lib.Signed.{lt_z}
use mir.Val.{bool_byte}
use native.Mathlib.Omega.{arith}
use lib.Dec.{leb, ltb}
use mathlib.Core.List.{List}
use native.Mathlib.Nat.{div-add-mod', div-lt_iff_lt-mul}
use Rattle.laws.specs.Digits.{short}
use Rattle.laws.specs.Sign.{◌and◌}
use Rattle.laws.proofs.Tests.{and_first, and_second, and_both, by-test}
use Rattle.laws.proofs.Shorts.{few-short}
use Rattle.laws.proofs.Tens.{ten-pos}
use Rattle.numerals.specs.Numerals.{minus, count}
use Rattle.numerals.proofs.Numerals.{minus-short}
use Rattle.numerals.proofs.Counts.{count_small, count-least, enough}
use Rattle.number.specs.Real.{real}
use Rattle.number.proofs.Limits.{real-limits}
use Rattle.spell.specs.Spell.{whole_text, integer_fits, integer_text, decimal, real_text, real_fits}
use Rattle.spell.proofs.Pieces.{justified-length}
use Rattle.spell.proofs.Texts.{decimal-length, not-below, whole_length}

pub integer-room : (width : ℕ) (z : ℤ) → integer_fits width z ≡ true → length (whole_text z) ≤ width
unfolding integer_fits
integer-room width z h = leb-true (length (whole_text z)) width h

pub integer-length : (width : ℕ) (z : ℤ) → integer_fits width z ≡ true → length (integer_text width z) ≡ width
unfolding integer_text
integer-length width z h = justified-length width (whole_text z) (integer-room width z h)

-- a minus takes a byte, where there is one
pub minus-length : (z : ℤ) → bool_byte (lt_z z (pos 0)) ≡ length (minus z)
minus-length z = by-test (lt_z z (pos 0)) (λ e. rw e) (λ e. rw e)

-- a number below zero has a size
minus-size : (z : ℤ) → length (minus z) ≤ nat_abs z
minus-size (pos n) = rw (not-below n) (omega arith)
minus-size (negsuc n) = omega arith

-- a test of a sum is a test of what is left
less-left : (a b c : ℕ) → a ≤ c → leb (a + b) c ≡ leb b (c - a)
less-left a b c h =
    by-test (leb b (c - a)) (λ e. le-leb (a + b) c (omega (arith, leb-true b (c - a) e)) ∙ sym e)
    (λ e. lt-leb (a + b) c (omega (arith, leb-false b (c - a) e)) ∙ sym e)

-- what fits, by its size alone: the digits that a minus leaves bytes for are enough
pub fits-by-size : (width : ℕ) (z : ℤ) → 0 < width → nat_abs z < 10 ^ 19
    → ltb (nat_abs z) (10 ^ (width - length (minus z))) ≡ integer_fits width z
unfolding integer_fits
fits-by-size width z some small =
    let n = nat_abs z in
    let m = length (minus z) in
    enough 20 (width - m) n (omega arith) (omega arith) (omega (arith, minus-size z))
    ∙ sym (ap (λ (k : ℕ). leb k width) (whole_length z) ∙ less-left m (count 1 20 n) width (omega (arith, minus-short z)))

-- a field of no bytes has room for no number
pub nothing-fits : (z : ℤ) → nat_abs z < 10 ^ 19 → integer_fits 0 z ≡ false
unfolding integer_fits
nothing-fits z small =
    lt-leb (length (whole_text z)) 0 (omega (arith, whole_length z, count-least 1 20 (nat_abs z) (omega arith) (omega arith)))

pub record RealFits (digits width : ℕ) (z : ℤ) : Type 0 where
  pub modest : nat_abs z < 10 ^ 18
  pub few : short 18 digits (nat_abs z) ≡ true
  pub room : length (minus z) + (digits + 6) ≤ width

module _ (digits width : ℕ) (z : ℤ) where
  pub real-fits : real_fits digits width z ≡ true → RealFits digits width z
  unfolding real_fits
  real-fits h =
      let n = nat_abs z in
      let room = leb (length (minus z) + (digits + 6)) width in
      let rest = and_second (ltb n (10 ^ 18)) (short 18 digits n and room) h in
      record {
        modest = ltb-true n (10 ^ 18) (and_first (ltb n (10 ^ 18)) (short 18 digits n and room) h);
        few = and_first (short 18 digits n) room rest;
        room = leb-true (length (minus z) + (digits + 6)) width (and_second (short 18 digits n) room rest);
      }

  pub fits-real : RealFits digits width z → real_fits digits width z ≡ true
  unfolding real_fits
  fits-real f =
      and_both (lt-ltb (nat_abs z) (10 ^ 18) f.modest)
      (and_both f.few (le-leb (length (minus z) + (digits + 6)) width f.room))

  pub real-length : (letter : ℕ) → real_fits digits width z ≡ true → length (real_text digits letter width z) ≡ width
  unfolding real_text
  real-length letter h =
      justified-length width (decimal digits letter z) (omega (arith, decimal-length digits letter z, (real-fits h).room))

-- no real that is written needs more than 15 digits: what was read can be written
pub real-readable : (s : List ℕ) → (real s).kind ≡ 0 → real_fits 15 24 (real s).value ≡ true
real-readable s k =
    let l = real-limits s k in
    fits-real 15 24 (real s).value
    (record { modest = l.0; few = l.1; room = omega (arith, minus-short (real s).value) })

-- so many digits with zeros behind them fit a field that has the room
pub digits-fit : (digits width zeros : ℕ) (z : ℤ) → nat_abs z < 10 ^ digits * 10 ^ zeros → nat_abs z < 10 ^ 18
    → nat_abs z % 10 ^ zeros ≡ 0 → length (minus z) + (digits + 6) ≤ width → real_fits digits width z ≡ true
digits-fit digits width zeros z small modest rest room =
    let n = nat_abs z in
    fits-real digits width z
    (record {
      modest = modest;
      few =
          few-short 18 digits n modest
          (record {
            front = n / 10 ^ zeros;
            zeros = zeros;
            below = (div-lt_iff_lt-mul (ten-pos zeros)).1 small;
            is = sym (omega (arith, div-add-mod' n (10 ^ zeros)));
          });
      room = room;
    })

-- ".. (6 in the spacings)": they have no minus
spacing-fits : (zeros v : ℕ) → v < 10 ^ 6 * 10 ^ zeros → v < 10 ^ 18 → v % 10 ^ zeros ≡ 0 → real_fits 6 12 (pos v) ≡ true
spacing-fits zeros v small modest rest = digits-fit 6 12 zeros (pos v) small modest rest (rw (not-below v) (omega arith))

-- x and y: "whole, 1-9999"
pub whole-spacing-fits : (v : ℕ) → 10 ^ 9 ≤ v → v ≤ 9999 * 10 ^ 9 → v % 10 ^ 9 ≡ 0 → real_fits 6 12 (pos v) ≡ true
whole-spacing-fits v low high rest = spacing-fits 9 v (omega arith) (omega arith) rest

-- a z spacing: hundredths of a unit, up to one
pub fine-spacing-fits : (v : ℕ) → 10 ^ 7 ≤ v → v ≤ 10 ^ 9 → v % 10 ^ 7 ≡ 0 → real_fits 6 12 (pos v) ≡ true
fine-spacing-fits v low high rest = spacing-fits 7 v (omega arith) (omega arith) rest

-- whole billionths in thousands, so every whole unit and hundredth below the limit, need no more than 15 digits
pub thousands-fit : (z : ℤ) → nat_abs z < 10 ^ 18 → nat_abs z % 10 ^ 3 ≡ 0 → real_fits 15 24 z ≡ true
thousands-fit z modest rest = digits-fit 15 24 3 z (omega arith) modest rest (omega (arith, minus-short z))

-- an integer of so many digits fits a field that has a place more, for a minus
pub integer-fits : (digits width : ℕ) (z : ℤ) → 1 ≤ digits → digits ≤ 20 → nat_abs z < 10 ^ digits → digits + 1 ≤ width
    → integer_fits width z ≡ true
unfolding integer_fits
integer-fits digits width z some most below room =
    le-leb (length (whole_text z)) width
    (omega (arith, whole_length z, minus-short z, count_small 1 20 (nat_abs z) digits some most below))
