-- A minus, "0." with the leading digits, and the power: three pieces joined, with the count of digits that the size has.
use Rattle.std.proofs.Common.{◌≡◌, ◌^◌, ◌<◌, ◌≤◌, ◌∷◌, ◌++◌, ℕ, List, ℤ, ap, ◌∙◌, subst, arith, w64}
use Rattle.std.proofs.lemmas.Int.{to_z-of_z}
use Rattle.numerals.specs.Numerals.{minus, spell, count}
use Rattle.numerals.specs.Pieces.{Puts}
use Rattle.numerals.proofs.Counts.{count_most, count-above}
use Rattle.numerals.proofs.Pieces.{puts, joined}
use Rattle.numerals.proofs.Numerals.{minus-short}
use Rattle.numerals.proofs.Spelling.{spell-length}
use Rattle.spell.specs.Spell.{leading, power_text, decimal}
use Rattle.spell.proofs.put_decimal.Goals as goal

counted : (none n k : ℕ) → k ≡ count none 18 n → none ≤ 18 → k ≤ 18
counted none n k e h = rw e (count_most none 18 n h)

pub put_fraction-power-requires : goal.put_fraction-power-requires
put_fraction-power-requires c =
    let v = to_z-of_z w64 c.args.value c.ranges.value in
    let n = c.unsigned_abs-size.result in
    let b : n < 10 ^ 18 = rw (rw v at c.unsigned_abs-size.ensures.value) c.requires.1.1 in
    let h = puts (rw v at c.put_minus-first.ensures) (omega (arith, minus-short c.args.value)) in (
      omega (arith, h.kept, h.place, minus-short c.args.value),
      (c.requires.1.0, (counted 9 n _ c.count_of-count.ensures (omega arith), rw c.count_of-count.ensures (count-above _ 18 n b))),
    )

pub put_power-requires : goal.put_power-requires
put_power-requires c =
    let v = to_z-of_z w64 c.args.value c.ranges.value in
    let n = c.unsigned_abs-size.result in
    let h = puts (rw v at c.put_minus-first.ensures) (omega (arith, minus-short c.args.value)) in
    let f = c.put_fraction-power.ensures in
    let digits = spell-length c.args.digits (leading c.args.digits c.count_of-count.result n) in (
      omega (arith, h.kept, h.place, f.kept, f.place, digits, minus-short c.args.value),
      counted 9 n _ c.count_of-count.ensures (omega arith),
    )

-- the pieces in the order of the calls
abbrev pieces : ℕ → ℕ → ℤ → ℕ → ℕ → List ℕ
pieces digits letter z k n = minus z ++ ((48 ∷ 46 ∷ spell digits (leading digits k n)) ++ power_text letter k)

pub returns : goal.returns
returns c =
    let v = to_z-of_z w64 c.args.value c.ranges.value in
    let a = c.args in
    let these = pieces a.digits a.letter a.value in
    let n = c.unsigned_abs-size.result in
    let h = puts (rw v at c.put_minus-first.ensures) (omega (arith, minus-short c.args.value)) in
    let e : these c.count_of-count.result n ≡ decimal a.digits a.letter a.value =
    ap (λ (x : ℕ). these x n) c.count_of-count.ensures ∙ ap (λ (x : ℕ). these (count 9 18 x) x) (rw v at c.unsigned_abs-size.ensures.value)
    in
    subst (λ (t : List ℕ). Puts a.text.now 0 t c.put_power.new.text c.put_power.result) e
    (joined h (joined c.put_fraction-power.ensures c.put_power.ensures))
