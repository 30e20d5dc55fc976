-- What fits by its size: the digits that the minus leaves room for are enough exactly where the text is not too long.
use Rattle.std.proofs.Common.{◌≡◌, ◌-◌, ◌^◌, ◌<◌, ℕ, Bool, ltb, ℤ, nat_abs, length, sym, ap, ◌∙◌, arith, w64}
use Rattle.std.proofs.lemmas.Int.{to_z-of_z}
use mir.Val.{SFits}
use Rattle.numerals.specs.Numerals.{minus}
use Rattle.spell.specs.Spell.{integer_fits}
use Rattle.spell.proofs.Fits.{fits-by-size, minus-length, nothing-fits}
use Rattle.spell.proofs.Texts.{size_below}
use Rattle.spell.proofs.has_places.Goals as goal

-- what the test of the size says, with so many bytes for the digits
by_size : (width : ℕ) (z : ℤ) (n room : ℕ) (r : Bool) → 0 < width → SFits w64 z → n ≡ nat_abs z → room ≡ width - length (minus z)
    → r ≡ ltb n (10 ^ room) → r ≡ integer_fits width z
by_size width z n room r some f s k e = e ∙ rw (s, k) (fits-by-size width z some (size_below z f))

pub returns-else-width-gt0 : goal.returns-else-width-gt0
returns-else-width-gt0 c =
    let a = c.args in
    let none : a.width ≡ 0 = omega arith in
    rw none (sym (nothing-fits a.value (size_below a.value c.ranges.value)))

pub returns-then-width-gt0 : goal.returns-then-width-gt0
returns-then-width-gt0 c =
    let a = c.args in
    let v = to_z-of_z w64 a.value c.ranges.value in
    by_size a.width a.value _ _ _ c.if-width-gt0.true c.ranges.value (rw v at c.unsigned_abs.ensures.value)
    (ap (λ k. a.width - k) ((rw v at c.from-minus.ensures) ∙ minus-length a.value)) c.is_below.ensures
