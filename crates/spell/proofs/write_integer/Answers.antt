-- An integer written: what fits has its digits at the right end, and before them its minus and blanks. That is the field's text (FromRight).
use Rattle.std.proofs.Common.{◌≡◌, ℕ, List, ℤ, nat_abs, length, sym, ap, ◌∙◌, arith, w64}
use Rattle.std.proofs.lemmas.Int.{to_z-of_z}
use Rattle.std.proofs.lemmas.List.{length-append}
use Rattle.numerals.specs.Numerals.{numeral, minus}
use Rattle.spell.specs.RightSteps.{FromRight}
use Rattle.spell.proofs.Fits.{integer-room}
use Rattle.spell.proofs.FromRight.{minus-fits, digits-room, field-text}
use Rattle.spell.proofs.write_integer.Goals as goal

-- what is put from the right are the digits of the number's size
digits : (z : ℤ) {lent after : List ℕ} {at n : ℕ} → n ≡ nat_abs z → FromRight lent (numeral n) after at
    → FromRight lent (numeral (nat_abs z)) after at
digits z e d = rw e at d

pub put_from_right-first-requires : goal.put_from_right-first-requires
put_from_right-first-requires c =
    let z = c.args.value in
    let v = to_z-of_z w64 z c.ranges.value in
    let fits = sym (rw v at c.if-not-has_places.ensures) in
    omega
    (arith, ap length (ap numeral (rw v at c.unsigned_abs.ensures.value)), integer-room (length c.args.field.now) z fits, length-append (minus z) (numeral (nat_abs z)))

pub fill_before-requires : goal.fill_before-requires
fill_before-requires c =
    let z = c.args.value in
    let v = to_z-of_z w64 z c.ranges.value in
    let fits = sym (rw v at c.if-not-has_places.ensures) in
    let d = digits z (rw v at c.unsigned_abs.ensures.value) c.put_from_right-first.ensures in
    (rw v (minus-fits z d fits), digits-room z d)

pub returns-clause-written : goal.returns-clause-written
returns-clause-written c =
    let z = c.args.value in
    let v = to_z-of_z w64 z c.ranges.value in
    let fits = sym (rw v at c.if-not-has_places.ensures) in
    let d = digits z (rw v at c.unsigned_abs.ensures.value) c.put_from_right-first.ensures in
    rw fits ((rw v at c.fill_before.ensures) ∙ field-text z d)
