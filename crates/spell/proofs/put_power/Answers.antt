-- The letter with the power's sign, and its two digits: two pieces joined. The sign and the digits are chosen together.
use Rattle.std.proofs.Common.{◌≡◌, ◌<◌, ◌^◌, ◌∷◌, arith}
use borrow.Author.Tests.{lt-ltb, le-ltb}
use Rattle.numerals.specs.Numerals.{spell}
use Rattle.numerals.proofs.Numerals.{digits-put}
use Rattle.numerals.proofs.Pieces.{puts, joined}
use Rattle.spell.specs.Spell.{power_text}
use Rattle.spell.proofs.put_power.Goals as goal
use Rattle.spell.proofs.put_power.Goals.{then-count-lt9, else-count-lt9}

pub returns : goal.returns
returns c =
    let a = c.args in
    let chosen = c.if-count-lt9.sign in
    let named : power_text a.letter a.count ≡ a.letter ∷ chosen.0 ∷ spell 2 chosen.1 =
    elim c.if-count-lt9.branch [
      | then-count-lt9 w ↦ rw (w.sign-is, lt-ltb _ _ w.if-count-lt9.true)
      | else-count-lt9 w ↦ rw (w.sign-is, le-ltb _ _ w.if-count-lt9.false)
    ]
    in
    let few : chosen.1 < 10 ^ 2 =
    elim c.if-count-lt9.branch [ then-count-lt9 w ↦ rw w.sign-is (omega arith) | else-count-lt9 w ↦ rw w.sign-is (omega arith) ]
    in
    let f = puts c.put_word-first.ensures (omega arith) in
    rw named (joined f (digits-put 2 chosen.1 (omega arith) few c.put_digits.ensures (omega (arith, f.kept, f.place))))
