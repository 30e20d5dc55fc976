-- "0." and the leading digits: three pieces joined.
use Rattle.std.proofs.Common.{◌^◌, ◌<◌, arith}
use Rattle.numerals.proofs.Numerals.{digits-put}
use Rattle.numerals.proofs.Pieces.{puts, joined}
use Rattle.spell.proofs.Leading.{leading-below}
use Rattle.spell.proofs.put_fraction.Goals as goal

pub returns : goal.returns
returns c =
    let a = c.args in
    let n = c.leading_of.result in
    let b : n < 10 ^ a.digits = rw c.leading_of.ensures (leading-below a.digits a.count a.size c.requires.1.1.1) in
    let f = puts c.put_word-first.ensures (omega arith) in
    let h = digits-put a.digits n (omega arith) b c.put_digits.ensures (omega (arith, f.kept, f.place)) in
    rw (← c.leading_of.ensures) (joined f h)
