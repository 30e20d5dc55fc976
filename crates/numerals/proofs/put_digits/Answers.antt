-- Too many, too few, or no room for them: nothing is put.
use Rattle.std.proofs.Common.{◌+◌, ◌^◌, length, arith, sym, ◌∙◌}
use borrow.Author.Tests.{leb-false, ltb-true}
use Rattle.numerals.proofs.Numerals.{fixed-long, fixed-few, no-digits, digits-past}
use Rattle.numerals.proofs.put_digits.Goals as goal
use Rattle.numerals.proofs.put_digits.Goals.{then-k-gt20-via-then-k-gt20, then-k-gt20-via-else-k-gt20+then-not-is_below, then-k-gt20-via-else-k-gt20+else-not-is_below+then-not-has_room}

pub returns-then-k-gt20 : goal.returns-then-k-gt20
returns-then-k-gt20 c =
    let a = c.args in
    elim c.then-k-gt20.branch [
      | then-k-gt20-via-then-k-gt20 w ↦ no-digits a.k a.n a.text.now a.at (fixed-long a.k a.n w.if-k-gt20.true)
      | then-k-gt20-via-else-k-gt20+then-not-is_below w ↦ no-digits a.k a.n a.text.now a.at (fixed-few a.k a.n (sym w.is_below.ensures ∙ w.if-not-is_below.true))
      | then-k-gt20-via-else-k-gt20+else-not-is_below+then-not-has_room w ↦ digits-past a.k a.n (omega arith) (ltb-true a.n (10 ^ a.k) (sym w.is_below.ensures ∙ w.if-not-is_below.false)) (leb-false (a.at + a.k) (length a.text.now) (sym w.has_room.ensures ∙ w.if-not-has_room.true))
    ]
