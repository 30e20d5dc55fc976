-- The law of the last digit carries a turn.
use Rattle.std.proofs.Common.{◌≡◌, ◌/◌, ltb, true, arith, refl}
use borrow.Author.Tests.{lt-ltb, le-ltb}
use Rattle.spell.proofs.FromRight.{some_left, digit-put, all-put, same-room}
use Rattle.spell.proofs.put_from_right.Goals as goal

pub overflow_sub-at : goal.overflow_sub-at
overflow_sub-at c = some_left c.loop-rest.invariant refl c.requires

pub bounds-field-at : goal.bounds-field-at
bounds-field-at c =
    let l = c.loop-rest.invariant in
    omega (arith, some_left l refl c.requires, same-room l, l.span)

pub returns-then-rest-eq0 : goal.returns-then-rest-eq0
returns-then-rest-eq0 c = all-put (digit-put c.loop-rest.invariant refl c.requires) (le-ltb 0 _ (omega arith))

pub loop-rest-smaller : goal.loop-rest-smaller
loop-rest-smaller c = omega (arith, some_left c.loop-rest.invariant refl c.requires)

pub loop-rest-preserved : goal.loop-rest-preserved
loop-rest-preserved c =
    let more : ltb 0 (c.loop-rest.rest / 10) ≡ true = lt-ltb 0 _ (omega arith) in
    rw more at (digit-put c.loop-rest.invariant refl c.requires)
