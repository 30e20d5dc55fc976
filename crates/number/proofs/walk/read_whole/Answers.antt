-- The digits end at a byte that is none, or at the end of the field.
use Rattle.std.proofs.Common.{◌≡◌, ℕ, false, length, get_or, subst, rules, arith}
use Rattle.number.specs.Bytes.{is_digit}
use Rattle.number.specs.Steps.{WholeAt}
use Rattle.number.proofs.Runs.{passing-stop, passing-end, spelling-done}
use Rattle.number.proofs.Places.{digits-stop, digits-end}
use Rattle.number.proofs.walk.read_whole.Goals as goal

pub returns-then-not-is_ascii_digit : goal.returns-then-not-is_ascii_digit
returns-then-not-is_ascii_digit c =
    let s = c.args.s.now in
    let l = c.loop-i in
    let t : is_digit (get_or s l.i 0) ≡ false = search rules in
    spelling-done s c.args.from l.value l.i c.requires.1 l.invariant
    (passing-stop s c.args.from l.i l.invariant.passing c.loop-i-test.true t)
    (digits-stop s l.i c.loop-i-test.true t)

pub returns : goal.returns
returns c =
    let s = c.args.s.now in
    let l = c.loop-i in
    let e : l.i ≡ length s = omega (arith, l.invariant.passing.inside, c.loop-i-test.false) in
    subst (λ (n : ℕ). WholeAt s c.args.from (record { next = n; value = l.value })) e
    (spelling-done s c.args.from l.value l.i c.requires.1 l.invariant
    (passing-end s c.args.from l.i l.invariant.passing c.loop-i-test.false)
    (digits-end s l.i c.loop-i-test.false))
