-- Three zeros at the end, and so at most 15 digits before them.
use Rattle.std.proofs.Common.{◌≡◌, true, ℕ, ◌+◌, ◌*◌, ◌/◌, ◌%◌, ◌^◌, ◌<◌, nat_abs, ltb, arith, rules, sym}
use Rattle.std.proofs.Math.Nat.{div-add-mod'}
use borrow.Author.Tests.{lt-ltb}
use Rattle.laws.specs.Sign.{◌and◌}
use Rattle.laws.specs.Digits.{short}
use Rattle.laws.proofs.Shorts.{few-short}
use Rattle.heading.proofs.is_real_number.Goals as goal

thousands : (n : ℕ) → n < 10 ^ 18 → n % 1000 ≡ 0 → true ≡ (ltb n (10 ^ 18) and short 18 15 n)
thousands n h e =
    let d : n / 1000 * 1000 + n % 1000 ≡ n = div-add-mod' n 1000 in
    let s = few-short 18 15 n h record { front = n / 1000; zeros = 3; below = omega (arith, d, h, e); is = omega (arith, d, e) } in
    rw (lt-ltb n (10 ^ 18) h) (sym s)

pub returns-then-n-eq0 : goal.returns-then-n-eq0
returns-then-n-eq0 c =
    let n : c.unsigned_abs-n.result ≡ nat_abs c.args.z = search rules in
    let zeros : c.unsigned_abs-n.result % 1000 ≡ 0 = c.if-n-eq0.true in
    rw (← n, zeros) (thousands c.unsigned_abs-n.result c.if-n-lt1000000000000000000.true zeros)
