-- The leading digits: filled up or cut, each by its law.
use Rattle.std.proofs.Common.{◌≡◌, ◌-◌, ◌*◌, ◌/◌, ◌^◌, ◌≤◌, ℕ, sym, ap, ◌∙◌, arith}
use Rattle.laws.proofs.Tens.{ten-up, ten-pos}
use Rattle.number.proofs.Tens.{ten-is}
use Rattle.spell.proofs.Leading.{leading-filled, leading-below, leading-cut}
use Rattle.spell.proofs.leading_of.Goals as goal

pub returns-then-count-digits : goal.returns-then-count-digits
returns-then-count-digits c =
    let a = c.args in
    ap (λ (x : ℕ). a.size * x) (ten-is c.ten_to.ensures (omega arith)) ∙ sym (leading-filled a.digits a.count a.size (omega arith))

pub overflow_mul-result : goal.overflow_mul-result
overflow_mul-result c =
    let a = c.args in
    let b = leading-below a.digits a.count a.size c.requires.1.1 in
    let t : 10 ^ a.digits ≤ 10 ^ 15 = ten-up c.requires.0 in
    let e : a.size * c.ten_to.result ≡ a.size * 10 ^ (a.digits - a.count) =
    ap (λ (x : ℕ). a.size * x) (ten-is c.ten_to.ensures (omega arith))
    in
    omega (arith, leading-filled a.digits a.count a.size (omega arith))

pub nonzero_div-result : goal.nonzero_div-result
nonzero_div-result c = rw (ten-is c.ten_to-else-count-digits.ensures (omega arith)) (ten-pos _)

pub returns-else-count-digits : goal.returns-else-count-digits
returns-else-count-digits c =
    let a = c.args in
    ap (λ (x : ℕ). a.size / x) (ten-is c.ten_to-else-count-digits.ensures (omega arith)) ∙ sym (leading-cut a.digits a.count a.size (omega arith))
