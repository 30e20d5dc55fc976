-- The tests of the closing rules, of numbers read back: each answer is the definition where the tests before it have passed.
use Rattle.std.proofs.Common.{◌∙◌, ◌≡◌, ◌<◌, ◌^◌, sym, Bool, ℕ, ℤ, to_z, of_z, w64, rules}
use lib.Signed.{mag}
use mathlib.Core.Path.{ap₂}
use Rattle.laws.specs.Sign.{same_z}
use Rattle.laws.proofs.Signs.{back}
use Rattle.delivery.specs.Deliver.{stated}
use Rattle.rules.proofs.close_fault.Goals as goal

agreed : {r t : Bool} (told : ℤ) (filled : ℕ) (extreme : ℤ) → mag told < 2 ^ 63 → mag extreme < 2 ^ 63
    → r ≡ same_z (to_z w64 (of_z w64 told)) (stated filled (to_z w64 (of_z w64 extreme))) → r ≡ t → same_z told (stated filled extreme) ≡ t
agreed told filled extreme f g e is = sym (e ∙ ap₂ (λ (a b : ℤ). same_z a (stated filled b)) (back told f) (back extreme g)) ∙ is

pub returns-then-not-agrees : goal.returns-then-not-agrees
returns-then-not-agrees c =
    let p = c.args.s.profile in
    let least = agreed p.least p.filled p.low (search rules) (search rules) c.agrees.ensures c.if-not-agrees.true in
    c.told_otherwise.ensures ∙ sym (simp least)

pub returns-then-not-agrees-2 : goal.returns-then-not-agrees-2
returns-then-not-agrees-2 c =
    let p = c.args.s.profile in
    let least = agreed p.least p.filled p.low (search rules) (search rules) c.agrees.ensures c.if-not-agrees.false in
    let greatest = agreed p.greatest p.filled p.high (search rules) (search rules) c.agrees-2.ensures c.if-not-agrees-2.true in
    c.told_otherwise-then-not-agrees-2.ensures ∙ sym (simp (least, greatest))

pub returns-then-not-is_sum : goal.returns-then-not-is_sum
returns-then-not-is_sum c =
    let p = c.args.s.profile in
    let least = agreed p.least p.filled p.low (search rules) (search rules) c.agrees.ensures c.if-not-agrees.false in
    let greatest = agreed p.greatest p.filled p.high (search rules) (search rules) c.agrees-2.ensures c.if-not-agrees-2.false in
    sym (simp (least, greatest, sym c.is_sum.ensures ∙ c.if-not-is_sum.true))

pub returns-then-not-agrees-3 : goal.returns-then-not-agrees-3
returns-then-not-agrees-3 c =
    let s = c.args.s in
    let p = s.profile in
    let least = agreed p.least p.filled p.low (search rules) (search rules) c.agrees.ensures c.if-not-agrees.false in
    let greatest = agreed p.greatest p.filled p.high (search rules) (search rules) c.agrees-2.ensures c.if-not-agrees-2.false in
    let last = sym c.is_sum.ensures ∙ c.if-not-is_sum.false in
    let lowest = agreed s.header.least s.filled s.low (search rules) (search rules) c.agrees-3.ensures c.if-not-agrees-3.true in
    c.told_otherwise-then-not-agrees-3.ensures ∙ sym (simp (least, greatest, last, lowest))

pub returns-then-not-agrees-4 : goal.returns-then-not-agrees-4
returns-then-not-agrees-4 c =
    let s = c.args.s in
    let p = s.profile in
    let least = agreed p.least p.filled p.low (search rules) (search rules) c.agrees.ensures c.if-not-agrees.false in
    let greatest = agreed p.greatest p.filled p.high (search rules) (search rules) c.agrees-2.ensures c.if-not-agrees-2.false in
    let last = sym c.is_sum.ensures ∙ c.if-not-is_sum.false in
    let lowest = agreed s.header.least s.filled s.low (search rules) (search rules) c.agrees-3.ensures c.if-not-agrees-3.false in
    let highest = agreed s.header.greatest s.filled s.high (search rules) (search rules) c.agrees-4.ensures c.if-not-agrees-4.true in
    c.told_otherwise-then-not-agrees-4.ensures ∙ sym (simp (least, greatest, last, lowest, highest))

pub returns : goal.returns
returns c =
    let s = c.args.s in
    let p = s.profile in
    let least = agreed p.least p.filled p.low (search rules) (search rules) c.agrees.ensures c.if-not-agrees.false in
    let greatest = agreed p.greatest p.filled p.high (search rules) (search rules) c.agrees-2.ensures c.if-not-agrees-2.false in
    let last = sym c.is_sum.ensures ∙ c.if-not-is_sum.false in
    let lowest = agreed s.header.least s.filled s.low (search rules) (search rules) c.agrees-3.ensures c.if-not-agrees-3.false in
    let highest = agreed s.header.greatest s.filled s.high (search rules) (search rules) c.agrees-4.ensures c.if-not-agrees-4.false in
    sym (simp (least, greatest, last, lowest, highest))
