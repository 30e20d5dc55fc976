-- Kept digits over a power of ten.
use Rattle.std.proofs.Common.{◌≡◌, ℕ, ◌<◌, ◌^◌, ◌%◌, sym, subst, arith, ne_eqb, eq-eqb}
use Rattle.laws.proofs.Tens.{ten-pos}
use Rattle.number.proofs.Scale.{too-deep}
use Rattle.number.proofs.Tens.{ten-is}
use Rattle.number.proofs.decimal.scale_down.Goals.{then-more-via-then-more, then-more-via-else-more+then-d-ge15}
use Rattle.number.proofs.decimal.scale_down.Goals as goal

pub returns-then-more : goal.returns-then-more
returns-then-more c =
    let a = c.args in
    elim c.then-more.branch [
      | then-more-via-then-more w ↦ simp w.if-more.true
      | then-more-via-else-more+then-d-ge15 w
          ↦ simp (w.if-more.false, ne_eqb (a.head % 10 ^ a.d) 0 (too-deep a.head a.d c.requires.0 c.requires.1 w.if-d-ge15.true))
    ]

pub nonzero_rem-head : goal.nonzero_rem-head
nonzero_rem-head c =
    let e : c.ten_to-power.result ≡ 10 ^ c.args.d = ten-is c.ten_to-power.ensures (omega arith) in
    subst (λ (x : ℕ). 0 < x) (sym e) (ten-pos c.args.d)

pub returns-then-head-power-ne0 : goal.returns-then-head-power-ne0
returns-then-head-power-ne0 c =
    let e : c.ten_to-power.result ≡ 10 ^ c.args.d = ten-is c.ten_to-power.ensures (omega arith) in
    let h = subst (λ (x : ℕ). c.args.head % x ≡ 0 → ⊥) e c.if-head-power-ne0.true in
    simp (c.if-more.false, ne_eqb _ _ h)

pub returns : goal.returns
returns c =
    let e : c.ten_to-power.result ≡ 10 ^ c.args.d = ten-is c.ten_to-power.ensures (omega arith) in
    let h = subst (λ (x : ℕ). c.args.head % x ≡ 0) e c.if-head-power-ne0.false in
    rw e (simp (c.if-more.false, eq-eqb _ _ h))
