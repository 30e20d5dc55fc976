-- Kept digits with a power of ten behind them.
use Rattle.std.proofs.Common.{◌≡◌, ℕ, ◌-◌, ◌*◌, ◌≤◌, ◌<◌, ◌^◌, sym, subst, arith, Fits, w64}
use Rattle.std.proofs.lemmas.Bool.{le-leb, lt-leb}
use Rattle.number.proofs.Scale.{steep, reaches, stays}
use Rattle.number.proofs.Tens.{ten-is}
use Rattle.number.proofs.decimal.scale_up.Goals.{then-d-ge18-via-then-d-ge18, then-d-ge18-via-else-d-ge18+then-ten_to-head}
use Rattle.number.proofs.decimal.scale_up.Goals as goal

pub returns-then-d-ge18 : goal.returns-then-d-ge18
returns-then-d-ge18 c =
    let a = c.args in
    let large : 10 ^ 18 ≤ a.head * 10 ^ a.d =
    elim c.then-d-ge18.branch [
      | then-d-ge18-via-then-d-ge18 w ↦ steep a.head a.d c.requires.0 w.if-d-ge18.true
      | then-d-ge18-via-else-d-ge18+then-ten_to-head w
          ↦ reaches a.head a.d w.if-d-ge18.false (subst (λ (x : ℕ). x ≤ a.head) (ten-is w.ten_to.ensures (omega arith)) w.if-ten_to-head.true)
    ]
    in
    simp (le-leb _ _ large)

-- past the second test the product is below the limit
modest : (head d r : ℕ) → r ≡ 10 ^ (18 - d) → d < 18 → head < r → head * 10 ^ d < 10 ^ 18
modest head d r e h k = stays head d h (subst (λ (x : ℕ). head < x) e k)

pub returns-then-more : goal.returns-then-more
returns-then-more c =
    let m = modest c.args.head c.args.d c.ten_to.result (ten-is c.ten_to.ensures (omega arith)) c.if-d-ge18.false c.if-ten_to-head.false in
    simp (lt-leb _ _ m, c.if-more.true)

pub overflow_mul-result : goal.overflow_mul-result
overflow_mul-result c =
    let m = modest c.args.head c.args.d c.ten_to.result (ten-is c.ten_to.ensures (omega arith)) c.if-d-ge18.false c.if-ten_to-head.false in
    let f : c.ten_to-2.result ≡ 10 ^ c.args.d = ten-is c.ten_to-2.ensures (omega arith) in
    subst (λ (x : ℕ). Fits w64 (c.args.head * x)) (sym f) (omega (arith, m))

pub returns : goal.returns
returns c =
    let m = modest c.args.head c.args.d c.ten_to.result (ten-is c.ten_to.ensures (omega arith)) c.if-d-ge18.false c.if-ten_to-head.false in
    let f : c.ten_to-2.result ≡ 10 ^ c.args.d = ten-is c.ten_to-2.ensures (omega arith) in
    rw f (simp (lt-leb _ _ m, c.if-more.false))
