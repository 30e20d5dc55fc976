-- A post at fault is `scanning-stop`, one that passes `scanning-turn`.
use Rattle.std.proofs.Common.{◌∙◌, ◌*◌, ◌≡◌, ◌-◌, ◌+◌, ◌≤◌, ℕ, ℤ, List, Result, Err, ap, sym, take, drop, nat_abs, arith, rules}
use Rattle.std.proofs.lemmas.Int.{to_z-of_z}
use Rattle.std.proofs.lemmas.Result.{err_from_is_err_and}
use mathlib.Core.Path.{subst⁻¹, subst}
use mir.Syntax.{w32, w64}
use mir.Val.{to_z, of_z, SFits}
use Rattle.number.specs.Integer.{integer}
use Rattle.number.specs.Reading.{said}
use Rattle.number.specs.declared.Reading.{Reading}
use Rattle.field.specs.Field.{stretch}
use Rattle.field.specs.declared.Broken.{Broken}
use Rattle.ground.specs.declared.Tally.{Tally}
use Rattle.ground.specs.Posts.{judge_post, height, tally_one}
use Rattle.posts.specs.Scan.{scan_told}
use Rattle.posts.specs.Steps.{Scanned}
use Rattle.posts.proofs.Scans.{scanning-stop, cell-fits, scanning-turn}
use Rattle.posts.proofs.scan_posts.Goals as goal

-- the reading of the post's own bytes, judged
judged : (block : List ℕ) (first : ℕ) (r s : Reading) → s ≡ integer (take (first + 5 - (first - 1)) (drop (first - 1) block))
    → 1 ≤ first → r ≡ judge_post s → r ≡ judge_post (integer (stretch first 6 block))
judged block first r s e one f =
    let six : first + 5 - (first - 1) ≡ 6 = omega arith in
    f ∙ ap judge_post (e ∙ ap (λ (k : ℕ). integer (take k (drop (first - 1) block))) six)

pub returns-in_err-post : goal.returns-in_err-post
returns-in_err-post c =
    let a = c.args in
    let first = a.byte + 6 * c.loop-i.i in
    let w = judged a.block.now first (said c.judge_post.result) (said c.read_six-read.result) c.read_six-read.ensures (omega (arith, c.requires.byte-from)) c.judge_post.ensures in
    let p = err_from_is_err_and c.from_residual.result c.from_residual.ensures.1 in
    subst⁻¹ (λ (r : Result Tally Broken). Scanned a.block.now a.byte a.n a.z a.datum a.tally a.scratch.now c.loop-i.scratch (scan_told r))
    (p.1 ∙ ap Err p.2)
    (subst (λ (d : ℤ). Scanned a.block.now a.byte a.n a.z d a.tally a.scratch.now c.loop-i.scratch (scan_told (Err c.in_err-post.field-0.0)))
    (to_z-of_z w64 a.datum c.ranges.datum)
    (scanning-stop c.loop-i.invariant (omega (arith, c.loop-i-test.true)) c.judge_post.result w c.requires.room c.in_err-post.field-0.0
    (sym c.placed.ensures ∙ c.in_err-post.was)))

pub overflow_cast-scratch : goal.overflow_cast-scratch
overflow_cast-scratch c =
    let a = c.args in
    let first = a.byte + 6 * c.loop-i.i in
    let w = judged a.block.now first (said c.judge_post.result) (said c.read_six-read.result) c.read_six-read.ensures (omega (arith, c.requires.byte-from)) c.judge_post.ensures in
    let near : nat_abs (to_z w64 (of_z w64 a.datum)) ≤ 1000000 = rw (to_z-of_z w64 a.datum c.ranges.datum) c.requires.datum-most in
    let fits =
    cell-fits c.loop-i.invariant (omega (arith, c.loop-i-test.true)) c.judge_post.result w c.in_ok-post.post (sym c.placed.ensures ∙ c.in_ok-post.was)
    c.requires.z-most
    near
    in
    let post = to_z-of_z w64 c.in_ok-post.post (search rules) in
    subst⁻¹ (SFits w32)
    (to_z-of_z w64 c.height_of-h.result (search rules)
    ∙ (c.height_of-h.ensures ∙ ap (height a.z (to_z w64 (of_z w64 a.datum))) post))
    fits

pub loop-i-preserved : goal.loop-i-preserved
loop-i-preserved c =
    let a = c.args in
    let first = a.byte + 6 * c.loop-i.i in
    let w = judged a.block.now first (said c.judge_post.result) (said c.read_six-read.result) c.read_six-read.ensures (omega (arith, c.requires.byte-from)) c.judge_post.ensures in
    let k = sym c.placed.ensures ∙ c.in_ok-post.was in
    let near : nat_abs (to_z w64 (of_z w64 a.datum)) ≤ 1000000 = rw (to_z-of_z w64 a.datum c.ranges.datum) c.requires.datum-most in
    let fits = cell-fits c.loop-i.invariant (omega (arith, c.loop-i-test.true)) c.judge_post.result w c.in_ok-post.post k c.requires.z-most near in
    let v = c.height_of-h.result in
    let height-is = c.height_of-h.ensures ∙ ap (height a.z (to_z w64 (of_z w64 a.datum))) (to_z-of_z w64 c.in_ok-post.post (search rules)) in
    let back = to_z-of_z w64 v (search rules) in
    let cell : to_z w32 (of_z w32 (to_z w64 (of_z w64 v))) ≡ v =
    ap (λ (x : ℤ). to_z w32 (of_z w32 x)) back ∙ to_z-of_z w32 v (subst⁻¹ (SFits w32) height-is fits)
    in
    rw (cell, c.tally_one-t.ensures ∙ ap (tally_one c.loop-i.t) back)
    (scanning-turn c.loop-i.invariant (omega (arith, c.loop-i-test.true)) c.judge_post.result w c.in_ok-post.post k
    (omega (arith, c.loop-i-test.true, c.loop-i.invariant.many, c.requires.room))
    v
    height-is)
