-- The numbers are read back from their bits.
use Rattle.std.proofs.Common.{◌∙◌, ◌+◌, ◌≡◌, sym, ap, false, ℤ, to_z, of_z, w64, rules}
use mathlib.Core.Path.{ap₂}
use borrow.Author.Tests.{ne_eqb}
use lib.Dec.{eqb}
use Rattle.laws.specs.Sign.{same_z, lesser, greater}
use Rattle.laws.proofs.Signs.{back}
use Rattle.ground.specs.Posts.{void}
use Rattle.posts.proofs.tally_one.Goals as goal

pub returns : goal.returns
returns c =
    let t = c.args.t in
    let h = back c.args.h (search rules) in
    let low : to_z w64 (of_z w64 c.min.result) ≡ lesser t.low c.args.h =
    back c.min.result (search rules) ∙ (c.min.ensures.value ∙ ap₂ lesser (back t.low (search rules)) h)
    in
    let high : to_z w64 (of_z w64 c.max.result) ≡ greater t.high c.args.h =
    back c.max.result (search rules) ∙ (c.max.ensures.value ∙ ap₂ greater (back t.high (search rules)) h)
    in
    let filled : same_z c.args.h void ≡ false = sym (c.is_void.ensures ∙ ap (λ (v : ℤ). same_z v void) h) ∙ c.if-is_void.false in
    let some : eqb t.filled 0 ≡ false = ne_eqb t.filled 0 c.if-t-eq0.false in
    (λ j. record { filled = t.filled + 1; low = low j; high = high j }) ∙ sym (simp (filled, some))
