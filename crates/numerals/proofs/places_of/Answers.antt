use Rattle.std.proofs.Common.{◌≡◌, arith, sym, ◌∙◌}
use Rattle.std.proofs.lemmas.Grind.{common_steps}
use Rattle.numerals.proofs.Counts.{places-stop, places-go, places-end}
use Rattle.numerals.proofs.places_of.Goals as goal

pub returns-then-power_of-n : goal.returns-then-power_of-n
returns-then-power_of-n c = grind (arith, common_steps, places-stop)

pub loop-i-preserved : goal.loop-i-preserved
loop-i-preserved c = grind (arith, common_steps, places-go)

pub returns : goal.returns
returns c =
    let e : c.loop-i.i ≡ 0 = omega arith in
    sym (c.loop-i.invariant ∙ rw e (places-end c.args.n))
