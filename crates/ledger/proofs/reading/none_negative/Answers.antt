-- Each number is asked.
use Rattle.std.proofs.Common.{rules}
use Rattle.ledger.proofs.Counts.{none-all}
use Rattle.ledger.proofs.reading.none_negative.Goals as goal

pub returns : goal.returns
returns c = none-all c.args.numbers.now c.all.result (search rules)
