-- From the last cell on, as ExtremeLaws has it.
use Rattle.std.proofs.Common.{◌∙◌, None, rules}
use Rattle.std.proofs.lemmas.Iterator.Adapters.{YieldsList-from_rev_slice}
use Rattle.std.proofs.lemmas.Iterator.Consumers.{fold_from_yields_List}
use Rattle.columns.specs.ExtremeSteps.{with_cell}
use Rattle.columns.proofs.ExtremeLaws.{from-the-last}
use Rattle.columns.proofs.filled_extremes.Goals as goal

pub returns : goal.returns
returns c =
    let cells = c.args.cells.now in
    fold_from_yields_List _ (λ found cell. with_cell cell found) None c.fold.result c.fold.ensures.ran
    (YieldsList-from_rev_slice cells cc)
    (λ found cell after closure called. search rules)
    ∙ from-the-last cells
