-- The length of the part that is the name.
use Rattle.std.proofs.Common.{length, ap, ◌∙◌}
use Rattle.label.proofs.Names.{name-length}
use Rattle.desk.proofs.dem_name_length.Goals as goal

pub returns : goal.returns
returns c = ap length c.name.ensures ∙ name-length c.args.block.now
