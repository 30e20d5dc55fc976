use Rattle.std.proofs.Common.{rules}
use Rattle.laws.proofs.Everys.{every-all}
use Rattle.field.specs.Field.{is_text}
use Rattle.field.proofs.all_text.Goals as goal

pub returns : goal.returns
returns c = every-all is_text c.args.s.now c.all.result (search rules)
