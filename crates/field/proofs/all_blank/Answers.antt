use Rattle.std.proofs.Common.{rules}
use Rattle.laws.proofs.Everys.{every-all}
use Rattle.number.specs.Bytes.{is_blank}
use Rattle.field.proofs.all_blank.Goals as goal

pub returns : goal.returns
returns c = every-all is_blank c.args.s.now c.all.result (search rules)
