use Rattle.std.proofs.Common.{rules}
use Rattle.laws.proofs.Everys.{every-all}
use Rattle.field.specs.Field.{is_word}
use Rattle.field.proofs.all_words.Goals as goal

pub returns : goal.returns
returns c = every-all is_word c.args.s.now c.all.result (search rules)
