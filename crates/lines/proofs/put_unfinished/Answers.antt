-- What was put in the scratch is the whole text, and that is what is given.
use Rattle.lines.specs.Lines.{unfinished_text}
use Rattle.lines.proofs.Putting.{given-front, given-of}
use Rattle.lines.proofs.put_unfinished.Goals as goal

pub returns : goal.returns
unfolding unfinished_text
returns c = given-of c.args.out.now c.put_last-end.ensures.puts.text (given-front c.put_word.ensures)
