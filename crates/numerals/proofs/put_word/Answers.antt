-- The library's law of a copy carries a turn.
use Rattle.std.proofs.Common.{◌+◌, ◌<◌, length, get_or, set, arith, add-one, sym, ap, ◌∙◌}
use Rattle.std.proofs.Math.Seq.{paste, paste-suc}
use Rattle.numerals.proofs.put_word.Goals as goal

pub loop-i-preserved : goal.loop-i-preserved
loop-i-preserved c =
    let l = c.loop-i in
    let a = c.args in
    let h : l.i < length a.word.now = omega arith in
    let r : a.at + l.i < length a.text.now = omega arith in (
      l.invariant.0,
      omega arith,
      ap (λ x. set x (a.at + l.i) (get_or a.word.now l.i 0)) l.invariant.2
          ∙ paste-suc a.text.now a.at a.word.now l.i 0 r h
          ∙ ap (λ k. paste a.text.now a.at a.word.now k) (sym (add-one l.i)),
    )
