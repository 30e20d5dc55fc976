-- Past the blanks: the invariant is that what is left to pass is what there was to pass at the start.
use Rattle.std.proofs.Common.{◌≡◌, ◌≤◌, length, drop}
use Rattle.number.specs.Bytes.{is_blank, past_all}
use Rattle.number.proofs.walk.past_blanks.Given as goal

abbrev pub invariant-loop-i : goal.invariant-loop-i
invariant-loop-i l = record {
  onward : l.fn.from ≤ l.i;
  inside : l.i ≤ length l.s;
  left : past_all is_blank (drop l.i l.s) ≡ past_all is_blank (drop l.fn.from l.s);
}
