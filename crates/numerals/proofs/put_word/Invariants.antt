-- A word copied: up to i it stands from `at` on, and behind it what was lent.
use Rattle.std.proofs.Common.{◌≡◌, ◌+◌, ◌≤◌, length}
use Rattle.std.proofs.Math.Seq.{paste}
use Rattle.numerals.proofs.put_word.Given as goal

abbrev pub invariant-loop-i : goal.invariant-loop-i
invariant-loop-i l = (l.at + length l.word ≤ length l.fn.text) × (l.i ≤ length l.word) × (l.text ≡ paste l.fn.text l.at l.word l.i)
