-- Values placed one behind the other: after i turns the first i of them stand.
use Rattle.std.proofs.Common.{◌≡◌, ◌≤◌, take}
use Rattle.std.proofs.lemmas.List.Edits.{sets}
use Rattle.posts.proofs.put_values.Given as goal

abbrev pub invariant-loop-i : goal.invariant-loop-i
invariant-loop-i l = (l.i ≤ l.n) × (l.grid ≡ sets l.initial.grid l.at (take l.i l.values))
