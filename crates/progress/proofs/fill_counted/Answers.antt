-- The session with a block more: its sum fits, being near the sum so far.
use Rattle.std.proofs.Common.{rules, ◌≡◌, ◌+ℤ◌, w64, to_z, of_z}
use Rattle.progress.proofs.Counts.{sum_back}
use Rattle.progress.proofs.fill_counted.Goals as goal

pub returns : goal.returns
returns c =
    let a = c.args in
    let sum : to_z w64 (of_z w64 (to_z w64 (of_z w64 a.s.sum) +ℤ to_z w64 (of_z w64 a.sum))) ≡ a.s.sum +ℤ a.sum = sum_back a.s.sum a.sum c.requires.so_far c.requires.more-sum in
    search rules depth 12
