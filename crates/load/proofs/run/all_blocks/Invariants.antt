-- After some blocks the run stands where the definition says, none of them was refused, and what is left of the slice is what follows them.
use Rattle.std.proofs.Common.{◌≡◌, true, ◌<◌, ◌≤◌, ◌^◌, length, drop, ◌+◌, ◌*◌}
use Rattle.std.specs.Iterator.Adapters.{enumerate_source, enumerate_count}
use Rattle.std.specs.Slice.Iter.{chunks_exact_rest, chunks_exact_size}
use Rattle.delivery.specs.Deliver.{lend}
use Rattle.runs.specs.Run.{run_to}
use Rattle.load.specs.Steps.{Pacing, standing}
use Rattle.load.proofs.run.all_blocks.Given as goal

abbrev pub invariant-loop-i : goal.invariant-loop-i
invariant-loop-i l =
    let n = enumerate_count l.i-iterator in
    let chunks = enumerate_source l.i-iterator in
    record {
      pacing : Pacing (length l.grid) l.p;
      stands : standing l.p.ran l.grid ≡ run_to l.fn.s l.number l.blocks (lend l.fn.grid) n;
      room : length l.scratch ≡ 170;
      more : l.p.more ≡ true;
      number_fits : l.number + n < 2 ^ 64;
      size : chunks_exact_size chunks ≡ 1024;
      rest : chunks_exact_rest chunks ≡ drop (1024 * n) l.blocks;
      within : 1024 * n ≤ length l.blocks;
    }
