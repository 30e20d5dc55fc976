-- The head read, then its block.
use Rattle.std.proofs.Common.{◌+◌, ◌∙◌, ap, sym}
use Rattle.profile.specs.RecordB.{headed_told}
use Rattle.profile.proofs.RecordLaws.{head-bounds}
use Rattle.load.proofs.blocks.start_profile.Goals as goal

pub open_block-requires : goal.open_block-requires
open_block-requires c =
    let a = c.args in
    let o = c.requires in
    let w = head-bounds a.s.family (a.s.closed + 1) a.block.now c.in-Ok.head (sym c.read_head.ensures ∙ ap headed_told c.in-Ok.is) in
    record {
      ready = o.0.ready;
      idle = o.1.0;
      not_last = o.1.1;
      taken_is = o.0.taken_is;
      long = o.0.long;
      room = o.0.room;
      posts-most = w.1;
      datum-most = w.2;
    }
