-- A further block: scanned, and filled where it has no fault; Judged has why.
use Rattle.std.proofs.Common.{◌∙◌, ap, sym, refl, arith, w64, Ok, Err}
use mir.Facts.{to_z-of_z}
use borrow.Author.Tests.{eqb-false}
use Rattle.kinds.specs.Kinds.{number_of}
use Rattle.kinds.proofs.Numbers.{not-zero}
use Rattle.laws.proofs.Integers.{size_fits}
use Rattle.delivery.specs.Deliver.{filling}
use Rattle.posts.specs.Scan.{scan_told}
use Rattle.load.proofs.Judged.{further-scanned, further-scannable, further-placing, same-judging, further-refused, further-fine, scanned-filling, by-heights, filled-lies}
use Rattle.load.proofs.blocks.further_block.Goals as goal

pub overflow_sub-p : goal.overflow_sub-p
overflow_sub-p c = omega (arith, (c.requires.ready.profile-is c.requires.busy-is).read_below)

pub returns-in-Err : goal.returns-in-Err
returns-in-Err c =
    let a = c.args in
    let b = c.in-Err.b in
    let n = c.min-n.result in
    let sc =
    further-scanned a.s a.number a.block.now a.scratch.now c.scan_block.new.scratch n c.z_of-z.result (scan_told (Err b)) c.requires c.min-n.ensures
    c.z_of-z.ensures
    (ap scan_told (sym c.in-Err.is) ∙ c.scan_block.ensures.0, c.scan_block.ensures.1)
    in
    same-judging
    (further-refused a.s a.number a.block.now n (number_of b.kind) b.byte c.min-n.ensures sc.fault-is (eqb-false (number_of b.kind) 0 (not-zero b.kind)))
    (record { judged-is = c.refused_for.ensures; lies = tt })

pub fill_step-requires : goal.fill_step-requires
fill_step-requires c =
    let a = c.args in
    let o = c.requires in
    let n = c.min-n.result in
    let f = o.ready.profile-is o.busy-is in
    let r = scan_told (Ok c.in-Ok.tally) in
    let sc =
    further-scanned a.s a.number a.block.now a.scratch.now c.scan_block.new.scratch n c.z_of-z.result r o c.min-n.ensures c.z_of-z.ensures
    (ap scan_told (sym c.in-Ok.is) ∙ c.scan_block.ensures.0, c.scan_block.ensures.1)
    in
    let k = further-scannable a.s n o.ready f c.min-n.ensures in
    rw (to_z-of_z {w = w64} (size_fits c.sum_filled-sum.result (omega (arith, c.sum_filled-sum.ensures.1)))) (
      scanned-filling a.s a.s.profile 1 n a.block.now a.scratch.now c.scan_block.new.scratch r sc refl k c.sum_filled-sum.ensures.1,
      further-placing a.s a.number o.taken_is (omega (arith, o.ready.blocks-most)) f,
    )

pub returns-in-Ok : goal.returns-in-Ok
returns-in-Ok c =
    let a = c.args in
    let o = c.requires in
    let n = c.min-n.result in
    let f = o.ready.profile-is o.busy-is in
    let after = c.scan_block.new.scratch in
    let r = scan_told (Ok c.in-Ok.tally) in
    let sc =
    further-scanned a.s a.number a.block.now a.scratch.now after n c.z_of-z.result r o c.min-n.ensures c.z_of-z.ensures
    (ap scan_told (sym c.in-Ok.is) ∙ c.scan_block.ensures.0, c.scan_block.ensures.1)
    in
    let k = further-scannable a.s n o.ready f c.min-n.ensures in
    let sum-is = to_z-of_z {w = w64} (size_fits c.sum_filled-sum.result (omega (arith, c.sum_filled-sum.ensures.1))) in
    same-judging (further-fine a.s a.number a.block.now n 0 0 c.min-n.ensures sc.fault-is refl)
    (record {
      judged-is =
          by-heights a.s a.s.profile 1 n a.block.now a.scratch.now after r sc refl k (filling a.s a.number a.s.column a.s.profile) c.fill_step.result
          (sum-is ∙ c.sum_filled-sum.ensures.0)
          c.fill_step.ensures;
      lies =
          filled-lies a.s a.s.profile 1 n a.block.now a.scratch.now after r sc refl k a.number a.s.column
          (further-placing a.s a.number o.taken_is (omega (arith, o.ready.blocks-most)) f);
    })
