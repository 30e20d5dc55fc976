-- A profile's first block: scanned, and placed where it has no fault; Judged has why.
use Rattle.std.proofs.Common.{◌∙◌, ap, sym, refl, arith, w64, Ok, Err}
use mir.Facts.{to_z-of_z}
use borrow.Author.Tests.{eqb-false}
use Rattle.kinds.specs.Kinds.{number_of}
use Rattle.kinds.proofs.Numbers.{not-zero}
use Rattle.laws.proofs.Integers.{size_fits}
use Rattle.frame.specs.Frame.{cells_of}
use Rattle.delivery.specs.Deliver.{filling, opened, first_column, placed, heights_here}
use Rattle.posts.specs.Scan.{scan_told}
use Rattle.load.proofs.Judged.{opening-scanned, opening-scannable, same-judging, opening-refused, opening-fine, opening-placeable, by-heights, filled-lies}
use Rattle.load.proofs.Placed.{placed-lies, opened-placing}
use Rattle.load.proofs.blocks.open_block.Goals as goal

pub returns-in-Err : goal.returns-in-Err
returns-in-Err c =
    let a = c.args in
    let b = c.in-Err.b in
    let n = c.min-n.result in
    let sc =
    opening-scanned a.s a.number a.block.now a.head a.scratch.now c.scan_block.new.scratch n c.z_of-z.result (scan_told (Err b)) c.requires
    c.min-n.ensures
    c.z_of-z.ensures
    (ap scan_told (sym c.in-Err.is) ∙ c.scan_block.ensures.0, c.scan_block.ensures.1)
    in
    same-judging
    (opening-refused a.s a.number a.block.now n (number_of b.kind) b.byte a.head c.min-n.ensures sc.fault-is (eqb-false (number_of b.kind) 0 (not-zero b.kind)))
    (record { judged-is = c.refused_for.ensures; lies = tt })

pub place_profile-requires : goal.place_profile-requires
place_profile-requires c =
    let a = c.args in
    let n = c.min-n.result in
    let after = c.scan_block.new.scratch in
    let r = scan_told (Ok c.in-Ok.tally) in
    let sc =
    opening-scanned a.s a.number a.block.now a.head a.scratch.now after n c.z_of-z.result r c.requires c.min-n.ensures c.z_of-z.ensures
    (ap scan_told (sym c.in-Ok.is) ∙ c.scan_block.ensures.0, c.scan_block.ensures.1)
    in
    rw (to_z-of_z {w = w64} (size_fits c.sum_filled-sum.result (omega (arith, c.sum_filled-sum.ensures.1))))
    (opening-placeable a.s a.number a.block.now a.head a.scratch.now n after r c.requires c.min-n.ensures sc refl c.sum_filled-sum.result
    c.sum_filled-sum.ensures.1)

pub returns-in-Ok : goal.returns-in-Ok
returns-in-Ok c =
    let a = c.args in
    let o = c.requires in
    let n = c.min-n.result in
    let after = c.scan_block.new.scratch in
    let r = scan_told (Ok c.in-Ok.tally) in
    let sc =
    opening-scanned a.s a.number a.block.now a.head a.scratch.now after n c.z_of-z.result r o c.min-n.ensures c.z_of-z.ensures
    (ap scan_told (sym c.in-Ok.is) ∙ c.scan_block.ensures.0, c.scan_block.ensures.1)
    in
    let k = opening-scannable a.s a.head n o.ready o.posts-most c.min-n.ensures in
    let sum-is = to_z-of_z {w = w64} (size_fits c.sum_filled-sum.result (omega (arith, c.sum_filled-sum.ensures.1))) in
    let p = opened a.s a.head in
    let to = filling a.s a.number (first_column a.s a.head) p in
    let q =
    opening-placeable a.s a.number a.block.now a.head a.scratch.now n after r o c.min-n.ensures sc refl c.sum_filled-sum.result
    c.sum_filled-sum.ensures.1
    in
    same-judging (opening-fine a.s a.number a.block.now n 0 0 a.head c.min-n.ensures sc.fault-is refl)
    (record {
      judged-is =
          by-heights a.s p 145 n a.block.now a.scratch.now after r sc refl k (λ hs. placed a.s a.number a.head (to hs)) c.place_profile.result
          (sum-is ∙ c.sum_filled-sum.ensures.0)
          c.place_profile.ensures;
      lies =
          placed-lies a.s a.number a.head (to (heights_here a.s p 145 n a.block.now)) (cells_of a.s.header) after
          (λ east north. filled-lies a.s p 145 n a.block.now a.scratch.now after r sc refl k a.number (first_column a.s a.head) (opened-placing a.s a.number a.head n c.in-Ok.tally c.sum_filled-sum.result q east north));
    })
