-- The column's blocks one behind the other; WholeText has one more.
use Rattle.std.proofs.Common.{◌≡◌, ◌∙◌, ◌+◌, ◌*◌, ◌≤◌, ◌<◌, ◌-◌, ℕ, ℤ, List, ap, length, take, drop, length-drop, arith}
use Rattle.std.proofs.Math.Seq.{length-take-le}
use Rattle.frame.specs.declared.Header.{Header}
use Rattle.ground.specs.Posts.{blocks_for}
use Rattle.written.specs.Cells.{column_cells, cells_sent}
use Rattle.written.specs.Blocks.{profile_block}
use Rattle.columns.specs.declared.Column.{Column}
use Rattle.census.specs.Census.{profile_of, column_by}
use Rattle.census.proofs.CensusLaws.{sheet-column}
use Rattle.send.specs.SendSteps.{ProfileAsked}
use Rattle.send.specs.WholeSteps.{ColumnAsked, blocks_text}
use Rattle.send.proofs.WholeText.{block-put, block_more, named}
use Rattle.send.proofs.whole_sheet.write_column.Goals as goal

module _ {h : Header} {grid : List ℤ} {column at : ℕ} {before : List ℕ} (a : ColumnAsked h grid column at before) (found : Column)
    (e : found ≡ column_by h grid column) {blocks : ℕ} (f : blocks ≡ blocks_for found.posts) where
  -- what the column was found to be is what is sent of it
  found-is : found ≡ profile_of (column_cells h grid column)
  found-is = e ∙ sheet-column h grid a.sheet.obeys a.sheet.room column a.inside

  blocks-are : blocks ≡ blocks_for (length (cells_sent h grid column))
  blocks-are = f ∙ ap (λ (x : Column). blocks_for x.posts) found-is

  -- one block more has room
  room : (out : List ℕ) {k from : ℕ} → from ≡ at + 1024 * k → length out ≡ length before → k < blocks → from + 1024 ≤ length out
  room out place kept more = omega (arith, place, kept, more, blocks-are, a.room)

  asked : {k : ℕ} (block : List ℕ) → k < blocks → length block ≡ 1024 → ProfileAsked h grid column found.row found.posts k block
  asked block more long =
      record {
        sheet = a.sheet;
        inside = a.inside;
        row_is = ap (λ (x : Column). x.row) found-is;
        posts-are = ap (λ (x : Column). x.posts) found-is;
        within = omega (arith, more, f);
        long = long;
      }

pub write_profile_block-requires : goal.write_profile_block-requires
write_profile_block-requires c =
    let v = c.loop-k.invariant in
    let x = c.column_of-found in
    let out = c.loop-k.out in
    let from = c.loop-k.from in
    let n = from + 1024 - from in
    let e : n ≡ 1024 = omega arith in
    let r = room c.requires x.result x.ensures c.blocks_for-k-end.ensures out v.0 v.1.kept c.loop-k-test.true in
    asked c.requires x.result x.ensures c.blocks_for-k-end.ensures (take n (drop from out)) c.loop-k-test.true
    (length-take-le n (drop from out) (omega (arith, e, r, length-drop from out)) ∙ e)

pub loop-k-preserved : goal.loop-k-preserved
loop-k-preserved c =
    let v = c.loop-k.invariant in
    let x = c.column_of-found in
    let from = c.loop-k.from in
    let e : from + 1024 - from ≡ 1024 = omega arith in
    let r = room c.requires x.result x.ensures c.blocks_for-k-end.ensures c.loop-k.out v.0 v.1.kept c.loop-k-test.true in
    let put =
    block-put c.loop-k.out (profile_block c.args.h c.args.grid.now c.args.column c.loop-k.k) from (from + 1024 - from) r e
    c.write_profile_block.new.block c.write_profile_block.ensures c.write_profile_block.auto.block
    in (omega (arith, v.0), block_more c.args.h c.args.grid.now c.args.column c.loop-k.k v.1 put)

pub returns : goal.returns
returns c =
    let v = c.loop-k.invariant in
    let x = c.column_of-found in
    let e : c.loop-k.k ≡ c.blocks_for-k-end.result = omega arith in
    let b = e ∙ blocks-are c.requires x.result x.ensures c.blocks_for-k-end.ensures in (
      named (ap (blocks_text c.args.h c.args.grid.now c.args.column) b) v.1,
      v.0 ∙ ap (λ (n : ℕ). c.args.at + 1024 * n) b,
    )
