-- Block 0 in the buffer's first stretch, the columns behind it: WholeText has the whole buffer.
use Rattle.std.proofs.Common.{◌≡◌, ◌∙◌, ◌≤◌, ◌++◌, ℕ, ℤ, List, refl, sym, length, take, drop, arith}
use Rattle.std.proofs.Math.Seq.{length-take-le}
use Rattle.numerals.specs.Pieces.{Puts}
use Rattle.frame.specs.declared.Header.{Header}
use Rattle.frame.specs.Frame.{columns_of, rows_of}
use Rattle.title.specs.Title.{title_after}
use Rattle.written.specs.Blocks.{block_zero}
use Rattle.written.proofs.SheetSent.{start-from}
use Rattle.send.specs.WholeSteps.{BlocksAsked}
use Rattle.send.proofs.BlockCells.{title-block}
use Rattle.send.proofs.WholeText.{block-put, whole-put}
use Rattle.send.proofs.whole_sheet.write_blocks.Goals as goal

module _ {template : List ℕ} {h : Header} {grid : List ℤ} {out : List ℕ} (a : BlocksAsked template h grid out) where
  room : 1024 ≤ length out
  room = omega (arith, a.room, start-from (rows_of h) grid (columns_of h))

  -- what is lent has become block 0
  zero-put : (block : List ℕ) → block ≡ title_after template h grid (take 1024 out) → length block ≡ length (take 1024 out)
      → Puts out 0 (block_zero template h grid) (block ++ drop 1024 out) 1024
  zero-put block e long =
      let is = e ∙ title-block (record { sheet = a.sheet; template-long = a.template-long; long = length-take-le 1024 out room }) in
      block-put out (block_zero template h grid) 0 1024 room refl block is long

pub slice_bounds-write_title-end : goal.slice_bounds-write_title-end
slice_bounds-write_title-end c = room c.requires

pub slice_bounds-write_title-end-2 : goal.slice_bounds-write_title-end-2
slice_bounds-write_title-end-2 c = sym (length-take-le 1024 c.args.out.now (room c.requires))

pub write_columns-requires : goal.write_columns-requires
write_columns-requires c =
    let z = c.write_title in
    record { sheet = c.requires.sheet; room = (zero-put c.requires z.new.block z.ensures z.auto.block).kept ∙ c.requires.room }

pub returns : goal.returns
returns c =
    let z = c.write_title in
    whole-put c.args.h c.args.grid.now c.args.template.now (zero-put c.requires z.new.block z.ensures z.auto.block) c.write_columns.ensures
    refl
