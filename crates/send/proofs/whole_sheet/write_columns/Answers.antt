-- Column by column, behind block 0; WholeText has one more.
use Rattle.std.proofs.Common.{ℕ, ◌≡◌, ◌∙◌, ◌<◌, suc, ap, subst, length, arith}
use Rattle.numerals.specs.Pieces.{Puts}
use Rattle.numerals.proofs.Pieces.{put-none}
use Rattle.frame.specs.Frame.{rows_of, columns_of}
use Rattle.written.proofs.SheetSent.{first-start, start-next, start-order}
use Rattle.send.specs.WholeSteps.{columns_text}
use Rattle.send.proofs.WholeText.{column-more, next_start, named, all_there}
use Rattle.send.proofs.whole_sheet.write_columns.Goals as goal

pub loop-c-init : goal.loop-c-init
loop-c-init c = (omega (arith, first-start (rows_of c.args.h) c.args.grid.now), put-none _ _)

pub write_column-at-requires : goal.write_column-at-requires
write_column-at-requires c =
    let v = c.loop-c.invariant in
    let h = c.args.h in
    let grid = c.args.grid.now in
    let n = c.loop-c.c in
    let inside : n < columns_of h = omega (arith, c.loop-c-test.true, c.columns-c-end.ensures) in
    record {
      sheet = c.requires.sheet;
      inside = inside;
      room =
          omega
          (arith, v.0, v.1.kept, c.requires.room, start-next (rows_of h) grid n, start-order (rows_of h) grid (suc n) (columns_of h) inside);
    }

pub loop-c-preserved : goal.loop-c-preserved
loop-c-preserved c =
    let v = c.loop-c.invariant in
    let h = c.args.h in
    let grid = c.args.grid.now in
    let n = c.loop-c.c in (
      next_start h grid n c.loop-c.at c.write_column-at.result v.0 c.write_column-at.ensures.1,
      column-more h grid n v.1 c.write_column-at.ensures.0,
    )

pub returns : goal.returns
returns c =
    let v = c.loop-c.invariant in
    let h = c.args.h in
    let grid = c.args.grid.now in
    let out = c.args.out.now in
    let e : c.loop-c.c ≡ c.columns-c-end.result = omega arith in
    let n = e ∙ c.columns-c-end.ensures in
    subst (λ (end : ℕ). Puts out 1024 (columns_text h grid (columns_of h)) c.loop-c.out end)
    (all_there h grid c.loop-c.c c.loop-c.at (length out) v.0 n c.requires.room)
    (named (ap (columns_text h grid) n) v.1)
