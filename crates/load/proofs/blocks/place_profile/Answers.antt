-- Column, row, then the cells.
use Rattle.std.proofs.Common.{◌≡◌, ◌∙◌, ap, sym, arith, w64}
use mir.Val.{SFits}
use mir.Facts.{to_z-of_z}
use Rattle.frame.specs.Frame.{column_place_of, row_place_of}
use Rattle.delivery.specs.Deliver.{column_fits, row_fits, opened, opened_at, column_from, first_column, filling}
use Rattle.gate.specs.Gate.{judged_of}
use Rattle.load.proofs.Placed.{place-column, place-row, place-good, opened-filling, opened-placing}
use Rattle.load.proofs.blocks.place_profile.Goals as goal

pub returns-then-not-column_fits : goal.returns-then-not-column_fits
returns-then-not-column_fits c hs e f g =
    let a = c.args in
    let fits : SFits w64 a.head.x = record { sfits = omega arith } in
    let place = c.column_of-c.ensures ∙ ap (column_place_of a.s.header) (to_z-of_z fits) in
    let gone = ap (column_fits a.s) (sym place) ∙ sym c.column_fits.ensures ∙ c.if-not-column_fits.true in
    c.refused_for.ensures ∙ ap (judged_of a.s) (place-column a.s a.number a.head _ gone)

pub returns-then-not-row_fits : goal.returns-then-not-row_fits
returns-then-not-row_fits c hs e f g =
    let a = c.args in
    let x-fits : SFits w64 a.head.x = record { sfits = omega arith } in
    let y-fits : SFits w64 a.head.y = record { sfits = omega arith } in
    let column = c.column_of-c.ensures ∙ ap (column_place_of a.s.header) (to_z-of_z x-fits) in
    let row = c.row_of-w.ensures ∙ ap (row_place_of a.s.header) (to_z-of_z y-fits) in
    let east = ap (column_fits a.s) (sym column) ∙ sym c.column_fits.ensures ∙ c.if-not-column_fits.false in
    let gone = ap (row_fits a.s a.head.posts) (sym row) ∙ sym c.row_fits.ensures ∙ c.if-not-row_fits.true in
    c.refused_for-then-not-row_fits.ensures ∙ ap (judged_of a.s) (place-row a.s a.number a.head _ east gone)

pub fill_step-requires : goal.fill_step-requires
fill_step-requires c =
    let a = c.args in
    let x-fits : SFits w64 a.head.x = record { sfits = omega arith } in
    let y-fits : SFits w64 a.head.y = record { sfits = omega arith } in
    let column = c.column_of-c.ensures ∙ ap (column_place_of a.s.header) (to_z-of_z x-fits) in
    let row = c.row_of-w.ensures ∙ ap (row_place_of a.s.header) (to_z-of_z y-fits) in
    let east = ap (column_fits a.s) (sym column) ∙ sym c.column_fits.ensures ∙ c.if-not-column_fits.false in
    let north = ap (row_fits a.s a.head.posts) (sym row) ∙ sym c.row_fits.ensures ∙ c.if-not-row_fits.false in
    let profile-is : c.open_profile-p.result ≡ opened a.s a.head = c.open_profile-p.ensures ∙ ap (opened_at a.head) row in
    let from_is : c.first_column-column.result ≡ first_column a.s a.head = c.first_column-column.ensures ∙ ap (column_from a.s) column in
    let sum-is = to_z-of_z {w = w64} c.ranges.sum in
    rw (profile-is, from_is, sum-is) (
      opened-filling a.s a.number a.head a.n a.u a.sum c.requires,
      opened-placing a.s a.number a.head a.n a.u a.sum c.requires east north,
    )

pub returns : goal.returns
returns c hs e f g =
    let a = c.args in
    let x-fits : SFits w64 a.head.x = record { sfits = omega arith } in
    let y-fits : SFits w64 a.head.y = record { sfits = omega arith } in
    let column = c.column_of-c.ensures ∙ ap (column_place_of a.s.header) (to_z-of_z x-fits) in
    let row = c.row_of-w.ensures ∙ ap (row_place_of a.s.header) (to_z-of_z y-fits) in
    let east = ap (column_fits a.s) (sym column) ∙ sym c.column_fits.ensures ∙ c.if-not-column_fits.false in
    let north = ap (row_fits a.s a.head.posts) (sym row) ∙ sym c.row_fits.ensures ∙ c.if-not-row_fits.false in
    let profile-is : c.open_profile-p.result ≡ opened a.s a.head = c.open_profile-p.ensures ∙ ap (opened_at a.head) row in
    let from_is : c.first_column-column.result ≡ first_column a.s a.head = c.first_column-column.ensures ∙ ap (column_from a.s) column in
    c.fill_step.ensures hs e f (to_z-of_z {w = w64} c.ranges.sum ∙ g)
    ∙ (λ j. judged_of a.s (filling a.s a.number (from_is j) (profile-is j) hs))
    ∙ ap (judged_of a.s) (place-good a.s a.number a.head _ east north)
