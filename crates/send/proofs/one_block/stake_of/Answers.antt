-- The profile's number, for a sheet has no more columns than 2048; and its place, so many behind each lattice's first multiple.
use Rattle.std.proofs.Common.{◌≡◌, ◌∙◌, ap, ℤ, pos, ◌+ℤ◌, ◌*ℤ◌, w64, to_z, of_z, arith, rules}
use native.Mathlib.Numerals.{add-one}
use Rattle.frame.specs.Frame.{west, east, south, north}
use Rattle.send.proofs.BlockCells.{columns-most}
use Rattle.send.proofs.BlockPlaces.{x-asked, y-asked, first-carried}
use Rattle.send.proofs.one_block.stake_of.Goals as goal

pub overflow_add-result : goal.overflow_add-result
overflow_add-result c = omega (arith, c.requires.1.0, columns-most c.args.h c.requires.0)

pub overflow_cast-result : goal.overflow_cast-result
overflow_cast-result c = omega (arith, c.requires.1.0, columns-most c.args.h c.requires.0)

pub place_at-requires : goal.place_at-requires
place_at-requires c =
    let h = c.args.h in
    let a = x-asked h c.requires.0 c.args.p.column c.requires.1.0 in
    rw (first-carried (west h) (east h) c.column_lattice.result c.column_lattice.ensures a) a

pub place_at-requires-2 : goal.place_at-requires-2
place_at-requires-2 c =
    let h = c.args.h in
    let a = y-asked h c.requires.0 c.args.p.row c.requires.1.1 in
    rw (first-carried (south h) (north h) c.row_lattice.result c.row_lattice.ensures a) a

pub returns : goal.returns
returns c =
    let h = c.args.h in
    let p = c.args.p in
    let a = x-asked h c.requires.0 p.column c.requires.1.0 in
    let b = y-asked h c.requires.0 p.row c.requires.1.1 in
    let x : to_z w64 (of_z w64 c.place_at.result) ≡ c.place_at.result = search rules in
    let y : to_z w64 (of_z w64 c.place_at-2.result) ≡ c.place_at-2.result = search rules in
    λ i. record {
      number = add-one p.column i;
      x =
          (x
          ∙ c.place_at.ensures
          ∙ ap (λ (z : ℤ). (z +ℤ pos p.column) *ℤ pos h.xstep)
          (first-carried (west h) (east h) c.column_lattice.result c.column_lattice.ensures a)) i;
      y =
          (y
          ∙ c.place_at-2.ensures
          ∙ ap (λ (z : ℤ). (z +ℤ pos p.row) *ℤ pos h.ystep)
          (first-carried (south h) (north h) c.row_lattice.result c.row_lattice.ensures b)) i;
      z = c.z_of.ensures i;
    }
