-- The head, posts and blanks, fields behind fields; or no room for them, and the block as it was.
use Rattle.std.proofs.Common.{◌≡◌, ◌+◌, ◌*◌, ◌++◌, ℕ, ℤ, List, length, sym, arith, w64, to_z, of_z, FitsSigned}
use Rattle.std.proofs.Math.Facts.{to_z-of_z}
use Rattle.written.specs.Painted.{Field, widths}
use Rattle.paint.specs.Fields.{count_fields, real_fields, post_fields, first_after}
use Rattle.paint.specs.FieldSteps.{Paints}
use Rattle.paint.proofs.FieldLaws.{posts-wide, no_room, named, behind, room-filled}
use Rattle.paint.proofs.write_first.Goals as goal

abbrev fields : ℕ → ℕ → ℤ → ℤ → ℤ → ℤ → ℕ → List ℤ → List Field
fields number posts x y least greatest z cells =
    count_fields number posts ++ (real_fields x y least greatest ++ post_fields z cells)

bytes : (number posts : ℕ) (x y least greatest : ℤ) (z : ℕ) (cells : List ℤ)
    → widths (fields number posts x y least greatest z cells) ≡ 144 + 6 * length cells
bytes number posts x y least greatest z cells = omega (arith, posts-wide z cells)

-- the reals by the numbers that were given
given : {before after : List ℕ} {at end : ℕ} {x y least greatest : ℤ} → FitsSigned w64 x → FitsSigned w64 y
    → FitsSigned w64 least → FitsSigned w64 greatest
    → Paints before at
    (real_fields (to_z w64 (of_z w64 x)) (to_z w64 (of_z w64 y)) (to_z w64 (of_z w64 least)) (to_z w64 (of_z w64 greatest)))
    after end
    → Paints before at (real_fields x y least greatest) after end
given x y least greatest p =
    named (λ i. real_fields (to_z-of_z x i) (to_z-of_z y i) (to_z-of_z least i) (to_z-of_z greatest i)) p

pub returns-then-not-has_room : goal.returns-then-not-has_room
unfolding first_after
returns-then-not-has_room c =
    let a = c.args in
    no_room (fields a.number a.posts a.x a.y a.least a.greatest a.z a.cells.now) a.block.now
    (bytes a.number a.posts a.x a.y a.least a.greatest a.z a.cells.now)
    (sym c.if-not-has_room.ensures)

pub returns : goal.returns
unfolding first_after
returns c =
    let a = c.args in
    let r = c.ranges in
    room-filled (fields a.number a.posts a.x a.y a.least a.greatest a.z a.cells.now) a.block.now
    (bytes a.number a.posts a.x a.y a.least a.greatest a.z a.cells.now)
    (sym c.if-not-has_room.ensures)
    (behind
    (behind c.write_counts-x_at.ensures (given r.x r.y r.least r.greatest c.write_reals-posts_at.ensures))
    c.write_posts-end.ensures)
    c.blank_from.ensures
