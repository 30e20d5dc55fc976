-- Posts from the block's first byte, then blanks; or no room for them, and the block as it was.
use Rattle.std.proofs.Common.{◌≡◌, ◌+◌, ◌*◌, ℕ, ℤ, List, length, sym, arith}
use Rattle.written.specs.Painted.{widths}
use Rattle.paint.specs.Fields.{post_fields, further_after}
use Rattle.paint.proofs.FieldLaws.{posts-wide, no_room, room-filled}
use Rattle.paint.proofs.write_further.Goals as goal

bytes : (z : ℕ) (cells : List ℤ) → widths (post_fields z cells) ≡ 0 + 6 * length cells
bytes z cells = omega (arith, posts-wide z cells)

pub returns-then-not-has_room : goal.returns-then-not-has_room
unfolding further_after
returns-then-not-has_room c =
    let a = c.args in
    no_room (post_fields a.z a.cells.now) a.block.now (bytes a.z a.cells.now) (sym c.if-not-has_room.ensures)

pub returns : goal.returns
unfolding further_after
returns c =
    let a = c.args in
    room-filled (post_fields a.z a.cells.now) a.block.now (bytes a.z a.cells.now) (sym c.if-not-has_room.ensures)
    c.write_posts-end.ensures
    c.blank_from.ensures
