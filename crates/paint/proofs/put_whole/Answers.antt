-- The stretch that is lent comes back with the number in it: FieldLaws has that as one field painted.
use Rattle.std.proofs.Common.{◌≡◌, ◌+◌, ◌-◌, arith}
use Rattle.std.proofs.Math.Facts.{to_z-of_z}
use Rattle.spell.specs.Spell.{integer_text, integer_fits}
use Rattle.written.specs.Painted.Field.{integer}
use Rattle.paint.proofs.FieldLaws.{field-painted, number-over}
use Rattle.paint.proofs.put_whole.Goals as goal

pub returns : goal.returns
returns c =
    let l = c.args.block.now in
    let a = c.args.at in
    let k : a + 6 - a ≡ 6 = omega arith in
    field-painted (integer c.args.value) l a (a + 6 - a) c.requires k _
    (number-over integer_fits integer_text l a 6 (a + 6 - a) c.requires k (to_z-of_z c.ranges.value) c.write_integer.ensures.written)
