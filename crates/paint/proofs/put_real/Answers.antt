-- The stretch that is lent comes back with the number in it: FieldLaws has that as one field painted.
use Rattle.std.proofs.Common.{◌≡◌, ◌+◌, ◌-◌, arith}
use Rattle.std.proofs.Math.Facts.{to_z-of_z}
use Rattle.spell.specs.Spell.{real_text, real_fits}
use Rattle.written.specs.Painted.Field.{decimal}
use Rattle.paint.proofs.FieldLaws.{field-painted, number-over}
use Rattle.paint.proofs.put_real.Goals as goal

pub returns : goal.returns
returns c =
    let l = c.args.block.now in
    let a = c.args.at in
    let k : a + 24 - a ≡ 24 = omega arith in
    field-painted (decimal c.args.value) l a (a + 24 - a) c.requires k _
    (number-over (real_fits 15) (real_text 15 68) l a 24 (a + 24 - a) c.requires k (to_z-of_z c.ranges.value) c.write_real.ensures.written)
