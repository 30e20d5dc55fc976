-- A whole multiple is the first that is not below it, and lies no farther from zero than the place does.
use Rattle.std.proofs.Common.{arith, ◌%◌, ◌-ℤ◌, ap, ap₂, ◌∙◌, sym, true}
use lib.IntN.{nat_abs}
use mir.Syntax.{w64}
use mir.Val.{SFits}
use mir.Facts.{to_z-of_z}
use Rattle.laws.proofs.Signs.{read_back}
use Rattle.laws.proofs.Integers.{size_fits}
use Rattle.lattice.specs.Lattice.{first_multiple, multiple_of, place_within}
use Rattle.lattice.proofs.Cases.{real_read, real-small, place-cases, place-holds}
use Rattle.lattice.proofs.Kept.{kept, size_kept, less-small}
use Rattle.lattice.proofs.Multiples.{first-small, first-whole}
use Rattle.lattice.proofs.locate.Goals as goal

pub overflow_sub-first_multiple : goal.overflow_sub-first_multiple
overflow_sub-first_multiple c =
    let z = c.args.z in
    let s = c.args.spacing in
    let l = c.args.l in
    let first : SFits w64 l.first = omega arith in
    let found = read_back (λ v. first_multiple v s) c.ranges.z (record { sfits = c.first_multiple.type_inv }) c.first_multiple.ensures in
    let rz = real-small z (real_read c.ranges.z c.is_real.ensures c.if-not-is_real.false) in
    rw (found, to_z-of_z first)
    (size_fits (first_multiple z s -ℤ l.first)
    (less-small (first_multiple z s) l.first (omega (arith, first-small s c.if-spacing-lt1.false z, rz))
    (real-small l.first (real_read first c.is_real-else-not-is_real.ensures c.if-not-is_real-2.false))))

pub returns : goal.returns
returns c =
    let l = c.args.l in
    let z = c.args.z in
    let s = c.args.spacing in
    let p = c.if-spacing-lt1.false in
    let first : SFits w64 l.first = omega arith in
    let rz = real_read c.ranges.z c.is_real.ensures c.if-not-is_real.false in
    let rf = real_read first c.is_real-else-not-is_real.ensures c.if-not-is_real-2.false in
    let found = read_back (λ v. first_multiple v s) c.ranges.z (record { sfits = c.first_multiple.type_inv }) c.first_multiple.ensures in
    let rest = sym (ap (λ n. n % s) (c.unsigned_abs.ensures.value ∙ ap nat_abs (to_z-of_z c.ranges.z))) ∙ c.if-unsigned_abs-spacing-ne0.false in
    let whole = first-whole s p z rest in
    let small = less-small (multiple_of z s) l.first (omega (arith, ap nat_abs whole, first-small s p z, real-small z rz)) (real-small l.first rf) in
    c.place_within.ensures
    ∙ ap₂ (λ k f. place_within (kept (k -ℤ f)) l.count) (found ∙ whole) (to_z-of_z first)
    ∙ ap (λ d. place_within d l.count) (size_kept (multiple_of z s -ℤ l.first) small)
    ∙ sym (place-cases l s z true (place-holds l s z rz rf p rest))
