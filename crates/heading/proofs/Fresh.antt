-- A header whose fields are all zero is the fresh one, and equality with zero is the test for zero.
use mathlib.Core.Bool.{Bool, true, false, ◌&&◌}
use mathlib.Core.Path.{◌≡◌, refl, sym, ap}
use borrow.Author.Tests.{eqb-true}
use Rattle.std.proofs.Common.{int_eq, zero, suc, rules}
use Rattle.std.proofs.Math.Dec.{eqb-suc-zero}
use lib.IntN.{ℤ, pos, negsuc}
use lib.Dec.{eqb}
use Rattle.laws.specs.Sign.{is_zero, ◌and◌}
use Rattle.laws.proofs.Tests.{clash, split}
use Rattle.frame.specs.declared.Corner.{Corner}
use Rattle.frame.specs.declared.Header.{Header}
use Rattle.heading.specs.Heading.{fresh_corner, zero_corner, fresh_header, zero_header}

-- tests joined by a derived `==`
pub joined : (a b : Bool) → (a && b) ≡ (a and b)
joined true b = refl
joined false b = refl

pub equals-zero : (z : ℤ) → int_eq z (pos 0) ≡ is_zero z
equals-zero (pos zero) = refl
equals-zero (pos (suc n)) = rw eqb-suc-zero (search rules)
equals-zero (negsuc n) = refl

pub is-zero : (z : ℤ) → is_zero z ≡ true → z ≡ pos 0
is-zero (pos n) t = ap pos (eqb-true n 0 t)
is-zero (negsuc n) t = clash (sym t)

corner-is : (c : Corner) → zero_corner c ≡ true → c ≡ fresh_corner
corner-is c t =
    let a = split (is_zero c.x) _ t in
    λ j. record { x = is-zero c.x a.0 j; y = is-zero c.y a.1 j }

pub header_is : (h : Header) → zero_header h ≡ true → h ≡ fresh_header
header_is h t =
    let level = split (eqb h.level 0) _ t in
    let system = split (eqb h.system 0) _ level.1 in
    let zone = split (eqb h.zone 0) _ system.1 in
    let ground = split (eqb h.ground 0) _ zone.1 in
    let vertical = split (eqb h.vertical 0) _ ground.1 in
    let sw = split (zero_corner h.sw) _ vertical.1 in
    let nw = split (zero_corner h.nw) _ sw.1 in
    let ne = split (zero_corner h.ne) _ nw.1 in
    let se = split (zero_corner h.se) _ ne.1 in
    let least = split (is_zero h.least) _ se.1 in
    let greatest = split (is_zero h.greatest) _ least.1 in
    let accuracy = split (eqb h.accuracy 0) _ greatest.1 in
    let xstep = split (eqb h.xstep 0) _ accuracy.1 in
    let ystep = split (eqb h.ystep 0) _ xstep.1 in
    let zstep = split (eqb h.zstep 0) _ ystep.1 in
    λ j.
    record {
      level = eqb-true h.level 0 level.0 j;
      system = eqb-true h.system 0 system.0 j;
      zone = eqb-true h.zone 0 zone.0 j;
      ground = eqb-true h.ground 0 ground.0 j;
      vertical = eqb-true h.vertical 0 vertical.0 j;
      sw = corner-is h.sw sw.0 j;
      nw = corner-is h.nw nw.0 j;
      ne = corner-is h.ne ne.0 j;
      se = corner-is h.se se.0 j;
      least = is-zero h.least least.0 j;
      greatest = is-zero h.greatest greatest.0 j;
      accuracy = eqb-true h.accuracy 0 accuracy.0 j;
      xstep = eqb-true h.xstep 0 xstep.0 j;
      ystep = eqb-true h.ystep 0 ystep.0 j;
      zstep = eqb-true h.zstep 0 zstep.0 j;
      profiles = eqb-true h.profiles 0 zstep.1 j;
    }
