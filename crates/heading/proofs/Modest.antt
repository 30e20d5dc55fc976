-- The numbers of a good header that have no sign are small.
use mathlib.Core.Bool.{Bool, true, false, cond}
use mathlib.Core.Path.{◌≡◌}
use Prim.Native.Nat.{ℕ, ◌≤◌, ◌*◌, ◌^◌}
use native.Mathlib.Omega.{arith}
use borrow.Author.Tests.{leb-true}
use lib.Dec.{leb, eqb}
use Rattle.laws.proofs.Tests.{and_first, and_second}
use Rattle.field.specs.Field.{in_range, limits}
use Rattle.field.specs.declared.Limits.{Limits}
use Rattle.frame.specs.declared.Header.{Header}
use Rattle.heading.specs.Heading.{header_obeys}
use Rattle.heading.proofs.HeadingFacts.{Framed, family-facts}

most : (l : Limits) (v : ℕ) → in_range l v ≡ true → v ≤ l.greatest
most l v t = leb-true v l.greatest (and_first (leb v l.greatest) _ (and_second (leb l.least v) _ t))

zone-most : (a b : Bool) (v : ℕ)
    → in_range (cond a (limits 0 0 1 9) (cond b (limits 1 60 1 9) (limits 1 9999 1 9))) v ≡ true → v ≤ 9999
zone-most true b v t = omega (arith, most (limits 0 0 1 9) v t)
zone-most false true v t = omega (arith, most (limits 1 60 1 9) v t)
zone-most false false v t = omega (arith, most (limits 1 9999 1 9) v t)

ground-most : (a b : Bool) (v : ℕ)
    → in_range (cond a (limits 3 3 1 9) (cond b (limits 2 2 1 9) (limits 1 2 1 9))) v ≡ true → v ≤ 9999
ground-most true b v t = omega (arith, most (limits 3 3 1 9) v t)
ground-most false true v t = omega (arith, most (limits 2 2 1 9) v t)
ground-most false false v t = omega (arith, most (limits 1 2 1 9) v t)

pub record Modest (h : Header) : Type 0 where
  pub level : h.level ≤ 9999
  pub system : h.system ≤ 9999
  pub zone : h.zone ≤ 9999
  pub ground : h.ground ≤ 9999
  pub vertical : h.vertical ≤ 9999
  pub xstep : h.xstep ≤ 9999 * 10 ^ 9
  pub ystep : h.ystep ≤ 9999 * 10 ^ 9
  pub zstep : h.zstep ≤ 10 ^ 9

pub framed-modest : (h : Header) → Framed h → Modest h
framed-modest h f =
    record {
      level = omega (arith, f.level.greatest);
      system = omega (arith, f.system);
      zone = zone-most (eqb h.system 0) (eqb h.system 1) h.zone f.zone;
      ground = ground-most (eqb h.system 0) (eqb h.system 1) h.ground f.ground;
      vertical = omega (arith, f.vertical.greatest);
      xstep = f.xstep.greatest;
      ystep = f.ystep.greatest;
      zstep = omega (arith, f.zstep.greatest, f.zstep.step);
    }

pub modest : (h : Header) → header_obeys h ≡ true → Modest h
modest h good = framed-modest h (family-facts 0 h good)
