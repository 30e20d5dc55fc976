-- What a header that obeys record A is known by: `header-facts` of a USGS sheet, `family-facts` of one of either family.
use mathlib.Core.Path.{◌≡◌, refl, sym, ◌∙◌, ap}
use mathlib.Core.List.{List, [], ◌∷◌}
use Prim.Native.Nat.{ℕ, ◌%◌, ◌≤◌, ◌/◌, ◌^◌, ◌*◌}
use mathlib.Core.Bool.{true, Bool, false, cond}
use borrow.Author.Tests.{leb-true, eqb-true}
use lib.Dec.{leb, eqb}
use native.Mathlib.Omega.{arith}
use Rattle.laws.specs.Sign.{◌and◌}
use Rattle.laws.specs.Family.{is_canadian}
use Rattle.laws.proofs.Tests.{split, clash, by-test}
use Rattle.laws.proofs.Tables.{all}
use Rattle.field.specs.Field.{in_range, limits, fault}
use Rattle.field.specs.declared.Limits.{Limits}
use Rattle.frame.specs.Frame.{corners_in_order, columns_of, rows_of, whole_fault, one_to2048, pairs, listed, canadian_fault}
use Rattle.frame.specs.declared.Header.{Header}
use Rattle.heading.specs.Heading.{Name, limits_of, height_limits, billion, zone_limits, ground_limits, reals_obey, fields_obey, header_obeys, canadian_fields, family_obeys}

-- limits that go by no other field
abbrev pub level_limits : Limits
level_limits = limits_of Name.level 0 0

abbrev pub pattern_limits : Limits
pattern_limits = limits_of Name.pattern 0 0

abbrev pub system_limits : Limits
system_limits = limits_of Name.system 0 0

abbrev pub vertical_limits : Limits
vertical_limits = limits_of Name.vertical 0 0

abbrev pub sides_limits : Limits
sides_limits = limits_of Name.sides 0 0

abbrev pub angle_limits : Limits
angle_limits = limits_of Name.angle 0 0

abbrev pub accuracy_limits : Limits
accuracy_limits = limits_of Name.accuracy 0 0

abbrev pub spacing_limits : Limits
spacing_limits = limits_of Name.spacing 0 0

abbrev pub rank_limits : Limits
rank_limits = limits_of Name.rank 0 0

abbrev pub profiles_limits : Limits
profiles_limits = limits_of Name.profiles 0 0

-- a number in its limits
pub record Ranged (l : Limits) (v : ℕ) : Type 0 where
  pub least : l.least ≤ v
  pub greatest : v ≤ l.greatest
  pub step : v % l.step ≡ 0

ranged : (l : Limits) (v : ℕ) → in_range l v ≡ true → Ranged l v
ranged l v t =
    let a = split (leb l.least v) _ t in
    let b = split (leb v l.greatest) _ a.1 in
    record {
      least = leb-true l.least v a.0;
      greatest = leb-true v l.greatest b.0;
      step = eqb-true (v % l.step) 0 b.1;
    }

-- the z spacing in hundredths of a unit
pub record Height (z : ℕ) : Type 0 where
  pub least : 1 ≤ z / 10 ^ 7
  pub greatest : z / 10 ^ 7 ≤ 100
  pub step : z % 10 ^ 7 ≡ 0

height : (v z : ℕ) → in_range (height_limits v) z ≡ true → Height z
height v z t = go (eqb v 1) refl
  where
    go : (b : Bool) → eqb v 1 ≡ b → Height z
    go true e =
        let r = ranged (limits (10 ^ 8) billion (10 ^ 8) 7) z (rw e at t) in
        record { least = omega arith; greatest = omega arith; step = omega arith }
    go false e =
        let r = ranged (limits (10 ^ 7) billion (10 ^ 7) 7) z (rw e at t) in
        record { least = omega arith; greatest = omega arith; step = omega arith }

pub record Heading (h : Header) : Type 0 where
  pub level : Ranged level_limits h.level
  pub system : Ranged system_limits h.system
  pub zone : in_range (zone_limits h.system) h.zone ≡ true
  pub ground : in_range (ground_limits h.system) h.ground ≡ true
  pub vertical : Ranged vertical_limits h.vertical
  pub accuracy : Ranged accuracy_limits h.accuracy
  pub xstep : Ranged spacing_limits h.xstep
  pub ystep : Ranged spacing_limits h.ystep
  pub zstep : Height h.zstep
  pub profiles : Ranged profiles_limits h.profiles
  pub reals : reals_obey h ≡ true
  pub whole : (whole_fault h).kind ≡ 0
  pub corners : corners_in_order h ≡ true
  pub columns : (1 ≤ columns_of h) × (columns_of h ≤ 2048)
  pub rows : (1 ≤ rows_of h) × (rows_of h ≤ 2048)
  pub room : h.profiles ≤ columns_of h

whole-tests : (a b c : Bool)
    → (cond a (cond b (cond c (fault 0 0) (fault 10 859)) (fault 10 817)) (fault 10 547)).kind ≡ 0
    → (a ≡ true) × (b ≡ true) × (c ≡ true)
whole-tests true true true z = (refl, refl, refl)
whole-tests true true false z = absurd (omega arith)
whole-tests true false c z = absurd (omega arith)
whole-tests false b c z = absurd (omega arith)

one-to : (n : ℕ) → one_to2048 n ≡ true → (1 ≤ n) × (n ≤ 2048)
one-to n t = let a = split (leb 1 n) _ t in (leb-true 1 n a.0, leb-true n 2048 a.1)

pub header-facts : (h : Header) → header_obeys h ≡ true → Heading h
header-facts h t =
    let fields = split (fields_obey h) _ t in
    let reals = split (reals_obey h) _ fields.1 in
    let whole = eqb-true (whole_fault h).kind 0 reals.1 in
    let w =
    whole-tests (corners_in_order h) (one_to2048 (columns_of h) and one_to2048 (rows_of h)) (leb h.profiles (columns_of h)) whole
    in
    let counts = split (one_to2048 (columns_of h)) _ w.1 in
    let level = split (in_range level_limits h.level) _ fields.0 in
    let system = split (in_range system_limits h.system) _ level.1 in
    let zone = split (in_range (zone_limits h.system) h.zone) _ system.1 in
    let ground = split (in_range (ground_limits h.system) h.ground) _ zone.1 in
    let vertical = split (in_range vertical_limits h.vertical) _ ground.1 in
    let accuracy = split (in_range accuracy_limits h.accuracy) _ vertical.1 in
    let x = split (in_range spacing_limits h.xstep) _ accuracy.1 in
    let y = split (in_range spacing_limits h.ystep) _ x.1 in
    let z = split (in_range (height_limits h.vertical) h.zstep) _ y.1 in
    record {
      level = ranged level_limits h.level level.0;
      system = ranged system_limits h.system system.0;
      zone = zone.0;
      ground = ground.0;
      vertical = ranged vertical_limits h.vertical vertical.0;
      accuracy = ranged accuracy_limits h.accuracy accuracy.0;
      xstep = ranged spacing_limits h.xstep x.0;
      ystep = ranged spacing_limits h.ystep y.0;
      zstep = height h.vertical h.zstep z.0;
      profiles = ranged profiles_limits h.profiles z.1;
      reals = reals.0;
      whole = whole;
      corners = w.0;
      columns = one-to (columns_of h) counts.0;
      rows = one-to (rows_of h) counts.1;
      room = leb-true h.profiles (columns_of h) w.2;
    }

-- ---- either family

-- an x or y spacing of either family: a multiple of a quarter of a unit
pub record Stepped (v : ℕ) : Type 0 where
  pub least : 250000000 ≤ v
  pub greatest : v ≤ 9999 * 10 ^ 9
  pub step : v % 250000000 ≡ 0

pub record Framed (h : Header) : Type 0 where
  pub level : Ranged level_limits h.level
  pub system : Ranged system_limits h.system
  pub zone : in_range (zone_limits h.system) h.zone ≡ true
  pub ground : in_range (ground_limits h.system) h.ground ≡ true
  pub vertical : Ranged vertical_limits h.vertical
  pub accuracy : Ranged accuracy_limits h.accuracy
  pub xstep : Stepped h.xstep
  pub ystep : Stepped h.ystep
  pub zstep : Height h.zstep
  pub profiles : Ranged profiles_limits h.profiles
  pub reals : reals_obey h ≡ true
  pub corners : corners_in_order h ≡ true
  pub columns : (1 ≤ columns_of h) × (columns_of h ≤ 2048)
  pub rows : (1 ≤ rows_of h) × (rows_of h ≤ 2048)
  pub room : h.profiles ≤ columns_of h

whole-stepped : (v : ℕ) → Ranged spacing_limits v → Stepped v
whole-stepped v r = record { least = omega (arith, r.least); greatest = r.greatest; step = omega (arith, r.step) }

usgs-framed : (h : Header) → header_obeys h ≡ true → Framed h
usgs-framed h t =
    let f = header-facts h t in
    record {
      level = f.level;
      system = f.system;
      zone = f.zone;
      ground = f.ground;
      vertical = f.vertical;
      accuracy = f.accuracy;
      xstep = whole-stepped h.xstep f.xstep;
      ystep = whole-stepped h.ystep f.ystep;
      zstep = f.zstep;
      profiles = f.profiles;
      reals = f.reals;
      corners = f.corners;
      columns = f.columns;
      rows = f.rows;
      room = f.room;
    }

-- what is listed is one of the list, and all listed spacings are such multiples
abbrev is_stepped : ℕ → Bool
is_stepped v = leb 250000000 v and leb v (9999 * 10 ^ 9) and eqb (v % 250000000) 0

stepped : (v : ℕ) → is_stepped v ≡ true → Stepped v
stepped v t =
    let a = split (leb 250000000 v) _ t in
    let b = split (leb v (9999 * 10 ^ 9)) _ a.1 in
    record {
      least = leb-true 250000000 v a.0;
      greatest = leb-true v (9999 * 10 ^ 9) b.0;
      step = eqb-true (v % 250000000) 0 b.1;
    }

abbrev both_stepped : ℕ × ℕ → Bool
both_stepped p = is_stepped p.0 and is_stepped p.1

listed-stepped : (x y : ℕ) (ps : List (ℕ × ℕ)) → all both_stepped ps ≡ true → listed x y ps ≡ true → Stepped x × Stepped y
listed-stepped x y [] s t = clash (sym t)
listed-stepped x y (p ∷ ps) s t =
    let here = split (both_stepped p) (all both_stepped ps) s in
    let both = split (is_stepped p.0) (is_stepped p.1) here.0 in
    let more = listed-stepped x y ps here.1 in
    by-test (eqb x p.0 and eqb y p.1)
    (λ e.
    let k = split (eqb x p.0) (eqb y p.1) e in (
      stepped x (ap is_stepped (eqb-true x p.0 k.0) ∙ both.0),
      stepped y (ap is_stepped (eqb-true y p.1 k.1) ∙ both.1),
    ))
    (λ e. more (rw e at t))

canadian-tests : (a b c : Bool)
    → (cond a (cond b (cond c (fault 0 0) (fault 10 817)) (fault 10 547)) (fault 7 817)).kind ≡ 0
    → (a ≡ true) × (b ≡ true) × (c ≡ true)
canadian-tests true true true z = (refl, refl, refl)
canadian-tests true true false z = absurd (omega arith)
canadian-tests true false c z = absurd (omega arith)
canadian-tests false b c z = absurd (omega arith)

-- one number, and nothing else, stands in such limits
one_only : (n kind v : ℕ) → in_range (limits n n 1 kind) v ≡ true → v ≡ n
one_only n kind v t =
    let r = ranged (limits n n 1 kind) v t in
    omega (arith, r.least, r.greatest)

in-limits : (l : Limits) (n v : ℕ) → v ≡ n → in_range l n ≡ true → in_range l v ≡ true
in-limits l n v e t = rw e t

canadian-framed : (h : Header) → (canadian_fields h and reals_obey h and eqb (canadian_fault h).kind 0) ≡ true → Framed h
canadian-framed h t =
    let fields = split (canadian_fields h) _ t in
    let reals = split (reals_obey h) _ fields.1 in
    let w =
    canadian-tests (listed h.xstep h.ystep pairs) (corners_in_order h) (eqb (columns_of h) 1201 and eqb (rows_of h) 1201)
    (eqb-true (canadian_fault h).kind 0 reals.1)
    in
    let counts = split (eqb (columns_of h) 1201) _ w.2 in
    let columns : columns_of h ≡ 1201 = eqb-true (columns_of h) 1201 counts.0 in
    let rows : rows_of h ≡ 1201 = eqb-true (rows_of h) 1201 counts.1 in
    let step = listed-stepped h.xstep h.ystep pairs refl w.0 in
    let level = split (in_range (limits 1 1 1 9) h.level) _ fields.0 in
    let system = split (in_range (limits 0 0 1 9) h.system) _ level.1 in
    let zone = split (in_range (limits 0 0 1 9) h.zone) _ system.1 in
    let ground = split (in_range (ground_limits h.system) h.ground) _ zone.1 in
    let vertical = split (in_range (limits 2 2 1 9) h.vertical) _ ground.1 in
    let accuracy = split (in_range (limits 0 0 1 9) h.accuracy) _ vertical.1 in
    let z = split (in_range (height_limits h.vertical) h.zstep) _ accuracy.1 in
    let profiles : h.profiles ≡ 1201 = one_only 1201 7 h.profiles z.1 in
    record {
      level = ranged level_limits h.level (in-limits level_limits 1 h.level (one_only 1 9 h.level level.0) refl);
      system = ranged system_limits h.system (in-limits system_limits 0 h.system (one_only 0 9 h.system system.0) refl);
      zone = rw (one_only 0 9 h.system system.0, one_only 0 9 h.zone zone.0);
      ground = ground.0;
      vertical = ranged vertical_limits h.vertical (in-limits vertical_limits 2 h.vertical (one_only 2 9 h.vertical vertical.0) refl);
      accuracy =
          ranged accuracy_limits h.accuracy (in-limits accuracy_limits 0 h.accuracy (one_only 0 9 h.accuracy accuracy.0) refl);
      xstep = step.0;
      ystep = step.1;
      zstep = height h.vertical h.zstep z.0;
      profiles = ranged profiles_limits h.profiles (in-limits profiles_limits 1201 h.profiles profiles refl);
      reals = reals.0;
      corners = w.1;
      columns = (omega (arith, columns), omega (arith, columns));
      rows = (omega (arith, rows), omega (arith, rows));
      room = omega (arith, columns, profiles);
    }

pub family-facts : (family : ℕ) (h : Header) → family_obeys family h ≡ true → Framed h
family-facts family h t =
    by-test (is_canadian family) (λ e. canadian-framed h (rw e at t)) (λ e. usgs-framed h (rw e at t))
