-- Limits that go by another field have one kind.
use mathlib.Core.Path.{refl}
use Prim.Native.Nat.{ℕ}
use lib.Dec.{eqb}
use Rattle.laws.specs.Family.{is_canadian}
use Rattle.laws.proofs.Tests.{either}
use Rattle.field.proofs.Ranges.{HasKind}
use Rattle.heading.specs.Heading.{Name, limits_of, canadian_limits, family_limits, zone_limits, ground_limits, height_limits}
use Rattle.heading.specs.Heading.Name.{level, pattern, system, zone, ground, vertical, sides, angle, accuracy, spacing, height, rank, profiles, minutes, seconds}

pub zone-kind : (s : ℕ) → HasKind 9 (zone_limits s)
zone-kind s = either (HasKind 9) (eqb s 0) refl (either (HasKind 9) (eqb s 1) refl refl)

pub ground-kind : (s : ℕ) → HasKind 9 (ground_limits s)
ground-kind s = either (HasKind 9) (eqb s 0) refl (either (HasKind 9) (eqb s 1) refl refl)

pub height-kind : (v : ℕ) → HasKind 7 (height_limits v)
height-kind v = either (HasKind 7) (eqb v 1) refl refl

-- one kind for each name, whatever it goes by
pub limits-kind : (name : Name) (s v : ℕ) → HasKind (limits_of name 0 0).kind (limits_of name s v)
limits-kind level s v = refl
limits-kind pattern s v = refl
limits-kind system s v = refl
limits-kind zone s v = zone-kind s
limits-kind ground s v = ground-kind s
limits-kind vertical s v = refl
limits-kind sides s v = refl
limits-kind angle s v = refl
limits-kind accuracy s v = refl
limits-kind spacing s v = refl
limits-kind height s v = height-kind v
limits-kind rank s v = refl
limits-kind profiles s v = refl
limits-kind minutes s v = refl
limits-kind seconds s v = refl

canadian-kind : (name : Name) (s v : ℕ) → HasKind (limits_of name 0 0).kind (canadian_limits name s v)
canadian-kind level s v = refl
canadian-kind pattern s v = refl
canadian-kind system s v = refl
canadian-kind zone s v = refl
canadian-kind ground s v = ground-kind s
canadian-kind vertical s v = refl
canadian-kind sides s v = refl
canadian-kind angle s v = refl
canadian-kind accuracy s v = refl
canadian-kind spacing s v = refl
canadian-kind height s v = height-kind v
canadian-kind rank s v = refl
canadian-kind profiles s v = refl
canadian-kind minutes s v = refl
canadian-kind seconds s v = refl

-- and one for either family
pub family-kind : (family : ℕ) (name : Name) (s v : ℕ) → HasKind (limits_of name 0 0).kind (family_limits family name s v)
family-kind family name s v =
    either (HasKind (limits_of name 0 0).kind) (is_canadian family) (canadian-kind name s v) (limits-kind name s v)
