-- Document 01, "Record A": its limits by name, the header that a block says, and what a header must obey.
use Rattle.std.specs.Prelude.{Bool, cond, List, [], ◌∷◌, map, ℕ, ◌+◌, ◌*◌, ◌-◌, ◌^◌, ltb, eqb, ℤ, pos, nat_abs, get_or}
use Rattle.laws.specs.Digits.{short}
use Rattle.laws.specs.Family.{is_canadian}
use Rattle.laws.specs.Sign.{is_zero, not_negative, ◌and◌}
use Rattle.number.specs.Real.{real}
use Rattle.field.specs.Field.{stretch, whole_at, real_at, limits, in_range}
use Rattle.field.specs.declared.Limits.{Limits}
use Rattle.frame.specs.Frame.{whole_fault, canadian_fault}
use Rattle.frame.specs.declared.Corner.{Corner}
use Rattle.frame.specs.declared.Header.{Header}
use Rattle.heading.specs.declared.Name.{Name as declared-Name}
use Rattle.heading.specs.declared.Name.TheVariants.{Level, Pattern, System, Zone, Ground, Vertical, Sides, Angle, Accuracy, Spacing, Height, Rank, Profiles, Minutes, Seconds}

-- ---- the limits of record A's numbers, each once: least, greatest, step, and the kind of the refusal; reals in billionths

abbrev pub billion : ℕ
billion = 10 ^ 9

-- the zone by the system: "0; 1-60; 1-9999 respectively"
abbrev pub zone_limits : ℕ → Limits
zone_limits system = cond (eqb system 0) (limits 0 0 1 9) (cond (eqb system 1) (limits 1 60 1 9) (limits 1 9999 1 9))

-- the ground unit by the system: "geographic 3, UTM 2, state plane 1 or 2"
abbrev pub ground_limits : ℕ → Limits
ground_limits system = cond (eqb system 0) (limits 3 3 1 9) (cond (eqb system 1) (limits 2 2 1 9) (limits 1 2 1 9))

-- the z spacing by the vertical unit: in tenths of a foot, in hundredths of a metre, up to 1 (7)
abbrev pub height_limits : ℕ → Limits
height_limits vertical = cond (eqb vertical 1) (limits (10 ^ 8) billion (10 ^ 8) 7) (limits (10 ^ 7) billion (10 ^ 7) 7)

pub data Name : Type 0 where
  level : Name
  pattern : Name
  system : Name
  zone : Name
  ground : Name
  vertical : Name
  sides : Name
  angle : Name
  accuracy : Name
  spacing : Name
  height : Name
  rank : Name
  profiles : Name
  minutes : Name
  seconds : Name

-- by the system and the vertical unit; x and y spacing whole, 1-9999; minutes and seconds (02, request 2) 0 or more, below 60
abbrev pub limits_of : Name → ℕ → ℕ → Limits
limits_of level s v = limits 1 3 1 9
limits_of pattern s v = limits 1 1 1 9
limits_of system s v = limits 0 2 1 9
limits_of zone s v = zone_limits s
limits_of ground s v = ground_limits s
limits_of vertical s v = limits 1 2 1 9
limits_of sides s v = limits 4 4 1 9
limits_of angle s v = limits 0 0 1 9
limits_of accuracy s v = limits 0 1 1 9
limits_of spacing s v = limits billion (9999 * billion) billion 7
limits_of height s v = height_limits v
limits_of rank s v = limits 1 1 1 9
limits_of profiles s v = limits 1 2048 1 7
limits_of minutes s v = limits 0 59 1 7
limits_of seconds s v = limits 0 (60 * billion - 1) 1 7

-- 02, request 2: a Canadian sheet has level 1, system 0, zone 0, metres, accuracy 0 (9) and 1,201 profiles (7); all else as in any
abbrev pub canadian_limits : Name → ℕ → ℕ → Limits
canadian_limits level s v = limits 1 1 1 9
canadian_limits pattern s v = limits_of pattern s v
canadian_limits system s v = limits 0 0 1 9
canadian_limits zone s v = limits 0 0 1 9
canadian_limits ground s v = limits_of ground s v
canadian_limits vertical s v = limits 2 2 1 9
canadian_limits sides s v = limits_of sides s v
canadian_limits angle s v = limits_of angle s v
canadian_limits accuracy s v = limits 0 0 1 9
canadian_limits spacing s v = limits_of spacing s v
canadian_limits height s v = limits_of height s v
canadian_limits rank s v = limits_of rank s v
canadian_limits profiles s v = limits 1201 1201 1 7
canadian_limits minutes s v = limits_of minutes s v
canadian_limits seconds s v = limits_of seconds s v

abbrev pub family_limits : ℕ → Name → ℕ → ℕ → Limits
family_limits family name s v = cond (is_canadian family) (canadian_limits name s v) (limits_of name s v)

-- the name that the code has
abbrev pub named : declared-Name → Name
named Level = level
named Pattern = pattern
named System = system
named Zone = zone
named Ground = ground
named Vertical = vertical
named Sides = sides
named Angle = angle
named Accuracy = accuracy
named Spacing = spacing
named Height = height
named Rank = rank
named Profiles = profiles
named Minutes = minutes
named Seconds = seconds

-- by its number, from 0, in this order; what is past them has limits that nothing keeps but 0
abbrev pub names : List Name
names =
    level ∷ pattern ∷ system ∷ zone ∷ ground ∷ vertical ∷ sides ∷ angle ∷ accuracy ∷ spacing ∷ height ∷ rank ∷ profiles
    ∷ minutes ∷ seconds ∷ []

abbrev pub limits_at : ℕ → ℕ → ℕ → Limits
limits_at n s v = get_or (map (λ name. limits_of name s v) names) n (limits 0 0 0 0)

abbrev pub family_limits_at : ℕ → ℕ → ℕ → ℕ → Limits
family_limits_at family n s v = get_or (map (λ name. family_limits family name s v) names) n (limits 0 0 0 0)

-- ---- the header of a block

-- "each x then y"
abbrev pub corner_at : ℕ → List ℕ → Corner
corner_at first block = record { x = real_at first block; y = real_at (first + 24) block }

abbrev pub spacing_at : ℕ → List ℕ → ℕ
spacing_at first block = not_negative (real (stretch first 12 block)).value

unfoldable pub header_of : List ℕ → Header
header_of block =
    record {
      level = whole_at 145 block;
      system = whole_at 157 block;
      zone = whole_at 163 block;
      ground = whole_at 529 block;
      vertical = whole_at 535 block;
      sw = corner_at 547 block;
      nw = corner_at 595 block;
      ne = corner_at 643 block;
      se = corner_at 691 block;
      least = real_at 739 block;
      greatest = real_at 763 block;
      accuracy = whole_at 811 block;
      xstep = spacing_at 817 block;
      ystep = spacing_at 829 block;
      zstep = spacing_at 841 block;
      profiles = whole_at 859 block;
    }

-- ---- what a header obeys

-- a number of the header stands in the limits of its name
abbrev pub stands : Name → Header → ℕ → Bool
stands name h v = in_range (limits_of name h.system h.vertical) v

abbrev pub fields_obey : Header → Bool
fields_obey h =
    stands level h h.level and stands system h h.system and stands zone h h.zone and stands ground h h.ground
    and stands vertical h h.vertical and stands accuracy h h.accuracy and stands spacing h h.xstep
    and stands spacing h h.ystep and stands height h h.zstep and stands profiles h h.profiles

-- what a real field can hold
abbrev pub is_real_number : ℤ → Bool
is_real_number z = ltb (nat_abs z) (10 ^ 18) and short 18 15 (nat_abs z)

abbrev pub corner_real : Corner → Bool
corner_real c = is_real_number c.x and is_real_number c.y

abbrev pub reals_obey : Header → Bool
reals_obey h =
    corner_real h.sw and corner_real h.nw and corner_real h.ne and corner_real h.se
    and is_real_number h.least and is_real_number h.greatest

-- and the rules over the whole record
abbrev pub header_obeys : Header → Bool
header_obeys h = fields_obey h and reals_obey h and eqb (whole_fault h).kind 0

-- a Canadian header: its x and y spacing are held to the listed pairs by the rules over the whole record
abbrev pub stands_here : Name → Header → ℕ → Bool
stands_here name h v = in_range (canadian_limits name h.system h.vertical) v

abbrev pub canadian_fields : Header → Bool
canadian_fields h =
    stands_here level h h.level and stands_here system h h.system and stands_here zone h h.zone
    and stands_here ground h h.ground and stands_here vertical h h.vertical and stands_here accuracy h h.accuracy
    and stands_here height h h.zstep and stands_here profiles h h.profiles

-- a header of either family
abbrev pub family_obeys : ℕ → Header → Bool
family_obeys family h =
    cond (is_canadian family) (canadian_fields h and reals_obey h and eqb (canadian_fault h).kind 0) (header_obeys h)

-- ---- fresh: all fields zero

abbrev pub fresh_corner : Corner
fresh_corner = record { x = pos 0; y = pos 0 }

abbrev pub fresh_header : Header
fresh_header =
    record {
      level = 0;
      system = 0;
      zone = 0;
      ground = 0;
      vertical = 0;
      sw = fresh_corner;
      nw = fresh_corner;
      ne = fresh_corner;
      se = fresh_corner;
      least = pos 0;
      greatest = pos 0;
      accuracy = 0;
      xstep = 0;
      ystep = 0;
      zstep = 0;
      profiles = 0;
    }

abbrev pub zero_corner : Corner → Bool
zero_corner c = is_zero c.x and is_zero c.y

abbrev pub zero_header : Header → Bool
zero_header h =
    eqb h.level 0 and eqb h.system 0 and eqb h.zone 0 and eqb h.ground 0 and eqb h.vertical 0
    and zero_corner h.sw and zero_corner h.nw and zero_corner h.ne and zero_corner h.se
    and is_zero h.least and is_zero h.greatest and eqb h.accuracy 0
    and eqb h.xstep 0 and eqb h.ystep 0 and eqb h.zstep 0 and eqb h.profiles 0
