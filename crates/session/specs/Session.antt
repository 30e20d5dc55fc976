-- Document 01, "What a delivery answers", and 02, requests 1 and 2: the session, the fresh one, and when a session is sound.
use Rattle.std.specs.Prelude.{pos, nat_abs, ℤ, ℕ, ◌+◌, ◌-◌, ◌%◌, ◌/◌, ◌*◌, Bool, not, cond, true, eqb, leb, ltb}
use Rattle.std.specs.Int.Signed.{le_z}
use Rattle.laws.specs.Family.{known}
use Rattle.laws.specs.Sign.{is_zero, ◌and◌, implies}
use Rattle.field.specs.Field.{in_range, posts_limits}
use Rattle.frame.specs.declared.Header.{Header}
use Rattle.frame.specs.Frame.{rows_of, columns_of}
use Rattle.heading.specs.Heading.{fresh_header, zero_header, is_real_number, family_obeys}
use Rattle.session.specs.declared.Profile.{Profile}
use Rattle.session.specs.declared.Session.{Session}

-- ---- fresh: all fields zero

-- no profile open
abbrev pub no_profile : Profile
no_profile =
    record { posts = 0; row = 0; datum = pos 0; least = pos 0; greatest = pos 0; read = 0; filled = 0; low = pos 0; high = pos 0 }

-- so many blocks taken of a family's sheet, and nothing read of a profile
abbrev pub unread : ℕ → Header → ℕ → Session
unread family h taken =
    record {
      header = h;
      taken = taken;
      closed = 0;
      posts = 0;
      filled = 0;
      low = pos 0;
      high = pos 0;
      column = 0;
      finished = 0;
      profile = no_profile;
      sum = pos 0;
      family = family;
    }

-- 02, request 2: "The caller names the family": whatever it is, nothing else stands in a session that is opened
abbrev pub opened : ℕ → Session
opened family = unread family fresh_header 0

-- of USGS sheets: family 0, so all fields are zero
abbrev pub fresh : Session
fresh = opened 0

abbrev pub zero_profile : Profile → Bool
zero_profile p =
    eqb p.posts 0 and eqb p.row 0 and is_zero p.datum and is_zero p.least and is_zero p.greatest
    and eqb p.read 0 and eqb p.filled 0 and is_zero p.low and is_zero p.high

-- whatever the family
abbrev pub is_fresh : Session → Bool
is_fresh s =
    zero_header s.header and eqb s.taken 0 and eqb s.closed 0 and eqb s.posts 0 and eqb s.filled 0
    and is_zero s.low and is_zero s.high and eqb s.column 0 and eqb s.finished 0 and zero_profile s.profile
    and is_zero s.sum

-- ---- the clauses of "A session is sound exactly if .."

-- a profile is open where it has posts stated
abbrev pub busy : Session → Bool
busy s = not (eqb s.profile.posts 0)

-- "an open profile's numbers": those of a head that record B of the family would take at its place, with 146 + 170k of its m posts read
abbrev pub profile_obeys : ℕ → Header → Profile → Bool
profile_obeys family h p =
    in_range (posts_limits family) p.posts and leb (p.row + p.posts) (rows_of h) and leb (nat_abs p.datum) 1000000
    and is_real_number p.least and is_real_number p.greatest
    and leb 146 p.read and eqb ((p.read - 146) % 170) 0 and ltb p.read p.posts

-- the open profile's posts read and its blocks
abbrev pub open_read : Session → ℕ
open_read s = cond (busy s) s.profile.read 0

abbrev pub open_blocks : Session → ℕ
open_blocks s = cond (busy s) ((s.profile.read - 146) / 170 + 1) 0

-- "where any are filled": the extremes in order, neither further than 4,276,700 from zero
abbrev pub extremes_obey : ℕ → ℤ → ℤ → Bool
extremes_obey filled low high =
    implies (ltb 0 filled) (le_z low high and leb (nat_abs low) 4276700 and leb (nat_abs high) 4276700)

-- 02, request 1: the sum no further from zero than so many filled cells can bring it
abbrev pub sum_obeys : ℕ → ℤ → Bool
sum_obeys filled sum = leb (nat_abs sum) (filled * 4276700)

-- "profiles closed": n at most, and fewer while one is open
abbrev pub closed_obeys : Session → Bool
closed_obeys s =
    leb s.closed s.header.profiles and implies (busy s) (ltb s.closed s.header.profiles)

-- "once a profile has begun": the first column with n in all stays in the sheet
abbrev pub column_obeys : Session → Bool
column_obeys s =
    implies (cond (busy s) true (ltb 0 s.closed)) (leb (s.column + s.header.profiles) (columns_of s.header))

-- "posts lie from ..": 1 to 2048 for a closed profile, and what is read of the open one; no more are filled
abbrev pub posts_obey : Session → Bool
posts_obey s =
    leb (s.closed + open_read s) s.posts and leb s.posts (2048 * s.closed + open_read s)
    and leb s.filled s.posts and implies (busy s) (leb s.profile.filled s.profile.read)

-- "a record C, which needs accuracy 1 and n closed"
abbrev pub finish_obeys : Session → Bool
finish_obeys s =
    leb s.finished 1
    and implies (eqb s.finished 1) (eqb s.header.accuracy 1 and eqb s.closed s.header.profiles)

-- "taken lies from ..": block 0, 1 to 13 for a closed profile, the blocks of the open one, and a record C
abbrev pub taken_obeys : Session → Bool
taken_obeys s =
    leb (1 + s.closed + open_blocks s + s.finished) s.taken
    and leb s.taken (1 + 13 * s.closed + open_blocks s + s.finished)

abbrev pub begun_obeys : Session → Bool
begun_obeys s =
    family_obeys s.family s.header and closed_obeys s
    and implies (busy s) (profile_obeys s.family s.header s.profile) and column_obeys s
    and finish_obeys s and posts_obey s and taken_obeys s and extremes_obey s.filled s.low s.high
    and implies (busy s) (extremes_obey s.profile.filled s.profile.low s.profile.high) and sum_obeys s.filled s.sum

-- 02, request 2: "a family we don't know is unsound"
unfoldable pub sound : Session → Bool
sound s = known s.family and cond (is_fresh s) true (begun_obeys s)

-- "sheet complete": block 0 taken, n closed and, with accuracy 1, record C taken
abbrev pub complete : Session → Bool
complete s =
    not (eqb s.taken 0) and eqb s.closed s.header.profiles
    and cond (eqb s.header.accuracy 1) (eqb s.finished 1) true

-- after block 0: the family, its header, taken 1, all else zero
abbrev pub begun : ℕ → Header → Session
begun family h = unread family h 1
