-- The clauses as the functions answer them, some at a time, and what bounds the counts before they are added up.
use Rattle.std.specs.Prelude.{Bool, ◌-◌, ◌%◌, ◌≤◌, leb, ltb, eqb}
use Rattle.laws.specs.Sign.{◌and◌, implies}
use Rattle.heading.specs.Heading.{family_obeys}
use Rattle.session.specs.declared.Profile.{Profile}
use Rattle.session.specs.declared.Session.{Session}
use Rattle.session.specs.Session.{busy, closed_obeys, profile_obeys, column_obeys, finish_obeys, posts_obey, taken_obeys, extremes_obey, sum_obeys, open_read}

abbrev pub read_obeys : Profile → Bool
read_obeys p = leb 146 p.read and eqb ((p.read - 146) % 170) 0 and ltb p.read p.posts

-- the clauses up to record C's, and those that add up
abbrev pub places_obey : Session → Bool
places_obey s =
    family_obeys s.family s.header and closed_obeys s
    and implies (busy s) (profile_obeys s.family s.header s.profile) and column_obeys s and finish_obeys s

abbrev pub counts_obey : Session → Bool
counts_obey s =
    posts_obey s and taken_obeys s and extremes_obey s.filled s.low s.high
    and implies (busy s) (extremes_obey s.profile.filled s.profile.low s.profile.high) and sum_obeys s.filled s.sum

pub record Bounded (s : Session) : Type 0 where
  pub closed : s.closed ≤ 2048
  pub read : open_read s ≤ 2048
  pub finished : s.finished ≤ 1
