-- The session with a block more, by the number of its posts, their tally and their sum; and the counts that are gone on from.
use Rattle.std.specs.Prelude.{Bool, ℕ, ◌+◌, ◌≤◌, leb, ℤ, nat_abs, ◌+ℤ◌}
use Rattle.laws.specs.Sign.{◌and◌}
use Rattle.session.specs.declared.Session.{Session}
use Rattle.session.specs.declared.Profile.{Profile}
use Rattle.ground.specs.declared.Tally.{Tally}
use Rattle.ground.specs.Posts.{merged}
use Rattle.delivery.specs.Deliver.{profile_tally, sheet_tally}

-- the open profile with n posts more, of tally u; the session with them, and with their sum
abbrev pub read_with : Profile → ℕ → Tally → Profile
read_with p n u =
    record {
      posts = p.posts;
      row = p.row;
      datum = p.datum;
      least = p.least;
      greatest = p.greatest;
      read = p.read + n;
      filled = (merged (profile_tally p) u).filled;
      low = (merged (profile_tally p) u).low;
      high = (merged (profile_tally p) u).high;
    }

abbrev pub filled_with : Session → ℕ → Profile → ℕ → Tally → ℤ → Session
filled_with s column p n u sum =
    record {
      header = s.header;
      taken = s.taken + 1;
      closed = s.closed;
      posts = s.posts + n;
      filled = (merged (sheet_tally s) u).filled;
      low = (merged (sheet_tally s) u).low;
      high = (merged (sheet_tally s) u).high;
      column = column;
      finished = s.finished;
      profile = read_with p n u;
      sum = s.sum +ℤ sum;
      family = s.family;
    }

-- 2 ^ 32, far above what any sheet counts
abbrev pub small : ℕ → Bool
small n = leb n 4294967296

-- 10 ^ 18, far above what any sheet sums to
abbrev pub near : ℤ → Bool
near z = leb (nat_abs z) 1000000000000000000

abbrev pub countable : Session → Profile → ℕ → Tally → ℤ → Bool
countable s p n u sum =
    (small s.taken and small s.posts and small s.filled) and (small p.read and small p.filled)
    and (small n and small u.filled) and near s.sum and near sum

-- the same as facts, for private functions
abbrev pub Few : ℕ → Type 0
Few n = n ≤ 4294967296

abbrev pub Near : ℤ → Type 0
Near z = nat_abs z ≤ 1000000000000000000

pub record Counted (s : Session) (p : Profile) (n : ℕ) (u : Tally) (sum : ℤ) : Type 0 where
  pub taken : Few s.taken
  pub posts : Few s.posts
  pub filled : Few s.filled
  pub read : Few p.read
  pub profile-filled : Few p.filled
  pub more : Few n
  pub more-filled : Few u.filled
  pub so_far : Near s.sum
  pub more-sum : Near sum
