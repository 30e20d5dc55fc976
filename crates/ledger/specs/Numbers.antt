-- A session as a row of numbers, which a caller keeps between two deliveries: the header's twenty, the session's eight, the open
-- profile's nine, in the order in which the session names them, and behind them what the session has been given since.
use Rattle.std.specs.Prelude.{List, [], ◌∷◌, ◌++◌, ℕ, ℤ, pos, drop}
use Rattle.frame.specs.declared.Header.{Header}
use Rattle.session.specs.declared.Profile.{Profile}
use Rattle.session.specs.declared.Session.{Session}

abbrev pub numbers_of_header : Header → List ℤ
numbers_of_header h =
    pos h.level ∷ pos h.system ∷ pos h.zone ∷ pos h.ground ∷ pos h.vertical
    ∷ h.sw.x ∷ h.sw.y ∷ h.nw.x ∷ h.nw.y ∷ h.ne.x ∷ h.ne.y ∷ h.se.x ∷ h.se.y
    ∷ h.least ∷ h.greatest ∷ pos h.accuracy ∷ pos h.xstep ∷ pos h.ystep ∷ pos h.zstep ∷ pos h.profiles ∷ []

abbrev pub numbers_of_counts : Session → List ℤ
numbers_of_counts s =
    pos s.taken ∷ pos s.closed ∷ pos s.posts ∷ pos s.filled ∷ s.low ∷ s.high ∷ pos s.column ∷ pos s.finished ∷ []

abbrev pub numbers_of_profile : Profile → List ℤ
numbers_of_profile p =
    pos p.posts ∷ pos p.row ∷ p.datum ∷ p.least ∷ p.greatest ∷ pos p.read ∷ pos p.filled ∷ p.low ∷ p.high ∷ []

-- request 1: the sum; request 2: the family
abbrev pub numbers_added : Session → List ℤ
numbers_added s = s.sum ∷ pos s.family ∷ []

abbrev pub numbers_of : Session → List ℤ
numbers_of s =
    numbers_of_header s.header ++ (numbers_of_counts s ++ (numbers_of_profile s.profile ++ numbers_added s))

-- how many they are: `DEM_SESSION`
abbrev pub session_numbers : ℕ
session_numbers = 39

-- in a lent slice: "Numbers past `DEM_SESSION` are never looked at or changed."
abbrev pub kept : Session → List ℤ → List ℤ
kept s numbers = numbers_of s ++ drop session_numbers numbers
