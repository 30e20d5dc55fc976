-- How the code keeps a session: counts that fit 64 bits with a sign as they are, greater ones as the greatest. That this is the session's own row,
-- `numbers_of`, where it is sound: row_is (proof Keeping).
use Rattle.std.specs.Prelude.{ℕ, min, cond, List, [], ◌∷◌, ◌++◌, leb, ℤ, pos, length, drop}
use Rattle.frame.specs.declared.Header.{Header}
use Rattle.session.specs.declared.Profile.{Profile}
use Rattle.session.specs.declared.Session.{Session}
use Rattle.ledger.specs.Numbers.{session_numbers}

abbrev pub with_sign : ℕ → ℤ
with_sign n = pos (min n 9223372036854775807)

abbrev pub header_row : Header → List ℤ
header_row h =
    with_sign h.level ∷ with_sign h.system ∷ with_sign h.zone ∷ with_sign h.ground ∷ with_sign h.vertical
    ∷ h.sw.x ∷ h.sw.y ∷ h.nw.x ∷ h.nw.y ∷ h.ne.x ∷ h.ne.y ∷ h.se.x ∷ h.se.y
    ∷ h.least ∷ h.greatest ∷ with_sign h.accuracy ∷ with_sign h.xstep ∷ with_sign h.ystep ∷ with_sign h.zstep ∷ with_sign h.profiles ∷ []

abbrev pub count_row : Session → List ℤ
count_row s =
    with_sign s.taken ∷ with_sign s.closed ∷ with_sign s.posts ∷ with_sign s.filled ∷ s.low ∷ s.high ∷ with_sign s.column ∷ with_sign s.finished ∷ []

abbrev pub profile_row : Profile → List ℤ
profile_row p =
    with_sign p.posts ∷ with_sign p.row ∷ p.datum ∷ p.least ∷ p.greatest ∷ with_sign p.read ∷ with_sign p.filled ∷ p.low ∷ p.high ∷ []

abbrev pub added_row : Session → List ℤ
added_row s = s.sum ∷ with_sign s.family ∷ []

abbrev pub row_of : Session → List ℤ
row_of s = header_row s.header ++ (count_row s ++ (profile_row s.profile ++ added_row s))

-- a session's row at the front of a slice; one with too few numbers stays as it was
abbrev pub row_kept : Session → List ℤ → List ℤ
row_kept s numbers = cond (leb session_numbers (length numbers)) (row_of s ++ drop session_numbers numbers) numbers
