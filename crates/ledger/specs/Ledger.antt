-- The session that numbers say, and what is asked of it. Numbers has the other way round; that the two are inverse is said-back and
-- numbers-back (proof Inverse).
use Rattle.std.specs.Prelude.{ℕ, Bool, cond, false, true, List, [], ◌∷◌, leb, ℤ, pos, length, take, drop, get_or}
use Rattle.std.specs.Int.Signed.{lt_z}
use Rattle.laws.specs.Sign.{◌and◌, not_negative}
use Rattle.frame.specs.declared.Corner.{Corner}
use Rattle.frame.specs.declared.Header.{Header}
use Rattle.heading.specs.Heading.{fresh_header}
use Rattle.session.specs.declared.Profile.{Profile}
use Rattle.session.specs.declared.Session.{Session}
use Rattle.session.specs.Session.{begun, sound, complete}
use Rattle.delivery.specs.declared.Answer.{Answer}
use Rattle.delivery.specs.declared.Answer.TheVariants.{Taken, Held, Refused}
use Rattle.delivery.specs.declared.Delivered.{Delivered}
use Rattle.delivery.specs.Deliver.{lend, deliver_of, lent_after}
use Rattle.lines.specs.Lines.{report_text}
use Rattle.ledger.specs.Numbers.{kept, session_numbers}
use Rattle.heading.specs.Heading.Name.{ground}

-- ---- the session that numbers say

-- number i, 0 behind the last
abbrev pub kept_at : List ℤ → ℕ → ℤ
kept_at numbers i = get_or numbers i (pos 0)

-- a number that the session keeps without a sign
abbrev pub count_kept : List ℤ → ℕ → ℕ
count_kept numbers i = not_negative (kept_at numbers i)

abbrev pub corner_kept : List ℤ → ℕ → ℕ → Corner
corner_kept numbers i j = record { x = kept_at numbers i; y = kept_at numbers j }

abbrev pub header_kept : List ℤ → Header
header_kept numbers =
    record {
      level = count_kept numbers 0;
      system = count_kept numbers 1;
      zone = count_kept numbers 2;
      ground = count_kept numbers 3;
      vertical = count_kept numbers 4;
      sw = corner_kept numbers 5 6;
      nw = corner_kept numbers 7 8;
      ne = corner_kept numbers 9 10;
      se = corner_kept numbers 11 12;
      least = kept_at numbers 13;
      greatest = kept_at numbers 14;
      accuracy = count_kept numbers 15;
      xstep = count_kept numbers 16;
      ystep = count_kept numbers 17;
      zstep = count_kept numbers 18;
      profiles = count_kept numbers 19;
    }

abbrev pub profile_kept : List ℤ → Profile
profile_kept numbers =
    record {
      posts = count_kept numbers 28;
      row = count_kept numbers 29;
      datum = kept_at numbers 30;
      least = kept_at numbers 31;
      greatest = kept_at numbers 32;
      read = count_kept numbers 33;
      filled = count_kept numbers 34;
      low = kept_at numbers 35;
      high = kept_at numbers 36;
    }

abbrev pub session_kept : List ℤ → Session
session_kept numbers =
    record {
      header = header_kept numbers;
      taken = count_kept numbers 20;
      closed = count_kept numbers 21;
      posts = count_kept numbers 22;
      filled = count_kept numbers 23;
      low = kept_at numbers 24;
      high = kept_at numbers 25;
      column = count_kept numbers 26;
      finished = count_kept numbers 27;
      profile = profile_kept numbers;
      sum = kept_at numbers 37;
      family = count_kept numbers 38;
    }

-- ---- which numbers are a session's

abbrev pub none_negative : List ℤ → Bool
none_negative [] = true
none_negative (z ∷ zs) = cond (lt_z z (pos 0)) false (none_negative zs)

-- so many numbers from one on
abbrev pub run : ℕ → ℕ → List ℤ → List ℤ
run from count numbers = take count (drop from numbers)

-- enough of them, and none negative where the session keeps a count: level to vertical, accuracy to filled, column to the open
-- profile's row, what is read and filled of it, and the family
unfoldable pub is_session : List ℤ → Bool
is_session numbers =
    leb session_numbers (length numbers) and none_negative (run 0 5 numbers) and none_negative (run 15 9 numbers)
    and none_negative (run 26 4 numbers) and none_negative (run 33 2 numbers) and none_negative (run 38 1 numbers)

-- a session that no clause lets pass, for numbers that are none
abbrev pub no_session : Session
no_session = begun 0 fresh_header

unfoldable pub session_said : List ℤ → Session
session_said numbers = cond (is_session numbers) (session_kept numbers) no_session

-- what `dem_is_sound` and `dem_is_complete` tell: an unsound session is not complete
abbrev pub sound_said : List ℤ → Bool
sound_said numbers = sound (session_said numbers)

abbrev pub complete_said : List ℤ → Bool
complete_said numbers = sound_said numbers and complete (session_said numbers)

-- ---- a delivery

-- a delivery to the session that numbers say
abbrev pub delivered_to : List ℤ → ℕ → List ℕ → List ℤ → Delivered
delivered_to numbers number block grid = deliver_of (session_said numbers) number block (lend grid)

-- and the grid it leaves
abbrev pub grid_left : List ℤ → ℕ → List ℕ → List ℤ → List ℤ
grid_left numbers number block grid = (lent_after (session_said numbers) number block (lend grid)).grid

-- the numbers of the session after it, where the block was taken; else as they were
abbrev pub numbers_after_answer : Answer → Session → List ℤ → List ℤ
numbers_after_answer Taken s numbers = kept s numbers
numbers_after_answer Held s numbers = numbers
numbers_after_answer (Refused kind block byte) s numbers = numbers

abbrev pub numbers_left : List ℤ → ℕ → List ℕ → List ℤ → List ℤ
numbers_left numbers number block grid =
    numbers_after_answer (delivered_to numbers number block grid).answer (delivered_to numbers number block grid).session numbers

-- ---- a fresh one, and the lister's lines

-- 12 where there are too few numbers
abbrev pub open_kind : List ℤ → ℕ
open_kind numbers = cond (leb session_numbers (length numbers)) 0 12

-- the lines of a complete session, no text of any other
abbrev pub report_said : List ℤ → List ℕ
report_said numbers = cond (complete_said numbers) (report_text (session_said numbers)) []

-- a session put into a slice that has room for it; any other stays as it was
abbrev pub opened_with : Session → List ℤ → List ℤ
opened_with s numbers = cond (leb session_numbers (length numbers)) (kept s numbers) numbers
