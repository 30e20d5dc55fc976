-- Document 01, "What a delivery answers": what one delivery answers, for every session, of either family, number, block and grid.
use Rattle.std.specs.Prelude.{None, Option, Some}
use Rattle.std.specs.Prelude.{List, [], ◌∷◌, ◌++◌, ℕ, ◌^◌, ◌+◌, ◌-◌, min, ◌*◌, ℤ, pos, ◌+ℤ◌, ◌*ℤ◌, cond, Bool, false, not, eqb, ltb, leb, length, drop, replicate}
use Rattle.std.proofs.lemmas.List.Edits.{sets}
use Rattle.laws.specs.Sign.{same_z}
use Rattle.lattice.specs.Lattice.{lattice_of, place_of, place_number}
use Rattle.field.specs.declared.Fault.{Fault}
use Rattle.frame.specs.declared.Header.{Header}
use Rattle.frame.specs.Frame.{rows_of, z_of, columns_of, west, east, south, north, cells_of}
use Rattle.sheet.specs.RecordA.{Checked}
use Rattle.sheet.specs.RecordA.Checked.{Sheet, Refused as NoSheet}
use Rattle.sheet.specs.RecordA.{record_of}
use Rattle.profile.specs.declared.record_b.Head.{Head}
use Rattle.profile.specs.RecordB.{Headed}
use Rattle.profile.specs.RecordB.Headed.{Profile as Headed-as-Profile, Refused as NoProfile}
use Rattle.profile.specs.RecordB.{record_b}
use Rattle.profile.specs.RecordC.{record_c}
use Rattle.session.specs.declared.Session.{Session}
use Rattle.session.specs.declared.Profile.{Profile}
use Rattle.session.specs.Session.{no_profile, open_blocks, busy, sound, complete, begun}
use Rattle.ground.specs.declared.Tally.{Tally}
use Rattle.ground.specs.Posts.{tally_all, posts_of, heights, posts_rest_fault, void}
use Rattle.ground.specs.Extremes.{filled_only, sum_of}
use Rattle.delivery.specs.declared.Answer.{Answer}
use Rattle.delivery.specs.declared.Answer.TheVariants.{Taken, Held, Refused}
use Rattle.delivery.specs.declared.Delivered.{Delivered}

-- ---- what a delivery is lent: the slices, and how long each is

pub record Lent : Type 0 where
  pub grid : List ℤ

pub record Room : Type 0 where
  pub cells : ℕ

abbrev pub lend : List ℤ → Lent
lend grid = record { grid = grid }

abbrev pub room_of : Lent → Room
room_of lent = record { cells = length lent.grid }

-- kind 12: the grid lent is too short
abbrev pub too_short : Room → Header → Bool
too_short room h = ltb room.cells (cells_of h)

-- ---- verdicts

-- what a delivery comes to: held; refused; a good block 0; or a good later block, with the session after it, the first cell
-- it fills and the heights of the cells from there
pub data Verdict : Type 0 where
  again : Verdict
  wrong : ℕ → ℕ → ℕ → Verdict
  begins : Header → Verdict
  fills : Session → ℕ → List ℤ → Verdict

-- a fault of this block, where there is one
abbrev pub unless : Fault → ℕ → Verdict → Verdict
unless f number v = cond (eqb f.kind 0) v (wrong f.kind number f.byte)

-- ---- the grid

-- ---- closing a profile

abbrev pub sheet_tally : Session → Tally
sheet_tally s = record { filled = s.filled; low = s.low; high = s.high }

abbrev pub profile_tally : Profile → Tally
profile_tally p = record { filled = p.filled; low = p.low; high = p.high }

-- what a closing profile must state, zero where it filled no cell: hundredths as billionths
abbrev pub stated : ℕ → ℤ → ℤ
stated filled extreme = cond (eqb filled 0) (pos 0) (extreme *ℤ pos (10 ^ 7))

-- a broken closing rule: kind, block and byte
pub record Refusal : Type 0 where
  pub kind : ℕ
  pub block : ℕ
  pub byte : ℕ

abbrev pub refusal : ℕ → ℕ → ℕ → Refusal
refusal kind block byte = record { kind = kind; block = block; byte = byte }

-- "11 at 97, 121 of its first block"; then, with the last profile, "11 at 739, 763 of block 0"; kind 0 where no rule is broken
abbrev pub close_fault : ℕ → Session → Refusal
close_fault block s =
    cond (same_z s.profile.least (stated s.profile.filled s.profile.low))
    (cond (same_z s.profile.greatest (stated s.profile.filled s.profile.high))
    (cond (eqb (s.closed + 1) s.header.profiles)
    (cond (same_z s.header.least (stated s.filled s.low))
    (cond (same_z s.header.greatest (stated s.filled s.high)) (refusal 0 0 0) (refusal 11 0 763))
    (refusal 11 0 739))
    (refusal 0 0 0))
    (refusal 11 block 121))
    (refusal 11 block 97)

abbrev pub close_verdict : Refusal → Verdict → Verdict
close_verdict r v = cond (eqb r.kind 0) v (wrong r.kind r.block r.byte)

abbrev pub closed_session : Session → Session
closed_session s =
    record {
      header = s.header;
      taken = s.taken;
      closed = s.closed + 1;
      posts = s.posts;
      filled = s.filled;
      low = s.low;
      high = s.high;
      column = s.column;
      finished = s.finished;
      profile = no_profile;
      sum = s.sum;
      family = s.family;
    }

-- ---- a block's posts

-- how many of a profile's posts stand in a block that has room for so many
abbrev pub posts_here : Profile → ℕ → ℕ
posts_here p room = min (p.posts - p.read) room

-- the open profile with the heights of its next posts
abbrev pub read_on : Profile → List ℤ → Profile
read_on p hs =
    record {
      posts = p.posts;
      row = p.row;
      datum = p.datum;
      least = p.least;
      greatest = p.greatest;
      read = p.read + length hs;
      filled = (tally_all (profile_tally p) hs).filled;
      low = (tally_all (profile_tally p) hs).low;
      high = (tally_all (profile_tally p) hs).high;
    }

-- the session with one block more of a profile p whose sheet's first profile stands at a column
abbrev pub filled_session : Session → ℕ → Profile → List ℤ → Session
filled_session s column p hs =
    record {
      header = s.header;
      taken = s.taken + 1;
      closed = s.closed;
      posts = s.posts + length hs;
      filled = (tally_all (sheet_tally s) hs).filled;
      low = (tally_all (sheet_tally s) hs).low;
      high = (tally_all (sheet_tally s) hs).high;
      column = column;
      finished = s.finished;
      profile = read_on p hs;
      sum = s.sum +ℤ sum_of (filled_only hs);
      family = s.family;
    }

-- the cell of a profile's next post: "Cell = column × rows + row"
abbrev pub next_cell : Session → ℕ → Profile → ℕ
next_cell s column p = (column + s.closed) * rows_of s.header + p.row + p.read

-- the heights of a block's posts
abbrev pub heights_here : Session → Profile → ℕ → ℕ → List ℕ → List ℤ
heights_here s p byte n block = heights (z_of s.header) p.datum (posts_of n byte block)

-- a good block of a profile: its cells are filled, and the profile closed where its last post is read
abbrev pub filling : Session → ℕ → ℕ → Profile → List ℤ → Verdict
filling s number column p hs =
    cond (ltb (p.read + length hs) p.posts)
    (fills (filled_session s column p hs) (next_cell s column p) hs)
    (close_verdict (close_fault (number - open_blocks s) (filled_session s column p hs))
    (fills (closed_session (filled_session s column p hs)) (next_cell s column p) hs))

-- "Each further block holds up to 170 posts from byte 1."
abbrev pub further : Session → ℕ → List ℕ → Verdict
further s number block =
    let p = s.profile in
    let n = posts_here p 170 in
    unless (posts_rest_fault 1 n block) number (filling s number s.column p (heights_here s p 1 n block))

-- "x is on the lattice": the first profile so that all n find room, every other one column east of the one before
abbrev pub column_fits : Session → Option ℕ → Bool
column_fits s (Some c) =
    cond (eqb s.closed 0) (leb (c + s.header.profiles) (columns_of s.header)) (eqb c (s.column + s.closed))
column_fits s None = false

-- "y is on the lattice": and the m posts from its row on do not pass the rows
abbrev pub row_fits : Session → ℕ → Option ℕ → Bool
row_fits s posts (Some r) = leb (r + posts) (rows_of s.header)
row_fits s posts None = false

abbrev pub column_place : Session → Head → Option ℕ
column_place s h = place_of (lattice_of (west s.header) (east s.header) s.header.xstep) s.header.xstep h.x

abbrev pub row_place : Session → Head → Option ℕ
row_place s h = place_of (lattice_of (south s.header) (north s.header) s.header.ystep) s.header.ystep h.y

-- the first profile's column, with a profile at this place
abbrev pub column_from : Session → Option ℕ → ℕ
column_from s p = cond (eqb s.closed 0) (place_number p) s.column

abbrev pub first_column : Session → Head → ℕ
first_column s h = column_from s (column_place s h)

-- a profile that opens with its southern post at this place, and no post read yet
abbrev pub opened_at : Head → Option ℕ → Profile
opened_at h p =
    record {
      posts = h.posts;
      row = place_number p;
      datum = h.datum;
      least = h.least;
      greatest = h.greatest;
      read = 0;
      filled = 0;
      low = pos 0;
      high = pos 0;
    }

abbrev pub opened : Session → Head → Profile
opened s h = opened_at h (row_place s h)

-- "10 at 25", "10 at 49", after all fields, posts and blanks
abbrev pub placed : Session → ℕ → Head → Verdict → Verdict
placed s number h v =
    cond (column_fits s (column_place s h)) (cond (row_fits s h.posts (row_place s h)) v (wrong 10 number 49)) (wrong 10 number 25)

-- "then up to 146 six-byte posts", from byte 145
abbrev pub opening_with : Session → ℕ → List ℕ → Head → Verdict
opening_with s number block h =
    let p = opened s h in
    let n = min h.posts 146 in
    unless (posts_rest_fault 145 n block) number
    (placed s number h (filling s number (first_column s h) p (heights_here s p 145 n block)))

abbrev pub opening : Session → ℕ → List ℕ → Headed → Verdict
opening s number block (NoProfile kind byte) = wrong kind number byte
opening s number block (Headed-as-Profile h) = opening_with s number block h

-- ---- record C

abbrev pub finished_session : Session → Session
finished_session s =
    record {
      header = s.header;
      taken = s.taken + 1;
      closed = s.closed;
      posts = s.posts;
      filled = s.filled;
      low = s.low;
      high = s.high;
      column = s.column;
      finished = 1;
      profile = s.profile;
      sum = s.sum;
      family = s.family;
    }

-- ---- the order of a delivery's answers

abbrev pub later : Session → ℕ → List ℕ → Verdict
later s number block =
    cond (busy s) (further s number block)
    (cond (ltb s.closed s.header.profiles) (opening s number block (record_b s.family (s.closed + 1) block))
    (unless (record_c block) number (fills (finished_session s) 0 [])))

-- for block 0 kind 12 comes last
abbrev pub beginning : Room → Checked → Verdict
beginning room (NoSheet kind byte) = wrong kind 0 byte
beginning room (Sheet h) = cond (too_short room h) (wrong 12 0 0) (begins h)

unfoldable pub verdict_of : Session → ℕ → List ℕ → Room → Verdict
verdict_of s number block room =
    cond (not (eqb (length block) 1024)) (wrong 1 number 0)
    (cond (not (sound s)) (wrong 2 number 0)
    (cond (ltb number s.taken) again
    (cond (ltb s.taken number) (wrong 3 number 0)
    (cond (eqb number 0) (beginning room (record_of s.family block))
    (cond (complete s) (wrong 4 number 0)
    (cond (too_short room s.header) (wrong 12 number 0) (later s number block)))))))

-- ---- what is answered, and what is lent afterwards

-- "Held and refused change nothing."
abbrev pub answer_of : Session → Verdict → Delivered
answer_of s again = record { answer = Held; session = s }
answer_of s (wrong kind block byte) = record { answer = Refused kind block byte; session = s }
answer_of s (begins h) = record { answer = Taken; session = begun s.family h }
answer_of s (fills after at hs) = record { answer = Taken; session = after }

-- the numbers of each case: 0 taken, 255 held, else document 01's kind; beside it block and byte, which are 0 where nothing is refused
abbrev pub answer_kind : Answer → ℕ
answer_kind Taken = 0
answer_kind Held = 255
answer_kind (Refused kind block byte) = kind

abbrev pub answer_place : Answer → List ℕ
answer_place Taken = 0 ∷ (0 ∷ [])
answer_place Held = 0 ∷ (0 ∷ [])
answer_place (Refused kind block byte) = block ∷ (byte ∷ [])

-- "Taking block 0 sets exactly those cells void."
abbrev pub lent_by : Lent → Verdict → Lent
lent_by lent again = lent
lent_by lent (wrong kind block byte) = lent
lent_by lent (begins h) = lend (replicate (cells_of h) void ++ drop (cells_of h) lent.grid)
lent_by lent (fills after at hs) = lend (sets lent.grid at hs)

abbrev pub deliver_of : Session → ℕ → List ℕ → Lent → Delivered
deliver_of s number block lent = answer_of s (verdict_of s number block (room_of lent))

abbrev pub lent_after : Session → ℕ → List ℕ → Lent → Lent
lent_after s number block lent = lent_by lent (verdict_of s number block (room_of lent))
