-- How the code takes a delivery apart: contracts of private functions. The public promise cites `deliver_of` and `lent_after` alone.
use Rattle.std.specs.Prelude.{List, ◌≡◌, Bool, true, false, not, leb, ℕ, ◌+◌, ◌*◌, ◌^◌, ◌≤◌, ◌<◌, ℤ, nat_abs, take, length}
use Rattle.frame.specs.Frame.{cells_of, columns_of, rows_of, z_of}
use Rattle.profile.specs.declared.record_b.Head.{Head}
use Rattle.session.specs.declared.Session.{Session}
use Rattle.session.specs.Session.{open_blocks, busy, sound}
use Rattle.session.specs.declared.Profile.{Profile}
use Rattle.ground.specs.declared.Tally.{Tally}
use Rattle.ground.specs.Posts.{no_tally, tally_all}
use Rattle.ground.specs.Extremes.{filled_only, sum_of}
use Rattle.posts.specs.Scan.{voided, placed}
use Rattle.delivery.specs.declared.Answer.{Answer}
use Rattle.delivery.specs.declared.Answer.TheVariants.{Taken, Held, Refused}
use Rattle.delivery.specs.Deliver.{lend, Verdict, again, wrong, begins, fills}
use Rattle.delivery.specs.declared.Delivered.{Delivered}
use Rattle.gate.specs.Gate.{judged_of}
use Rattle.gate.specs.declared.verdict.Judged.{Judged}
use Rattle.runs.specs.declared.Ran.{Ran}
use Rattle.runs.specs.Run.{Running, running, is_refused}
use Rattle.load.specs.declared.run.Pace.{Pace}

-- ---- what a sound session with block 0 taken gives the code

pub record OpenProfile (s : Session) : Type 0 where
  pub posts-most : s.profile.posts ≤ 2048
  pub row_room : s.profile.row + s.profile.posts ≤ rows_of s.header
  pub datum-most : nat_abs s.profile.datum ≤ 1000000
  pub read_below : s.profile.read < s.profile.posts
  pub filled-most : s.profile.filled ≤ s.profile.read
  pub column-room : s.column + s.header.profiles ≤ columns_of s.header
  pub not_last : s.closed < s.header.profiles

pub record Ready (s : Session) : Type 0 where
  pub columns-most : columns_of s.header ≤ 2048
  pub rows-most : rows_of s.header ≤ 2048
  pub profiles-most : s.header.profiles ≤ 2048
  pub closed-most : s.closed ≤ s.header.profiles
  pub column_fits : 0 < s.closed → s.column + s.header.profiles ≤ columns_of s.header
  pub z-most : z_of s.header ≤ 100
  pub taken-most : s.taken ≤ 26626
  pub posts-most : s.posts ≤ 4194304
  pub filled-most : s.filled ≤ s.posts
  pub sum-most : nat_abs s.sum ≤ s.filled * 4276700
  pub blocks-most : open_blocks s ≤ s.taken
  pub profile-is : busy s ≡ true → OpenProfile s

-- what a block's n posts, of tally u and with their sum, may add to a session and to a profile of it
pub record Filling (s : Session) (p : Profile) (n : ℕ) (u : Tally) (sum : ℤ) : Type 0 where
  pub ready : Ready s
  pub count : u.filled ≤ n
  pub sum-most : nat_abs sum ≤ 2 ^ 40
  pub read-most : p.read + n ≤ p.posts
  pub posts-most : p.posts ≤ 2048
  pub filled-most : p.filled ≤ p.read

-- where profile p of a session may stand
pub record Placing (s : Session) (number column : ℕ) (p : Profile) : Type 0 where
  pub taken_is : number ≡ s.taken
  pub column-room : column + s.header.profiles ≤ columns_of s.header
  pub not_last : s.closed < s.header.profiles
  pub row_room : p.row + p.posts ≤ rows_of s.header
  pub blocks : open_blocks s ≤ number

-- a delivery that is next in order, with its profile open, and scratch for a block's heights
pub record Opened (s : Session) (number : ℕ) (block : List ℕ) (scratch : List ℤ) : Type 0 where
  pub ready : Ready s
  pub busy-is : busy s ≡ true
  pub taken_is : number ≡ s.taken
  pub blocks : open_blocks s ≤ number
  pub long : length block ≡ 1024
  pub room : length scratch ≡ 170

-- a delivery that is next in order and opens a profile
pub record Opening (s : Session) (number : ℕ) (block : List ℕ) (h : Head) (scratch : List ℤ) : Type 0 where
  pub ready : Ready s
  pub idle : busy s ≡ false
  pub not_last : s.closed < s.header.profiles
  pub taken_is : number ≡ s.taken
  pub long : length block ≡ 1024
  pub room : length scratch ≡ 170
  pub posts-most : h.posts ≤ 2048
  pub datum-most : nat_abs h.datum ≤ 1000000

pub record Placeable (s : Session) (number : ℕ) (h : Head) (n : ℕ) (u : Tally) (sum : ℤ) : Type 0 where
  pub ready : Ready s
  pub idle : busy s ≡ false
  pub not_last : s.closed < s.header.profiles
  pub taken_is : number ≡ s.taken
  pub posts-most : h.posts ≤ 2048
  pub within : n ≤ h.posts
  pub count : u.filled ≤ n
  pub sum-most : nat_abs sum ≤ 2 ^ 40

-- a later delivery that is next in order, with scratch for a block's heights
pub record Next (s : Session) (number : ℕ) (block : List ℕ) (scratch : List ℤ) : Type 0 where
  pub ready : Ready s
  pub taken_is : number ≡ s.taken
  pub long : length block ≡ 1024
  pub room : length scratch ≡ 170

-- ---- a delivery judged, and done

-- what is told, and what stands in a grid then, with a later block's heights in the scratch
abbrev pub told : Judged → Delivered
told j = record { answer = j.answer; session = j.session }

abbrev pub grid_by : List ℤ → Judged → List ℤ → List ℤ
grid_by scratch j grid = placed j.at j.heights scratch (voided j.voids grid)

-- what a verdict writes is there: its cells in a grid of so many, and its heights at the front of the scratch
abbrev pub Lies : ℕ → List ℤ → Verdict → Type 0
Lies cells scratch again = Unit {0}
Lies cells scratch (wrong kind block byte) = Unit {0}
Lies cells scratch (begins h) = cells_of h ≤ cells
Lies cells scratch (fills after at hs) = (at + length hs ≤ cells) × (take (length hs) scratch ≡ hs)

pub record Judging (s : Session) (v : Verdict) (cells : ℕ) (scratch : List ℤ) (j : Judged) : Type 0 where
  pub judged-is : j ≡ judged_of s v
  pub lies : Lies cells scratch v

-- n posts of tally u judged: as any heights of that number, that tally and that sum
abbrev pub ByTally : Session → (List ℤ → Verdict) → ℕ → Tally → ℤ → Judged → Type 0
ByTally s v n u sum j =
    (hs : List ℤ) → n ≡ length hs → u ≡ tally_all no_tally hs → sum ≡ sum_of (filled_only hs) → j ≡ judged_of s (v hs)

-- ---- a run

-- where a run stands, by what it would return and the grid as it is
abbrev pub standing : Ran → List ℤ → Running
standing r grid = running r.answer r.session (lend grid) r.count

-- after an answer: a taken block shows that the grid is long enough, a refused one is not counted and ends the run
abbrev pub paced_by : Bool → ℕ → Session → Answer → Pace
paced_by roomy count s Taken = record { ran = record { answer = Taken; session = s; count = count + 1 }; roomy = true; more = true }
paced_by roomy count s Held = record { ran = record { answer = Held; session = s; count = count + 1 }; roomy = roomy; more = true }
paced_by roomy count s (Refused kind block byte) =
    record { ran = record { answer = Refused kind block byte; session = s; count = count }; roomy = roomy; more = false }

-- what is known before each block
pub record Pacing (cells : ℕ) (p : Pace) : Type 0 where
  pub sound-is : sound p.ran.session ≡ true
  pub room-is : leb (cells_of p.ran.session.header) cells ≡ p.roomy
  pub more-is : is_refused p.ran.answer ≡ not p.more
