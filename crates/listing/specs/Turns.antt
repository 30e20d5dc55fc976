-- Document 01, "The lister, and one sheet": what a lister makes of each block of its input, and what it prints at last.
use Rattle.std.specs.Prelude.{Bool, true, false, ℕ, ◌≤◌, ◌+◌, ◌*◌, cond, List, eqb, ltb, ℤ, length, take, drop, ◌≡◌}
use Rattle.ground.specs.Blocks.{blocks_in}
use Rattle.session.specs.declared.Session.{Session}
use Rattle.session.specs.Session.{fresh}
use Rattle.delivery.specs.declared.Answer.{Answer}
use Rattle.delivery.specs.declared.Answer.TheVariants.{Taken, Held, Refused}
use Rattle.delivery.specs.Deliver.{lend, deliver_of, lent_after}
use Rattle.runs.specs.Run.{Running, run_of}
use Rattle.lines.specs.Lines.{refused_text, end_text}
use Rattle.listing.specs.declared.Stage.{Stage}
use Rattle.listing.specs.declared.Stage.TheVariants.{More, Ended, Refused as Stopped}
use Rattle.listing.specs.declared.Turn.{Turn}

abbrev pub turn : Session → Stage → Turn
turn s stage = record { session = s; stage = stage }

-- a turn by its numbers: at stage 0 more may follow, and at 2 a block was refused, for this kind at this block and byte
abbrev pub turn_numbered : Session → ℕ → ℕ → ℕ → ℕ → Turn
turn_numbered s stage kind block byte = turn s (cond (eqb stage 2) (Stopped kind block byte) (cond (eqb stage 0) More Ended))

abbrev pub is_more : Stage → Bool
is_more More = true
is_more Ended = false
is_more (Stopped kind block byte) = false

-- a refusal ends the listing, any other answer goes on
abbrev pub turn_after : Session → Answer → Turn
turn_after s Taken = turn s More
turn_after s Held = turn s More
turn_after s (Refused kind block byte) = turn s (Stopped kind block byte)

-- the next bytes of the input, of which there are none at its end; a short block is delivered as it is, and refused
abbrev pub step_of : Session → ℕ → List ℕ → List ℤ → Turn
step_of s number block grid =
    cond (eqb (length block) 0) (turn s Ended)
    (turn_after (deliver_of s number block (lend grid)).session (deliver_of s number block (lend grid)).answer)

abbrev pub cells_left : Session → ℕ → List ℕ → List ℤ → List ℤ
cells_left s number block grid = cond (eqb (length block) 0) grid (lent_after s number block (lend grid)).grid

-- what a turn promises: where the listing stands, and every cell
abbrev pub Steps : Session → ℕ → List ℕ → List ℤ → List ℤ → Turn → Type 0
Steps s number block before after t = (t ≡ step_of s number block before) × (after ≡ cells_left s number block before)

-- ---- 02, request 3: many blocks at a time

-- where a listing stands, and every cell
pub record Stand : Type 0 where
  pub turn : Turn
  pub cells : List ℤ

-- at most one block, under the number of those taken before it
abbrev pub stepped : Session → List ℕ → List ℤ → Stand
stepped s block grid = record { turn = step_of s s.taken block grid; cells = cells_left s s.taken block grid }

-- where a run comes to
abbrev pub stand_after : Running → Stand
stand_after r = record { turn = turn_after r.session r.answer; cells = r.lent.grid }

-- whole blocks as one run, the first under the number of those taken before it
abbrev pub ran : Session → List ℕ → List ℤ → Stand
ran s blocks grid = stand_after (run_of s s.taken blocks (lend grid))

-- the whole blocks in front of some bytes, and what is left behind them
abbrev pub whole_blocks : List ℕ → List ℕ
whole_blocks bytes = take (1024 * blocks_in bytes) bytes

abbrev pub left_over : List ℕ → List ℕ
left_over bytes = drop (1024 * blocks_in bytes) bytes

-- what is left is a short block, looked at only while more may follow; where nothing is left, the input need not be at its end
abbrev pub with_rest : Stand → List ℕ → Stand
with_rest x rest =
    cond (is_more x.turn.stage) (cond (eqb (length rest) 0) x (stepped x.turn.session rest x.cells)) x

-- the next bytes of the input: less than a block, or a run of whole blocks and what is left
abbrev pub taken_of : Session → List ℕ → List ℤ → Stand
taken_of s bytes grid =
    cond (ltb (length bytes) 1024) (stepped s bytes grid) (with_rest (ran s (whole_blocks bytes) grid) (left_over bytes))

-- what a call promises that comes to where a listing stands
abbrev pub ComesTo : Stand → List ℤ → Turn → Type 0
ComesTo x after t = (t ≡ x.turn) × (after ≡ x.cells)

-- some next bytes of the input were taken, however many
pub record Fetched (s : Session) (before after : List ℤ) (t : Turn) : Type 0 where
  pub bytes : List ℕ
  pub comes : ComesTo (taken_of s bytes before) after t

-- ---- a listing, one block at a time

-- some next bytes of the input, at most a block, were taken
pub record Took (s : Session) (number : ℕ) (before after : List ℤ) (t : Turn) : Type 0 where
  pub block : List ℕ
  pub short : length block ≤ 1024
  pub steps : Steps s number block before after t

-- where a listing can come to in n turns: a fresh session at first, then blocks numbered 0, 1, 2, .. while more may follow
pub data Reached (grid : List ℤ) : ℕ → Turn → List ℤ → Type 0 where
  first : Reached grid 0 (turn fresh More) grid
  next : {n : ℕ} {t : Turn} {g h : List ℤ} {u : Turn} → Reached grid n t g → t.stage ≡ More → Took t.session n g h u
      → Reached grid (n + 1) u h

-- no more may follow
pub record Listed (before after : List ℤ) (t : Turn) : Type 0 where
  pub turns : ℕ
  pub reached : Reached before turns t after
  pub last : t.stage ≡ More → ⊥

-- the cells are those that the listing of some input leaves: which input it was, no contract can say
pub record Lists (before after : List ℤ) : Type 0 where
  pub last : Turn
  pub listed : Listed before after last

-- "A refusal prints only .."; else the end of the input
abbrev pub text_at : Session → Stage → List ℕ
text_at s More = end_text s
text_at s Ended = end_text s
text_at s (Stopped kind block byte) = refused_text kind block byte

unfoldable pub last_text : Turn → List ℕ
last_text t = text_at t.session t.stage

-- ---- a listing of what a source brings

-- one call: the source and the bytes lent, how many of them it answers, and what it leaves of both
abbrev pub Brings : Type 0 → Type 1
Brings S = S → List ℕ → ℕ → S → List ℕ → Type 0

-- of the same source and bytes each call leaves one count, one source and one content of the bytes
abbrev pub OneCall : {S : Type 0} → Brings S → Type 0
OneCall {S} brings =
    (s s' s'' : S) (x x' x'' : List ℕ) (r r' : ℕ) → brings s x r s' x' → brings s x r' s'' x'' → (r ≡ r') × (s' ≡ s'') × (x' ≡ x'')

-- from a turn on, call after call while more may follow: where all that they bring comes to, and the source
pub data Fed {S : Type 0} (brings : Brings S) : S → List ℕ → Turn → List ℤ → S → Turn → List ℤ → Type 0 where
  over : {s : S} {bytes : List ℕ} {t : Turn} {g : List ℤ} → (t.stage ≡ More → ⊥) → Fed brings s bytes t g s t g
  brought : {s s' s'' : S} {bytes bytes' : List ℕ} {got : ℕ} {t u last : Turn} {g h after : List ℤ} → t.stage ≡ More → brings s bytes got s' bytes'
      → ComesTo (taken_of t.session (take got bytes') g) h u → Fed brings s' bytes' u h s'' last after → Fed brings s bytes t g s'' last after
