-- Demand 3 over the joined text: what a delivery is answered, said without a session; and a list of calls of `deliver`.
use Rattle.std.specs.Prelude.{cond, not, eqb, ltb, List, ◌++◌, [], ◌∷◌, map, ℕ, ◌≤◌, ◌<◌, length, get_or, ℤ, ◌≡◌}
use Rattle.ground.specs.Blocks.{blocks_in}
use Rattle.ground.specs.Posts.{void}
use Rattle.session.specs.declared.Session.{Session}
use Rattle.session.specs.Session.{opened}
use Rattle.delivery.specs.declared.Answer.{Answer}
use Rattle.delivery.specs.declared.Answer.TheVariants.{Refused, Taken, Held}
use Rattle.delivery.specs.declared.Delivered.{Delivered}
use Rattle.delivery.specs.Deliver.{Lent, Room, lend, too_short, deliver_of, lent_after}
use Rattle.meaning.specs.Rules.{Breach, first_breach, is_complete}
use Rattle.meaning.specs.Text.{cells_in, header_in}

-- "refused with kind, block and byte", where a rule is broken
abbrev pub refused_by : Breach → Answer → Answer
refused_by b otherwise = cond (eqb b.kind 0) otherwise (Refused b.kind b.block b.byte)

-- what a delivery is answered once the blocks of a family's text are taken, with so much lent: the paper's table, in its order
abbrev pub answer_to : ℕ → List ℕ → ℕ → List ℕ → Room → Answer
answer_to family text number block room =
    let broken = first_breach family (text ++ block) in
    let short = too_short room (header_in (text ++ block)) in
    cond (not (eqb (length block) 1024)) (Refused 1 number 0)
    (cond (ltb number (blocks_in text)) Held
    (cond (ltb (blocks_in text) number) (Refused 3 number 0)
    (cond (eqb number 0) (refused_by broken (cond short (Refused 12 0 0) Taken))
    (cond (is_complete text) (Refused 4 number 0) (cond short (Refused 12 number 0) (refused_by broken Taken))))))

-- ---- calls of `deliver`, one after another

-- what is delivered: a number and bytes, as they come
pub record Delivery : Type 0 where
  pub number : ℕ
  pub bytes : List ℕ

-- one call: what was delivered, what it returned, and what was lent, as it left it
pub record Call : Type 0 where
  pub sent : Delivery
  pub returned : Delivered
  pub left : Lent

-- what `load::deliver` promises of a call, word for word: its two equations (paper, proof Contracts, reads them off the contract)
pub record Promised (s : Session) (lent : Lent) (c : Call) : Type 0 where
  pub answers : c.returned ≡ deliver_of s c.sent.number c.sent.bytes lent
  pub fills : c.left.grid ≡ (lent_after s c.sent.number c.sent.bytes lent).grid

-- calls from a session and what is lent, each handed what the one before it returned and left
pub data Calls : Session → Lent → List Call → Type 0 where
  no_call : {s : Session} {lent : Lent} → Calls s lent []
  called : {s : Session} {lent : Lent} {c : Call} {cs : List Call} → Promised s lent c → Calls c.returned.session c.left cs
      → Calls s lent (c ∷ cs)

-- a fresh session of a family, and a grid as it is lent
abbrev pub Fresh : ℕ → List ℤ → List Call → Type 0
Fresh family grid cs = Calls (opened family) (lend grid) cs

-- the session as last returned, and the grid as last left
abbrev pub session_after : Session → List Call → Session
session_after s [] = s
session_after s (c ∷ cs) = session_after c.returned.session cs

abbrev pub grid_after : List ℤ → List Call → List ℤ
grid_after grid [] = grid
grid_after grid (c ∷ cs) = grid_after c.left.grid cs

-- the bytes of a delivery that was taken
abbrev pub bytes_if : Answer → List ℕ → List ℕ
bytes_if Taken bytes = bytes
bytes_if Held bytes = []
bytes_if (Refused kind block byte) bytes = []

-- the taken blocks, joined
abbrev pub taken_text : List Call → List ℕ
taken_text [] = []
taken_text (c ∷ cs) = bytes_if c.returned.answer c.sent.bytes ++ taken_text cs

abbrev pub deliveries : List Call → List Delivery
deliveries cs = map (λ (c : Call). c.sent) cs

abbrev pub answers : List Call → List Answer
answers cs = map (λ (c : Call). c.returned.answer) cs

-- every delivery twice in a row
abbrev pub twice : List Delivery → List Delivery
twice [] = []
twice (d ∷ ds) = d ∷ (d ∷ twice ds)

-- calls that deliver a list, with others among them that are not taken: held, early, or damaged so that a rule is broken
pub data Disturbed : List Call → List Delivery → Type 0 where
  ended : Disturbed [] []
  sent : {c : Call} {es : List Call} {ds : List Delivery} → Disturbed es ds → Disturbed (c ∷ es) (c.sent ∷ ds)
  disturbed : {c : Call} {es : List Call} {ds : List Delivery} → (c.returned.answer ≡ Taken → ⊥) → Disturbed es ds → Disturbed (c ∷ es) ds

-- "A block is taken exactly when ..": 1,024 bytes under the next number, no rule of the family broken by the text with it, and cells enough
pub record Due (family : ℕ) (text : List ℕ) (lent : List ℤ) (d : Delivery) : Type 0 where
  pub next : d.number ≡ blocks_in text
  pub block : length d.bytes ≡ 1024
  pub kept : (first_breach family (text ++ d.bytes)).kind ≡ 0
  pub room : cells_in (text ++ d.bytes) ≤ length lent

-- a cell of the grid, and what it holds: the index stands inside, so no value is made up
abbrev pub Holds : List ℤ → ℕ → ℤ → Type 0
Holds grid c value = (c < length grid) × (get_or grid c void ≡ value)
