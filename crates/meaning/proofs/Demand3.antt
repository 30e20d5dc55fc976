-- Demand 3, the front door, for each family of sheets that we know. Everything here is said of calls of `load::deliver`, each of which keeps the two equations of its promise (paper,
-- proof Contracts, reads them off the contract): any lent grid, and any list of deliveries, any numbers, any bytes of any length, session
-- and grid handed back as last returned. Each theorem cites where it is shown.
use mathlib.Core.List.{List, [], ◌++◌, ◌∷◌}
use mathlib.Core.Path.{◌≡◌, sym, ◌∙◌, ap}
use Prim.Native.Nat.{ℕ, ◌≤◌, ◌<◌}
use mathlib.Core.Bool.{cond, false, true}
use native.Mathlib.Omega.{arith}
use borrow.Author.Tests.{ne_eqb}
use lib.Dec.{eqb}
use mathlib.Core.Logic.{◌↔◌}
use lib.IntN.{ℤ}
use lib.ListN.{length, take, drop, get_or}
use Rattle.laws.specs.Family.{known}
use Rattle.laws.proofs.Tests.{by-test}
use Rattle.ground.specs.Blocks.{blocks_in}
use Rattle.session.specs.declared.Session.{Session}
use Rattle.session.specs.Session.{opened, fresh, sound}
use Rattle.ground.specs.Posts.{void, filled_in}
use Rattle.ground.specs.Extremes.{filled_only, sum_of}
use Rattle.delivery.specs.declared.Answer.TheVariants.{Taken, Refused}
use Rattle.delivery.specs.Deliver.{Lent, Room, lend, room_of, Verdict, wrong, verdict_of, answer_of, lent_by, deliver_of, lent_after}
use Rattle.meaning.specs.Text.{profiles_in, cells_in, posts_in, height_in, all_posts, filled_posts, cell_of_post}
use Rattle.meaning.specs.Exact.{Exact}
use Rattle.meaning.specs.Means.{begun_session, session_of, grid_of}
use Rattle.meaning.specs.Rules.{first_breach}
use Rattle.meaning.specs.Deliveries.{Delivery, Call, Promised, Fresh, session_after, grid_after, taken_text, deliveries, answers, twice, Disturbed, Due, Holds, refused_by, answer_to}
use Rattle.meaning.specs.PaperSheet.{paper_lent, paper_sheet, paper_session, paper_cells}
use Rattle.meaning.proofs.Desks.{Desk, desk, at_first, after_all, call-desk, call-answer, calls-desk, calls-text}
use Rattle.meaning.proofs.OneDelivery.{Stands, stands-first, answer-told, not-taken-nothing as nothing-changed}
use Rattle.meaning.proofs.Runs.{stands_after, taken-due, due-taken, late-not-taken, next-answer, twice-once, disturbed-same}
use Rattle.meaning.proofs.ShutOut.{is_refused, is_held, all_are}
use Rattle.meaning.proofs.EachPost as Cells
use Rattle.meaning.proofs.Weighing as Weighing
use Rattle.meaning.proofs.EachNumber as Numbers
use Rattle.meaning.proofs.ShutOut as Shut

-- the verdict on any delivery to a session of a family that we do not know
unknown-wrong : (s : Session) → known s.family ≡ false → (number : ℕ) (block : List ℕ) (room : Room)
    → verdict_of s number block room ≡ wrong (cond (eqb (length block) 1024) 2 1) number 0
unfolding verdict_of sound
unknown-wrong s k number block room = by-test (eqb (length block) 1024) (λ l. rw (l, k)) (λ l. rw l)

-- what a desk holds, taken apart
same-desks : {s t : Session} {g f : List ℤ} → desk s (lend g) ≡ desk t (lend f) → (s ≡ t) × (g ≡ f)
same-desks e = (ap (λ (k : Desk). k.session) e, ap (λ (k : Desk). k.lent.grid) e)

begun-means : (family : ℕ) (text : List ℕ) → 1 ≤ blocks_in text → session_of family text ≡ begun_session family text
begun-means family text some = let e : eqb (blocks_in text) 0 ≡ false = ne_eqb (blocks_in text) 0 (λ z. omega (arith, z, some)) in rw e

calls-stand : (family : ℕ) → known family ≡ true → (lent : List ℤ) (cs : List Call) → Fresh family lent cs
    → Stands family (taken_text cs) lent (desk (session_after (opened family) cs) (lend (grid_after lent cs)))
calls-stand family ours lent cs kept = rw (calls-text kept, calls-desk kept) (stands_after family ours lent (deliveries cs))

module _ (family : ℕ) (ours : known family ≡ true) (lent : List ℤ) (cs : List Call) (kept : Fresh family lent cs) where
  -- session and grid after the calls, and the taken blocks joined as one text
  abbrev session : Session
  session = session_after (opened family) cs

  abbrev grid : List ℤ
  grid = grid_after lent cs

  abbrev text : List ℕ
  text = taken_text cs

  stands : Stands family text lent (desk session (lend grid))
  stands = calls-stand family ours lent cs kept

  -- the next call, handed session and grid
  abbrev pub Next : Call → Type 0
  Next c = Promised session (lend grid) c

  told : (c : Call) → Next c → c.returned.answer ≡ answer_to family text c.sent.number c.sent.bytes (room_of (lend lent))
  told c p = call-answer p ∙ answer-told family text lent (desk session (lend grid)) stands c.sent

  -- ---- 1. what is taken, and what is then on the desk

  -- a delivery is taken exactly when its number is the next one, the taken blocks with it break no rule, and the grid is long enough
  pub taken-exactly : (c : Call) → Next c → (c.returned.answer ≡ Taken) ↔ Due family text lent c.sent
  taken-exactly c p =
      (λ e. taken-due family text lent stands.good c.sent (sym (told c p) ∙ e), λ due. told c p ∙ due-taken family text lent stands.good c.sent due)

  -- the session is what the taken blocks mean
  pub session-means : session ≡ session_of family text
  session-means = stands.session-is

  -- the grid is what the taken blocks mean
  pub grid-means : grid ≡ grid_of text lent
  grid-means = stands.grid-is

  -- the taken blocks break no rule themselves, and the grid is long enough for their sheet
  pub taken-kept : 1 ≤ blocks_in text → ((first_breach family text).kind ≡ 0) × (cells_in text ≤ length lent)
  taken-kept some = (stands.good.kept some, stands.good.room some)

  -- ---- 2. every post in one cell

  -- no cell is added or lost
  pub as-many-cells : length grid ≡ length lent
  as-many-cells = ap length grid-means ∙ Cells.length-kept text lent stands.good.room

  -- a cell of the sheet is one of the grid
  inside : 1 ≤ blocks_in text → (c : ℕ) → c < cells_in text → c < length grid
  inside some c lt = omega (arith, lt, stands.good.room some, as-many-cells)

  -- every post of the taken blocks stands in a cell of the sheet
  pub post-in-sheet : 1 ≤ blocks_in text → (j i : ℕ) → j < profiles_in text → i < posts_in text j → cell_of_post text j i < cells_in text
  post-in-sheet some = Cells.post-in-sheet family text (stands.good.kept some)

  -- that cell holds its height
  pub post-in-its-cell : 1 ≤ blocks_in text → (j i : ℕ) → j < profiles_in text → i < posts_in text j
      → Holds grid (cell_of_post text j i) (height_in text j i)
  post-in-its-cell some j i p q = (
    inside some (cell_of_post text j i) (post-in-sheet some j i p q),
    ap (λ (g : List ℤ). get_or g (cell_of_post text j i) void) grid-means
        ∙ Cells.post-in-its-cell family text (stands.good.kept some) lent j i p q,
  )

  -- no two posts stand in the same cell
  pub no-two-posts : 1 ≤ blocks_in text → (j i j' i' : ℕ) → j < profiles_in text → i < posts_in text j → j' < profiles_in text
      → i' < posts_in text j' → cell_of_post text j i ≡ cell_of_post text j' i' → (j ≡ j') × (i ≡ i')
  no-two-posts some = Cells.no-two-posts family text (stands.good.kept some)

  -- every other cell of the sheet is void
  pub other-cells-void : 1 ≤ blocks_in text → (c : ℕ) → c < cells_in text
      → ((j i : ℕ) → j < profiles_in text → i < posts_in text j → cell_of_post text j i ≡ c → ⊥) → Holds grid c void
  other-cells-void some c lt none = (
    inside some c lt,
    ap (λ (g : List ℤ). get_or g c void) grid-means ∙ Cells.other-cells-void family text (stands.good.kept some) lent c some lt none,
  )

  -- cells past the sheet are as lent
  pub past-the-sheet : 1 ≤ blocks_in text → drop (cells_in text) grid ≡ drop (cells_in text) lent
  past-the-sheet some = ap (drop (cells_in text)) grid-means ∙ Cells.past-the-sheet text lent some

  -- as many filled cells as filled posts: those that are not -32767
  pub filled-as-posts : 1 ≤ blocks_in text → filled_in (take (cells_in text) grid) ≡ filled_posts (all_posts text)
  filled-as-posts some =
      ap (λ (g : List ℤ). filled_in (take (cells_in text) g)) grid-means
      ∙ Weighing.filled-as-posts family text (stands.good.kept some) lent some
      ∙ Numbers.filled-posts family text (stands.good.kept some)

  -- and the session's counts are the text's: blocks, posts and filled posts
  pub counts-are : 1 ≤ blocks_in text
      → (session.taken ≡ blocks_in text) × (session.posts ≡ length (all_posts text)) × (session.filled ≡ filled_posts (all_posts text))
  counts-are some =
      let e = session-means ∙ begun-means family text some in (
        ap (λ (s : Session). s.taken) e,
        ap (λ (s : Session). s.posts) e ∙ Numbers.as-many-posts text,
        ap (λ (s : Session). s.filled) e ∙ Numbers.filled-posts family text (stands.good.kept some),
      )

  -- 02, request 1: the session's sum is that of the sheet's filled cells
  pub sum-over-cells : 1 ≤ blocks_in text → session.sum ≡ sum_of (filled_only (take (cells_in text) grid))
  sum-over-cells some =
      ap (λ (s : Session). s.sum) (session-means ∙ begun-means family text some)
      ∙ sym
      (ap (λ (g : List ℤ). sum_of (filled_only (take (cells_in text) g))) grid-means
      ∙ Weighing.sum-as-posts family text (stands.good.kept some) lent some)

  -- each decimal exact: every number of header, heads and posts is the grammar's meaning of its bytes, and a filled cell is made of them
  pub each_number : 1 ≤ blocks_in text → Exact family text
  each_number some = Numbers.each_number family text (stands.good.kept some)

  -- until block 0 is taken the grid is as lent
  pub lent-until-block-0 : blocks_in text ≡ 0 → grid ≡ lent
  lent-until-block-0 none = grid-means ∙ Cells.lent-until-block-0 text lent none

  -- ---- 3. order and repetition do not matter

  -- other calls with the same taken blocks leave the same session and grid
  pub same-taken-blocks : (es : List Call) → Fresh family lent es → taken_text es ≡ text → (session_after (opened family) es ≡ session) × (grid_after lent es ≡ grid)
  same-taken-blocks es other e =
      let there = calls-stand family ours lent es other in
      (there.session-is ∙ ap (session_of family) e ∙ sym session-means, there.grid-is ∙ ap (λ (t : List ℕ). grid_of t lent) e ∙ sym grid-means)

  -- every delivery of any list twice in a row ends as once
  pub twice-as-once : (es : List Call) → Fresh family lent es → deliveries es ≡ twice (deliveries cs)
      → (session_after (opened family) es ≡ session) × (grid_after lent es ≡ grid)
  twice-as-once es other e =
      same-desks (calls-desk other ∙ ap (after_all (at_first family lent)) e ∙ twice-once family [] lent (at_first family lent) (stands-first family ours lent) (deliveries cs) ∙ sym (calls-desk kept))

  -- deliveries among them that are not taken, early, held or damaged, as many as there be, end as though they had not come
  pub damage-as-none : (es : List Call) → Fresh family lent es → Disturbed es (deliveries cs)
      → (session_after (opened family) es ≡ session) × (grid_after lent es ≡ grid)
  damage-as-none es other d = same-desks (calls-desk other ∙ disturbed-same other d ∙ sym (calls-desk kept))

  -- a block sent again, however late and whatever its bytes, changes nothing: its number is below the blocks taken
  pub again-changes-nothing : (c : Call) → Next c → c.sent.number < blocks_in text → (c.returned.session ≡ session) × (c.left.grid ≡ grid)
  again-changes-nothing c p lt =
      same-desks
      (call-desk p
      ∙ nothing-changed (desk session (lend grid)) c.sent
      (λ t. late-not-taken family text lent stands.good c.sent lt (sym (answer-told family text lent (desk session (lend grid)) stands c.sent) ∙ t)))

  -- ---- 4. refusals are right

  -- every answer, with kind, block and byte, is the one that document 01's table tells of the taken blocks
  pub answered-as-told : (c : Call) → Next c → c.returned.answer ≡ answer_to family text c.sent.number c.sent.bytes (room_of (lend lent))
  answered-as-told = told

  -- the next block, with a grid long enough, is refused with the first rule that the text with it breaks, or taken
  pub first-fault-said : (c : Call) → Next c → length c.sent.bytes ≡ 1024 → c.sent.number ≡ blocks_in text
      → cells_in (text ++ c.sent.bytes) ≤ length lent → c.returned.answer ≡ refused_by (first_breach family (text ++ c.sent.bytes)) Taken
  first-fault-said c p one next room = told c p ∙ next-answer family text lent stands.good c.sent one next room

  -- whatever is not taken changes nothing
  pub not-taken-nothing : (c : Call) → Next c → (c.returned.answer ≡ Taken → ⊥) → (c.returned.session ≡ session) × (c.left.grid ≡ grid)
  not-taken-nothing c p not =
      same-desks (call-desk p ∙ nothing-changed (desk session (lend grid)) c.sent (λ t. not (call-answer p ∙ t)))

-- ---- 5. shut out: readers that document 01 names, by calls that deliver the paper's own sheet

module _ (cs : List Call) (kept : Fresh 0 paper_lent cs) (paper : deliveries cs ≡ paper_sheet) where
  -- the paper's three blocks are taken
  pub paper-taken : answers cs ≡ Taken ∷ (Taken ∷ (Taken ∷ []))
  paper-taken = Shut.all-taken cs kept paper

  -- and leave the paper's session and cells: 5 posts, 4 filled, 3 blocks, their sum, and no count invented (for every list of deliveries: `counts-are`)
  pub paper-session : session_after fresh cs ≡ paper_session
  paper-session = Shut.session-is cs kept paper

  pub paper-cells : grid_after paper_lent cs ≡ paper_cells
  paper-cells = Shut.cells_are cs kept paper

  -- not all are refused, nor all held
  pub not-all-refused : all_are is_refused (answers cs) ≡ true → ⊥
  not-all-refused = Shut.not-all-refused cs kept paper

  pub not-all-held : all_are is_held (answers cs) ≡ true → ⊥
  not-all-held = Shut.not-all-held cs kept paper

module _ (c : Call) (cs : List Call) (kept : Fresh 0 paper_lent (c ∷ cs)) (paper : deliveries (c ∷ cs) ≡ paper_sheet) where
  -- behind block 0 blocks are not taken without placing anything
  pub places-what-it-takes : grid_after c.left.grid cs ≡ c.left.grid → ⊥
  places-what-it-takes = Shut.places-what-it-takes c cs kept paper

  -- nor does the session stand still
  pub works-after-first : session_after c.returned.session cs ≡ c.returned.session → ⊥
  works-after-first = Shut.works-after-first c cs kept paper

-- ---- 6. no second answer (for every public function: proof OneAnswer of its room)

-- two calls that are given the same return the same and leave the same cells
pub one-answer-each : (s : Session) (lent : Lent) (c e : Call) → Promised s lent c → Promised s lent e → c.sent ≡ e.sent
    → (c.returned ≡ e.returned) × (c.left.grid ≡ e.left.grid)
one-answer-each s lent c e p q same =
    (p.answers ∙ ap (λ (d : Delivery). deliver_of s d.number d.bytes lent) same ∙ sym q.answers, p.fills ∙ ap (λ (d : Delivery). (lent_after s d.number d.bytes lent).grid) same ∙ sym q.fills)

-- ---- 7. a family that we do not know

-- whatever is delivered to a session of it, in whatever state, is refused: 1 for a block's length, else 2; session and grid stay
pub unknown-refused : (s : Session) → known s.family ≡ false → (lent : Lent) (c : Call) → Promised s lent c
    → (c.returned ≡ record { answer = Refused (cond (eqb (length c.sent.bytes) 1024) 2 1) c.sent.number 0; session = s })
    × (c.left.grid ≡ lent.grid)
unknown-refused s k lent c p =
    let v = unknown-wrong s k c.sent.number c.sent.bytes (room_of lent) in
    (p.answers ∙ ap (answer_of s) v, p.fills ∙ ap (λ (x : Verdict). (lent_by lent x).grid) v)
