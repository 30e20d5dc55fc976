-- Demand 3, the front door for C, for each family that we know. Everything here is said of one call of `dem_open` that answered 0 and any list of calls of `dem_deliver`
-- behind it, numbers and grid handed back as last left; each keeps its promise word for word (paper, proof Contracts).
use Prim.Native.Nat.{ℕ, ◌≤◌, ◌<◌}
use mathlib.Core.Bool.{true}
use mathlib.Core.List.{List, []}
use mathlib.Core.Logic.{◌↔◌}
use mathlib.Core.Path.{◌≡◌, refl, sym, ◌∙◌, ap, subst}
use native.Mathlib.Omega.{arith}
use lib.Dec.{leb, eqb}
use lib.IntN.{ℤ, pos}
use lib.ListN.{length, take, drop}
use Rattle.laws.specs.Family.{known}
use Rattle.laws.proofs.Tests.{by-test}
use Rattle.ground.specs.Blocks.{blocks_in}
use Rattle.ground.specs.Posts.{void, filled_in}
use Rattle.ground.specs.Extremes.{filled_only, sum_of}
use Rattle.session.specs.declared.Session.{Session}
use Rattle.session.specs.Session.{opened}
use Rattle.delivery.specs.declared.Answer.{Answer}
use Rattle.delivery.specs.declared.Answer.TheVariants.{Taken}
use Rattle.delivery.specs.Deliver.{lend, room_of, answer_kind, answer_place, verdict_of, Verdict, again, wrong, begins, fills, answer_of}
use Rattle.meaning.specs.Text.{profiles_in, cells_in, posts_in, height_in, all_posts, filled_posts, cell_of_post}
use Rattle.meaning.specs.Means.{session_of, grid_of}
use Rattle.meaning.specs.Deliveries.{Calls, Promised, Fresh, session_after, grid_after, taken_text, twice, Due, Holds, answer_to}
use Rattle.meaning.proofs.Desks.{desk}
use Rattle.meaning.proofs.OneDelivery.{Stands, stands-first}
use Rattle.meaning.proofs.Demand3 as Demand3
use Rattle.slip.specs.Slip.{handed}
use Rattle.ledger.specs.Numbers.{kept, session_numbers}
use Rattle.ledger.specs.Ledger.{session_said, kept_at, numbers_after_answer}
use Rattle.ledger.proofs.Inverse.{said-back}
use Rattle.office.specs.DeskCalls.{OpenPromised, DeskCall, DeskPromised, DeskCalls, numbers_after, cells_after, text_taken, sent_blocks}
use Rattle.office.proofs.AsCalls.{as_call, as_calls, as-calls, as-promised, as-cells, as-sent, as-numbers, as-text, told-bytes}

-- a fresh session's numbers, at the front of those that were lent
pub opened-is : (family : ℕ) (room numbers : List ℤ) → OpenPromised family room 0 numbers → numbers ≡ kept (opened family) room
opened-is family room numbers o =
    o.keeps
    ∙ by-test (leb session_numbers (length room)) (λ e. rw e)
    (λ e. let z : ◌≡◌ {A = ℕ} 0 12 = rw e at o.tells in absurd (omega (arith, z)))

pub opened-fresh : (family : ℕ) (room numbers : List ℤ) → OpenPromised family room 0 numbers → session_said numbers ≡ opened family
opened-fresh family room numbers o = ap session_said (opened-is family room numbers o) ∙ said-back (opened family) (drop session_numbers room)

-- what is not taken leaves the numbers
left_alone : (s : Session) (v : Verdict) (numbers : List ℤ) → ((answer_of s v).answer ≡ Taken → ⊥)
    → numbers_after_answer (answer_of s v).answer (answer_of s v).session numbers ≡ numbers
left_alone s again numbers not = refl
left_alone s (wrong kind block byte) numbers not = refl
left_alone s (begins h) numbers not = absurd (not refl)
left_alone s (fills after at hs) numbers not = absurd (not refl)

module _ (family : ℕ) (ours : known family ≡ true) (room numbers lent : List ℤ) (opening : OpenPromised family room 0 numbers) (cs : List DeskCall) (calls : DeskCalls numbers lent cs) where
  -- numbers and grid after the calls, and the blocks that were answered 0, joined as one text
  abbrev left : List ℤ
  left = numbers_after numbers cs

  abbrev grid : List ℤ
  grid = cells_after lent cs

  abbrev text : List ℕ
  text = text_taken cs

  -- the calls of `deliver` behind them, so that every theorem of Demand3 holds
  pub as-fresh : Fresh family lent (as_calls numbers lent cs)
  as-fresh = subst (λ (s : Session). Calls s (lend lent) (as_calls numbers lent cs)) (opened-fresh family room numbers opening) (as-calls calls)

  pub same_text : taken_text (as_calls numbers lent cs) ≡ text
  same_text =
      as-text lent
      (subst (λ (s : Session). Stands family [] lent (desk s (lend lent))) (sym (opened-fresh family room numbers opening)) (stands-first family ours lent)) calls

  pub same-grid : grid_after lent (as_calls numbers lent cs) ≡ grid
  same-grid = as-cells numbers lent cs

  -- ---- 1. what is kept

  kept-is : left ≡ kept (session_after (opened family) (as_calls numbers lent cs)) room
  kept-is =
      let start = opened-is family room numbers opening ∙ ap (λ (s : Session). kept s room) (sym (opened-fresh family room numbers opening)) in
      as-numbers room calls start
      ∙ ap (λ (s : Session). kept (session_after s (as_calls numbers lent cs)) room) (opened-fresh family room numbers opening)

  -- the numbers are those of what the taken blocks mean; what stands behind them is as lent
  pub numbers-mean : left ≡ kept (session_of family text) room
  numbers-mean =
      kept-is
      ∙ ap (λ (s : Session). kept s room) (Demand3.session-means family ours lent (as_calls numbers lent cs) as-fresh)
      ∙ ap (λ (t : List ℕ). kept (session_of family t) room) same_text

  -- and they say that session
  pub numbers-say : session_said left ≡ session_of family text
  numbers-say = ap session_said numbers-mean ∙ said-back (session_of family text) (drop session_numbers room)

  pub grid-means : grid ≡ grid_of text lent
  grid-means =
      sym same-grid ∙ Demand3.grid-means family ours lent (as_calls numbers lent cs) as-fresh ∙ ap (λ (t : List ℕ). grid_of t lent) same_text

  -- ---- 2. the next call

  abbrev pub Next : DeskCall → Type 0
  Next c = DeskPromised left grid c

  abbrev pub table : DeskCall → Answer
  table c = answer_to family text c.sent.number c.sent.bytes (room_of (lend lent))

  session-is : session_said left ≡ session_after (opened family) (as_calls numbers lent cs)
  session-is =
      numbers-say ∙ ap (session_of family) (sym same_text) ∙ sym (Demand3.session-means family ours lent (as_calls numbers lent cs) as-fresh)

  -- the same call, of `deliver`
  next-call : (c : DeskCall) → Next c → Demand3.Next family ours lent (as_calls numbers lent cs) as-fresh (as_call left grid c)
  next-call c p =
      subst (λ (g : List ℤ). Promised (session_after (opened family) (as_calls numbers lent cs)) (lend g) (as_call left grid c)) (sym same-grid)
      (subst (λ (s : Session). Promised s (lend grid) (as_call left grid c)) session-is (as-promised p))

  answer-is : (c : DeskCall) → Next c → (as_call left grid c).returned.answer ≡ table c
  answer-is c p =
      Demand3.answered-as-told family ours lent (as_calls numbers lent cs) as-fresh (as_call left grid c) (next-call c p)
      ∙ ap (λ (t : List ℕ). answer_to family t c.sent.number c.sent.bytes (room_of (lend lent))) same_text

  -- result and answer are the number and the place that document 01's table tells of the taken blocks
  pub answered-as-told : (c : DeskCall) → Next c → (c.result ≡ answer_kind (table c)) × (c.answer ≡ handed (answer_place (table c)) c.lent)
  answered-as-told c p =
      (p.tells ∙ ap answer_kind (answer-is c p), p.hands ∙ ap (λ (a : Answer). handed (answer_place a) c.lent) (answer-is c p))

  -- 0 exactly when the block is due: the next number, no rule broken by the taken blocks with it, the grid long enough
  pub taken-exactly : (c : DeskCall) → Next c → (c.result ≡ 0) ↔ Due family text lent c.sent
  taken-exactly c p =
      let e = Demand3.taken-exactly family ours lent (as_calls numbers lent cs) as-fresh (as_call left grid c) (next-call c p) in
      let told = (answered-as-told c p).0 in (
        (λ z. subst (λ (t : List ℕ). Due family t lent c.sent) same_text
            (e.0 (answer-is c p ∙ (told-bytes family text c.sent.number c.sent.bytes (room_of (lend lent))).taken (sym told ∙ z)))),
        λ due. p.tells ∙ ap answer_kind (e.1 (subst (λ (t : List ℕ). Due family t lent c.sent) (sym same_text) due)),
      )

  -- any other result, held or refused, changes no number and no cell
  pub not-taken-nothing : (c : DeskCall) → Next c → (c.result ≡ 0 → ⊥) → (c.session ≡ left) × (c.grid ≡ grid)
  not-taken-nothing c p not =
      let no : (as_call left grid c).returned.answer ≡ Taken → ⊥ = λ e. not (p.tells ∙ ap answer_kind e) in (
        p.keeps ∙ left_alone (session_said left) (verdict_of (session_said left) c.sent.number c.sent.bytes (room_of (lend grid))) left no,
        (Demand3.not-taken-nothing family ours lent (as_calls numbers lent cs) as-fresh (as_call left grid c) (next-call c p) no).1 ∙ same-grid,
      )

  -- ---- 3. every post in one cell (the rest of Demand3's cells follow in the same way from `as-fresh`, `same_text`, `same-grid`)

  pub post-in-its-cell : 1 ≤ blocks_in text → (j i : ℕ) → j < profiles_in text → i < posts_in text j
      → Holds grid (cell_of_post text j i) (height_in text j i)
  post-in-its-cell =
      subst (λ (g : List ℤ). 1 ≤ blocks_in text → (j i : ℕ) → j < profiles_in text → i < posts_in text j → Holds g (cell_of_post text j i) (height_in text j i))
      same-grid
      (subst
      (λ (t : List ℕ).
      1 ≤ blocks_in t → (j i : ℕ) → j < profiles_in t → i < posts_in t j
      → Holds (grid_after lent (as_calls numbers lent cs)) (cell_of_post t j i) (height_in t j i))
      same_text
      (Demand3.post-in-its-cell family ours lent (as_calls numbers lent cs) as-fresh))

  pub other-cells-void : 1 ≤ blocks_in text → (c : ℕ) → c < cells_in text
      → ((j i : ℕ) → j < profiles_in text → i < posts_in text j → cell_of_post text j i ≡ c → ⊥) → Holds grid c void
  other-cells-void =
      subst
      (λ (g : List ℤ).
      1 ≤ blocks_in text → (c : ℕ) → c < cells_in text
      → ((j i : ℕ) → j < profiles_in text → i < posts_in text j → cell_of_post text j i ≡ c → ⊥) → Holds g c void)
      same-grid
      (subst
      (λ (t : List ℕ).
      1 ≤ blocks_in t → (c : ℕ) → c < cells_in t → ((j i : ℕ) → j < profiles_in t → i < posts_in t j → cell_of_post t j i ≡ c → ⊥)
      → Holds (grid_after lent (as_calls numbers lent cs)) c void)
      same_text
      (Demand3.other-cells-void family ours lent (as_calls numbers lent cs) as-fresh))

  pub past-the-sheet : 1 ≤ blocks_in text → drop (cells_in text) grid ≡ drop (cells_in text) lent
  past-the-sheet =
      subst (λ (g : List ℤ). 1 ≤ blocks_in text → drop (cells_in text) g ≡ drop (cells_in text) lent) same-grid
      (subst (λ (t : List ℕ). 1 ≤ blocks_in t → drop (cells_in t) (grid_after lent (as_calls numbers lent cs)) ≡ drop (cells_in t) lent) same_text
      (Demand3.past-the-sheet family ours lent (as_calls numbers lent cs) as-fresh))

  pub filled-as-posts : 1 ≤ blocks_in text → filled_in (take (cells_in text) grid) ≡ filled_posts (all_posts text)
  filled-as-posts =
      subst (λ (g : List ℤ). 1 ≤ blocks_in text → filled_in (take (cells_in text) g) ≡ filled_posts (all_posts text)) same-grid
      (subst
      (λ (t : List ℕ). 1 ≤ blocks_in t → filled_in (take (cells_in t) (grid_after lent (as_calls numbers lent cs))) ≡ filled_posts (all_posts t)) same_text
      (Demand3.filled-as-posts family ours lent (as_calls numbers lent cs) as-fresh))

  -- 02, request 1: number 37 is the sum of the sheet's filled cells
  pub sum-over-cells : 1 ≤ blocks_in text → kept_at left 37 ≡ sum_of (filled_only (take (cells_in text) grid))
  sum-over-cells =
      subst (λ (g : List ℤ). 1 ≤ blocks_in text → kept_at left 37 ≡ sum_of (filled_only (take (cells_in text) g))) same-grid
      (subst
      (λ (t : List ℕ).
      1 ≤ blocks_in t → kept_at left 37 ≡ sum_of (filled_only (take (cells_in t) (grid_after lent (as_calls numbers lent cs)))))
      same_text
      (λ some.
      ap (λ (l : List ℤ). kept_at l 37) kept-is ∙ Demand3.sum-over-cells family ours lent (as_calls numbers lent cs) as-fresh some))

  -- 02, request 2: number 38 stays the family that was opened
  pub family-kept : kept_at left 38 ≡ pos family
  family-kept =
      ap (λ (l : List ℤ). kept_at l 38) numbers-mean
      ∙ by-test (eqb (blocks_in text) 0) (λ e. rw e) (λ e. rw e)

  pub lent-until-block-0 : blocks_in text ≡ 0 → grid ≡ lent
  lent-until-block-0 none =
      sym same-grid ∙ Demand3.lent-until-block-0 family ours lent (as_calls numbers lent cs) as-fresh (ap blocks_in same_text ∙ none)

-- ---- 4. pressed again: other calls behind the same `dem_open`

module _ (family : ℕ) (ours : known family ≡ true) (room numbers lent : List ℤ) (opening : OpenPromised family room 0 numbers) (cs es : List DeskCall) (calls : DeskCalls numbers lent cs)
    (others : DeskCalls numbers lent es) where
  abbrev Same : Type 0
  Same = (numbers_after numbers es ≡ numbers_after numbers cs) × (cells_after lent es ≡ cells_after lent cs)

  -- the same taken blocks leave the same numbers and the same cells
  pub same-taken-blocks : text_taken es ≡ text_taken cs → Same
  same-taken-blocks e = (
    numbers-mean family ours room numbers lent opening es others
        ∙ ap (λ (t : List ℕ). kept (session_of family t) room) e
        ∙ sym (numbers-mean family ours room numbers lent opening cs calls),
    grid-means family ours room numbers lent opening es others
        ∙ ap (λ (t : List ℕ). grid_of t lent) e
        ∙ sym (grid-means family ours room numbers lent opening cs calls),
  )

  -- every delivery twice in a row ends as once
  pub twice-as-once : sent_blocks es ≡ twice (sent_blocks cs) → Same
  twice-as-once e =
      let once = Demand3.twice-as-once family ours lent (as_calls numbers lent cs) (as-fresh family ours room numbers lent opening cs calls) (as_calls numbers lent es)
      (as-fresh family ours room numbers lent opening es others)
      (as-sent numbers lent es ∙ e ∙ ap twice (sym (as-sent numbers lent cs))) in (
        kept-is family ours room numbers lent opening es others
            ∙ ap (λ (s : Session). kept s room) once.0
            ∙ sym (kept-is family ours room numbers lent opening cs calls),
        sym (as-cells numbers lent es) ∙ once.1 ∙ as-cells numbers lent cs,
      )
