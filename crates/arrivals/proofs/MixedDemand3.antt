-- Demand 3, the front door where runs of blocks arrive too (02, request 3), for each family that we know. Everything here is said of calls of
-- `load::deliver` and `load::deliver_run`, mixed in any order, each of which keeps its promise word for word (paper, proof Contracts), session
-- and grid handed back as last returned. They come to single deliveries, so every theorem of Demand3 holds of them.
use mathlib.Core.Bool.{true, false}
use mathlib.Core.List.{List, ◌++◌}
use mathlib.Core.Logic.{◌↔◌}
use mathlib.Core.Path.{◌≡◌, refl, sym, ◌∙◌, ap, subst}
use Prim.Native.Nat.{ℕ, ◌+◌, ◌%◌, ◌≤◌, ◌<◌}
use lib.Dec.{eqb}
use lib.IntN.{ℤ}
use lib.ListN.{length}
use Rattle.laws.specs.Family.{known}
use Rattle.ground.specs.Blocks.{block_at, blocks_in}
use Rattle.ground.specs.Posts.{void}
use Rattle.session.specs.declared.Session.{Session}
use Rattle.session.specs.Session.{opened}
use Rattle.delivery.specs.declared.Answer.TheVariants.{Taken}
use Rattle.delivery.specs.Deliver.{lend, room_of}
use Rattle.runs.specs.declared.Ran.{Ran}
use Rattle.runs.specs.Run.{Running, is_refused, run_to, ran_of}
use Rattle.meaning.specs.Text.{profiles_in, cells_in, posts_in, height_in, cell_of_post}
use Rattle.meaning.specs.Means.{session_of, grid_of}
use Rattle.meaning.specs.Deliveries.{Call, Calls, Promised, Fresh, session_after, grid_after, taken_text, deliveries, answer_to, Due, Holds}
use Rattle.meaning.proofs.Demand3 as Demand3
use Rattle.arrivals.specs.Arrivals.{RunCall, RunPromised, Arrival, FreshArrivals, session_last, grid_last, call_of, calls_to, singles, sent_to, looked_at}
use Rattle.arrivals.proofs.AsSingles.{singles-behind, behind, calls-joined, after-joined, grid-joined, taken-joined, sent-are}
use Rattle.runs.proofs.Ends.{answer, all-counted, refused-leaves}

module _ (family : ℕ) (ours : known family ≡ true) (lent : List ℤ) (xs : List Arrival) (arrived : FreshArrivals family lent xs) where
  -- the single deliveries behind what arrived, session and grid after it, and the taken blocks joined as one text
  abbrev pub calls : List Call
  calls = singles (opened family) (lend lent) xs

  abbrev pub session : Session
  session = session_last (opened family) xs

  abbrev pub grid : List ℤ
  grid = grid_last lent xs

  abbrev pub text : List ℕ
  text = taken_text calls

  -- ---- 1. what arrives is demand 3's list of deliveries

  pub run-as-deliveries : Fresh family lent calls
  run-as-deliveries = (singles-behind arrived).0

  pub same-session : session_after (opened family) calls ≡ session
  same-session = (singles-behind arrived).1.0

  pub same-grid : grid_after lent calls ≡ grid
  same-grid = (singles-behind arrived).1.1

  -- ---- 2. so session and grid are what the taken blocks mean

  pub session-means : session ≡ session_of family text
  session-means = sym same-session ∙ Demand3.session-means family ours lent calls run-as-deliveries

  pub grid-means : grid ≡ grid_of text lent
  grid-means = sym same-grid ∙ Demand3.grid-means family ours lent calls run-as-deliveries

  pub lent-until-block-0 : blocks_in text ≡ 0 → grid ≡ lent
  lent-until-block-0 none = sym same-grid ∙ Demand3.lent-until-block-0 family ours lent calls run-as-deliveries none

  pub post-in-its-cell : 1 ≤ blocks_in text → (j i : ℕ) → j < profiles_in text → i < posts_in text j
      → Holds grid (cell_of_post text j i) (height_in text j i)
  post-in-its-cell =
      subst
      (λ (g : List ℤ). 1 ≤ blocks_in text → (j i : ℕ) → j < profiles_in text → i < posts_in text j → Holds g (cell_of_post text j i) (height_in text j i))
      same-grid
      (Demand3.post-in-its-cell family ours lent calls run-as-deliveries)

  pub other-cells-void : 1 ≤ blocks_in text → (c : ℕ) → c < cells_in text
      → ((j i : ℕ) → j < profiles_in text → i < posts_in text j → cell_of_post text j i ≡ c → ⊥) → Holds grid c void
  other-cells-void =
      subst
      (λ (g : List ℤ).
      1 ≤ blocks_in text → (c : ℕ) → c < cells_in text
      → ((j i : ℕ) → j < profiles_in text → i < posts_in text j → cell_of_post text j i ≡ c → ⊥) → Holds g c void)
      same-grid
      (Demand3.other-cells-void family ours lent calls run-as-deliveries)

  -- ---- 3. the next block, and the next run

  same_next : {c : Call} → Promised session (lend grid) c → Demand3.Next family ours lent calls run-as-deliveries c
  same_next {c} p =
      subst (λ (g : List ℤ). Promised (session_after (opened family) calls) (lend g) c) (sym same-grid)
      (subst (λ (s : Session). Promised s (lend grid) c) (sym same-session) p)

  -- a single block is taken exactly when it is due
  pub taken-exactly : (c : Call) → Promised session (lend grid) c → (c.returned.answer ≡ Taken) ↔ Due family text lent c.sent
  taken-exactly c p = Demand3.taken-exactly family ours lent calls run-as-deliveries c (same_next p)

  module _ (c : RunCall) where
    -- where the run stands after n blocks, and the calls behind them
    abbrev pub ran : ℕ → Running
    ran n = run_to session c.number c.blocks (lend grid) n

    abbrev pub before : ℕ → List Call
    before n = calls_to session c.number c.blocks (lend grid) n

    going : (n : ℕ) → Fresh family lent (calls ++ before n)
    going n =
        calls-joined run-as-deliveries
        (subst (λ (s : Session). Calls s (lend (grid_after lent calls)) (before n)) (sym same-session)
        (subst (λ (g : List ℤ). Calls session (lend g) (before n)) (sym same-grid) (behind session c.number c.blocks (lend grid) n).calls))

    session-then : (n : ℕ) → session_after (opened family) (calls ++ before n) ≡ (ran n).session
    session-then n =
        after-joined (opened family) calls (before n)
        ∙ ap (λ (s : Session). session_after s (before n)) same-session
        ∙ (behind session c.number c.blocks (lend grid) n).session-is

    grid-then : (n : ℕ) → grid_after lent (calls ++ before n) ≡ (ran n).lent.grid
    grid-then n =
        grid-joined lent calls (before n) ∙ ap (λ (g : List ℤ). grid_after g (before n)) same-grid ∙ (behind session c.number c.blocks (lend grid) n).grid-is

    -- each block that is looked at is answered as document 01's table tells of the blocks taken until then
    pub block-answered : (n : ℕ)
        → answer session c.number c.blocks (lend grid) n
        ≡ answer_to family (text ++ taken_text (before n)) (c.number + n) (block_at c.blocks n) (room_of (lend lent))
    block-answered n =
        let d = call_of (ran n) (c.number + n) (block_at c.blocks n) in
        let p : Promised (ran n).session (ran n).lent d = record { answers = refl; fills = refl } in
        Demand3.answered-as-told family ours lent (calls ++ before n) (going n) d
        (subst (λ (s : Session). Promised s (lend (grid_after lent (calls ++ before n))) d) (sym (session-then n))
        (subst (λ (g : List ℤ). Promised (ran n).session (lend g) d) (sym (grid-then n)) p))
        ∙ ap (λ (t : List ℕ). answer_to family t (c.number + n) (block_at c.blocks n) (room_of (lend lent))) (taken-joined calls (before n))

    -- those behind a run of n blocks are its blocks under their own numbers, up to the first refusal
    pub blocks-sent : (n : ℕ) → deliveries (before n) ≡ sent_to c.number c.blocks (looked_at (ran n))
    blocks-sent n = sent-are session c.number c.blocks (lend grid) n

    module _ (p : RunPromised session (lend grid) c) (whole : eqb (length c.blocks % 1024) 0 ≡ true) where
      returned-is : c.returned ≡ ran_of (ran (blocks_in c.blocks))
      returned-is = rw whole at p.answers

      left_is : c.left.grid ≡ (ran (blocks_in c.blocks)).lent.grid
      left_is = rw whole at p.fills

      -- a refused run: the refusal is that of the block behind those counted, under its own number; what was taken before it stays, and it
      -- changes nothing itself
      pub refused-block : is_refused c.returned.answer ≡ true
          → (c.returned.answer ≡ answer session c.number c.blocks (lend grid) c.returned.count)
          × ((c.returned.session ≡ (ran c.returned.count).session) × (c.left.grid ≡ (ran c.returned.count).lent.grid))
      refused-block e =
          let n = blocks_in c.blocks in
          let k = refused-leaves session c.number c.blocks (lend grid) n (ap (λ (r : Ran). is_refused r.answer) (sym returned-is) ∙ e) in
          let count : c.returned.count ≡ (ran n).count = ap (λ (r : Ran). r.count) returned-is in
          rw count (ap (λ (r : Ran). r.answer) returned-is ∙ k.1.1.1, (ap (λ (r : Ran). r.session) returned-is ∙ k.1.0, left_is ∙ ap (λ l. l.grid) k.1.1.0))

      -- a run without a refusal: all its blocks were taken or held
      pub all-passed : is_refused c.returned.answer ≡ false → c.returned.count ≡ blocks_in c.blocks
      all-passed e =
          ap (λ (r : Ran). r.count) returned-is
          ∙ all-counted session c.number c.blocks (lend grid) (blocks_in c.blocks) (ap (λ (r : Ran). is_refused r.answer) (sym returned-is) ∙ e)
