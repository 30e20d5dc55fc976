-- Runs are single deliveries: the calls behind a run keep the promise of `deliver`, and leave what the run leaves.
use mathlib.Core.Bool.{false}
use mathlib.Core.List.{List, [], ◌∷◌, ◌++◌}
use mathlib.Core.Path.{◌≡◌, refl, sym, ◌∙◌, ap, subst}
use Prim.Native.Nat.{ℕ, zero, suc, ◌+◌, ◌%◌}
use native.Mathlib.Omega.{arith}
use lib.Dec.{eqb}
use lib.IntN.{ℤ}
use lib.ListN.{length}
use Rattle.laws.proofs.Tests.{by-test}
use Rattle.laws.proofs.Lists.{append-nil, append-brackets}
use Rattle.ground.specs.Blocks.{block_at, blocks_in}
use Rattle.session.specs.declared.Session.{Session}
use Rattle.delivery.specs.Deliver.{Lent, lend, deliver_of, lent_after}
use Rattle.runs.specs.declared.Ran.{Ran}
use Rattle.runs.specs.Run.{Running, is_refused, with_block, run_to, run_of, ran_of}
use Rattle.runs.proofs.RunLaws.{run_none, block_more, ended, goes_on}
use Rattle.runs.proofs.Ends.{answer, stays, steps, counted-one, all-counted}
use Rattle.meaning.specs.Deliveries.{Delivery, Call, Calls, no_call, called, session_after, grid_after, taken_text, bytes_if, deliveries}
use Rattle.arrivals.specs.Arrivals.{RunCall, RunPromised, Arrival, single, several, Arrivals, none_yet, one_more, run_more, session_last, grid_last, call_of, calls_to, run_calls, singles, sent_to, looked_at}

-- ---- calls joined

pub after-joined : (s : Session) (cs ds : List Call) → session_after s (cs ++ ds) ≡ session_after (session_after s cs) ds
after-joined s [] ds = refl
after-joined s (c ∷ cs) ds = after-joined c.returned.session cs ds

pub grid-joined : (g : List ℤ) (cs ds : List Call) → grid_after g (cs ++ ds) ≡ grid_after (grid_after g cs) ds
grid-joined g [] ds = refl
grid-joined g (c ∷ cs) ds = grid-joined c.left.grid cs ds

pub calls-joined : {s : Session} {lent : Lent} {cs ds : List Call} → Calls s lent cs
    → Calls (session_after s cs) (lend (grid_after lent.grid cs)) ds → Calls s lent (cs ++ ds)
calls-joined no_call k = k
calls-joined (called p rest) k = called p (calls-joined rest k)

pub taken-joined : (cs ds : List Call) → taken_text (cs ++ ds) ≡ taken_text cs ++ taken_text ds
taken-joined [] ds = refl
taken-joined (c ∷ cs) ds =
    ap (λ (t : List ℕ). bytes_if c.returned.answer c.sent.bytes ++ t) (taken-joined cs ds)
    ∙ sym (append-brackets (bytes_if c.returned.answer c.sent.bytes) (taken_text cs) (taken_text ds))

pub deliveries-joined : (cs ds : List Call) → deliveries (cs ++ ds) ≡ deliveries cs ++ deliveries ds
deliveries-joined [] ds = refl
deliveries-joined (c ∷ cs) ds = ap (λ (l : List Delivery). c.sent ∷ l) (deliveries-joined cs ds)

-- ---- the calls behind a run

-- they keep the promise, and leave session and grid so
pub record Behind (s : Session) (lent : Lent) (cs : List Call) (r : Running) : Type 0 where
  pub calls : Calls s lent cs
  pub session-is : session_after s cs ≡ r.session
  pub grid-is : grid_after lent.grid cs ≡ r.lent.grid

module _ (s : Session) (number : ℕ) (blocks : List ℕ) (lent : Lent) where
  abbrev at : ℕ → Running
  at n = run_to s number blocks lent n

  abbrev cs : ℕ → List Call
  cs n = calls_to s number blocks lent n

  -- a block more
  one-behind : (n : ℕ) → is_refused (at n).answer ≡ false → Behind s lent (cs n) (at n)
      → Behind s lent (cs n ++ (call_of (at n) (number + n) (block_at blocks n) ∷ [])) (with_block (at n) (number + n) (block_at blocks n))
  one-behind n e b =
      let c = call_of (at n) (number + n) (block_at blocks n) in
      record {
        calls =
            calls-joined b.calls
            (subst (λ (x : Session). Calls x (lend (grid_after lent.grid (cs n))) (c ∷ [])) (sym b.session-is)
            (subst (λ (g : List ℤ). Calls (at n).session (lend g) (c ∷ [])) (sym b.grid-is)
            (called (record { answers = refl; fills = refl }) no_call)));
        session-is = after-joined s (cs n) (c ∷ []);
        grid-is = grid-joined lent.grid (cs n) (c ∷ []);
      }

  pub behind : (n : ℕ) → Behind s lent (cs n) (at n)
  behind zero = rw (run_none s number blocks lent) (record { calls = no_call; session-is = refl; grid-is = refl })
  behind (suc n) =
      by-test (is_refused (at n).answer)
      (λ e.
      rw (block_more s number blocks lent n, ended (at n) (number + n) (block_at blocks n) e, e)
      (subst (λ (l : List Call). Behind s lent l (at n)) (sym (append-nil (cs n))) (behind n)))
      (λ e. rw (block_more s number blocks lent n, goes_on (at n) (number + n) (block_at blocks n) e, e) (one-behind n e (behind n)))

  -- what the calls deliver: the run's blocks under their own numbers, as many as were looked at
  pub sent-are : (n : ℕ) → deliveries (cs n) ≡ sent_to number blocks (looked_at (at n))
  sent-are zero = rw (run_none s number blocks lent) refl
  sent-are (suc n) =
      by-test (is_refused (at n).answer)
      (λ f. rw (f, stays s number blocks lent n f) (ap deliveries (append-nil (cs n)) ∙ sent-are n))
      (λ f.
      let d : Delivery = record { number = number + n; bytes = block_at blocks n } in
      let k : looked_at (at n) ≡ n = rw f (all-counted s number blocks lent n f) in
      let m : looked_at (at (suc n)) ≡ suc n = ap looked_at (steps s number blocks lent n f) ∙ counted-one (answer s number blocks lent n) (at n).count ∙ (let z : (at n).count + 1 ≡ suc n = omega (arith, all-counted s number blocks lent n f) in z) in
      rw f
      (deliveries-joined (cs n) (call_of (at n) (number + n) (block_at blocks n) ∷ [])
      ∙ ap (λ (l : List Delivery). l ++ (d ∷ [])) (sent-are n ∙ ap (sent_to number blocks) k)
      ∙ ap (sent_to number blocks) (sym m)))

-- ---- whatever arrives

-- the run's calls, by its promise
run-behind : {s : Session} {lent : Lent} {c : RunCall} → RunPromised s lent c
    → Calls s lent (run_calls s lent c) × ((session_after s (run_calls s lent c) ≡ c.returned.session) × (grid_after lent.grid (run_calls s lent c) ≡ c.left.grid))
run-behind {s} {lent} {c} p =
    let session : c.returned.session ≡ (run_of s c.number c.blocks lent).session = ap (λ (r : Ran). r.session) p.answers in
    by-test (eqb (length c.blocks % 1024) 0)
    (λ e.
    let b = behind s c.number c.blocks lent (blocks_in c.blocks) in
    rw e (b.calls, (b.session-is ∙ sym (rw e at session), b.grid-is ∙ sym (rw e at p.fills))))
    (λ e. rw e (no_call, (sym (rw e at session), sym (rw e at p.fills))))

pub singles-behind : {s : Session} {lent : Lent} {xs : List Arrival} → Arrivals s lent xs
    → Calls s lent (singles s lent xs) × ((session_after s (singles s lent xs) ≡ session_last s xs) × (grid_after lent.grid (singles s lent xs) ≡ grid_last lent.grid xs))
singles-behind none_yet = (no_call, (refl, refl))
singles-behind (one_more p rest) = let k = singles-behind rest in (called p k.0, k.1)
singles-behind (run_more {s} {lent} {c} {xs} p rest) =
    let k = singles-behind rest in
    let b = run-behind p in
    let more = singles c.returned.session c.left xs in (
      calls-joined b.0
          (subst (λ (x : Session). Calls x (lend (grid_after lent.grid (run_calls s lent c))) more) (sym b.1.0)
          (subst (λ (g : List ℤ). Calls c.returned.session (lend g) more) (sym b.1.1) k.0)),
      (
        after-joined s (run_calls s lent c) more ∙ ap (λ (x : Session). session_after x more) b.1.0 ∙ k.1.0,
        grid-joined lent.grid (run_calls s lent c) more ∙ ap (λ (g : List ℤ). grid_after g more) b.1.1 ∙ k.1.1,
      ),
    )

-- ---- whatever is sent has such calls, so what is said of them is not said of nothing

pub data Given : Type 0 where
  block : Delivery → Given
  run : ℕ → List ℕ → Given

abbrev pub arrivals_for : Session → Lent → List Given → List Arrival
arrivals_for s lent [] = []
arrivals_for s lent (block d ∷ gs) =
    single
    (record { sent = d; returned = deliver_of s d.number d.bytes lent; left = lent_after s d.number d.bytes lent })
    ∷ arrivals_for (deliver_of s d.number d.bytes lent).session (lent_after s d.number d.bytes lent) gs
arrivals_for s lent (run number blocks ∷ gs) =
    several
    (record { number = number; blocks = blocks; returned = ran_of (run_of s number blocks lent); left = (run_of s number blocks lent).lent })
    ∷ arrivals_for (run_of s number blocks lent).session (run_of s number blocks lent).lent gs

pub arrivals-kept : (s : Session) (lent : Lent) (gs : List Given) → Arrivals s lent (arrivals_for s lent gs)
arrivals-kept s lent [] = none_yet
arrivals-kept s lent (block d ∷ gs) =
    one_more (record { answers = refl; fills = refl })
    (arrivals-kept (deliver_of s d.number d.bytes lent).session (lent_after s d.number d.bytes lent) gs)
arrivals-kept s lent (run number blocks ∷ gs) =
    run_more (record { answers = refl; fills = refl })
    (arrivals-kept (run_of s number blocks lent).session (run_of s number blocks lent).lent gs)
