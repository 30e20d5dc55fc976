-- A run block by block: a refusal ends it, it counts no block twice, and an unsound session is refused at its first block.
use mathlib.Core.Bool.{true, false}
use mathlib.Core.List.{List}
use mathlib.Core.Logic.{◌⊎◌, inl, inr}
use mathlib.Core.Path.{◌≡◌, refl, sym, ◌∙◌, ap, subst}
use Prim.Native.Nat.{ℕ, zero, suc, ◌+◌, ◌%◌, ◌≤◌, ◌<◌}
use native.Mathlib.Omega.{arith}
use borrow.Author.Tests.{eq-eqb, eqb-true, eqb-false, ltb-false}
use lib.Dec.{eqb, ltb}
use lib.ListN.{length}
use Rattle.laws.proofs.Tests.{by-test, either}
use Rattle.ground.specs.Blocks.{block_at, blocks_in}
use Rattle.session.specs.declared.Session.{Session}
use Rattle.session.specs.Session.{sound}
use Rattle.delivery.specs.declared.Answer.{Answer}
use Rattle.delivery.specs.declared.Answer.TheVariants.{Taken, Held, Refused}
use Rattle.delivery.specs.Deliver.{Lent, Room, room_of, Verdict, wrong, verdict_of, answer_of, lent_by, deliver_of}
use Rattle.runs.proofs.Passed.{is_taken, shown, unmoved}
use Rattle.runs.specs.Run.{Running, running, set_out, is_refused, counted, with_block, go_on, run_to, run_of}

counted-most : (a : Answer) (n : ℕ) → counted a n ≤ n + 1
counted-most Taken n = omega arith
counted-most Held n = omega arith
counted-most (Refused kind block byte) n = omega arith

-- past a refusal nothing is looked at; before one the next block is delivered
pub ended : (r : Running) (number : ℕ) (block : List ℕ) → is_refused r.answer ≡ true → go_on r number block ≡ r
ended r number block e = rw e

pub goes_on : (r : Running) (number : ℕ) (block : List ℕ) → is_refused r.answer ≡ false → go_on r number block ≡ with_block r number block
goes_on r number block e = rw e

module _ (s : Session) (number : ℕ) (blocks : List ℕ) (lent : Lent) where
  abbrev at : ℕ → Running
  at n = run_to s number blocks lent n

  pub run_none : at 0 ≡ set_out s lent
  unfolding run_to
  run_none = refl

  pub block_more : (n : ℕ) → at (suc n) ≡ go_on (at n) (number + n) (block_at blocks n)
  unfolding run_to
  block_more n = refl

  pub run-next : (n : ℕ) → at (n + 1) ≡ go_on (at n) (number + n) (block_at blocks n)
  run-next n = ap at (let e : n + 1 ≡ suc n = omega arith in e) ∙ block_more n

  -- a refusal ends the run
  pub run-stays : (n m : ℕ) → n ≤ m → is_refused (at n).answer ≡ true → at m ≡ at n
  run-stays n zero le e = ap at (let z : 0 ≡ n = omega (arith, le) in z)
  run-stays n (suc m) le e =
      by-test (eqb n (suc m)) (λ q. ap at (sym (eqb-true n (suc m) q)))
      (λ q.
      let ne : n ≡ suc m → ⊥ = eqb-false n (suc m) q in
      let same = run-stays n m (omega (arith, le, ne)) e in
      block_more m ∙ ended (at m) (number + m) (block_at blocks m) (ap (λ (r : Running). is_refused r.answer) same ∙ e) ∙ same)

  -- no more are counted than were looked at
  pub count_most : (n : ℕ) → (at n).count ≤ n
  count_most zero = rw run_none (omega arith)
  count_most (suc n) =
      by-test (is_refused (at n).answer)
      (λ e. rw (block_more n, ended (at n) (number + n) (block_at blocks n) e) (omega (arith, count_most n)))
      (λ e.
      rw (block_more n, goes_on (at n) (number + n) (block_at blocks n) e)
      (omega (arith, count_most n, counted-most (deliver_of (at n).session (number + n) (block_at blocks n) (at n).lent).answer (at n).count)))

-- an unsound session is refused at the first block, and no other is looked at
unsound-wrong : (s : Session) (number : ℕ) (block : List ℕ) (room : Room) → sound s ≡ false → length block ≡ 1024
    → verdict_of s number block room ≡ wrong 2 number 0
unfolding verdict_of
unsound-wrong s number block room t l = rw (eq-eqb (length block) 1024 l, t)

-- one delivery, by its verdict
by-verdict : (r : Running) (number : ℕ) (block : List ℕ) (v : Verdict) → verdict_of r.session number block (room_of r.lent) ≡ v
    → with_block r number block ≡ running (answer_of r.session v).answer (answer_of r.session v).session (lent_by r.lent v) (counted (answer_of r.session v).answer r.count)
by-verdict r number block v e =
    ap (λ (x : Verdict). running (answer_of r.session x).answer (answer_of r.session x).session (lent_by r.lent x) (counted (answer_of r.session x).answer r.count)) e

pub run-unsound : (s : Session) (number : ℕ) (blocks : List ℕ) (lent : Lent) → sound s ≡ false → length (block_at blocks 0) ≡ 1024
    → (n : ℕ) → 1 ≤ n → run_to s number blocks lent n ≡ running (Refused 2 number 0) s lent 0
run-unsound s number blocks lent t l n some =
    let at0 : number + 0 ≡ number = omega arith in
    let first : run_to s number blocks lent 1 ≡ running (Refused 2 number 0) s lent 0 =
    block_more s number blocks lent 0
    ∙ rw (run_none s number blocks lent, at0) (by-verdict (set_out s lent) number (block_at blocks 0) (wrong 2 number 0) (unsound-wrong s number (block_at blocks 0) (room_of lent) t l))
    in
    run-stays s number blocks lent 1 n some (ap (λ (r : Running). is_refused r.answer) first) ∙ first

-- whatever keeps from one delivery to the next keeps through a run
module _ (s : Session) (number : ℕ) (blocks : List ℕ) (lent : Lent) (P : Session → Type 0)
    (step : (x : Session) (m : ℕ) (block : List ℕ) (l : Lent) → P x → P (deliver_of x m block l).session) where
  pub run-keeps : P s → (n : ℕ) → P (run_to s number blocks lent n).session
  run-keeps p zero = rw (run_none s number blocks lent) p
  run-keeps p (suc n) =
      let r = run_to s number blocks lent n in
      by-test (is_refused r.answer)
      (λ e. rw (block_more s number blocks lent n, ended r (number + n) (block_at blocks n) e) (run-keeps p n))
      (λ e.
      rw (block_more s number blocks lent n, goes_on r (number + n) (block_at blocks n) e) (step r.session (number + n) (block_at blocks n) r.lent (run-keeps p n)))

  pub ran-keeps : P s → P (run_of s number blocks lent).session
  ran-keeps p = either (λ (r : Running). P r.session) (eqb (length blocks % 1024) 0) (run-keeps p (blocks_in blocks)) p

-- a run that took no block leaves the session
Moves : Session → Session → Type 0
Moves s x = (x ≡ s) ⊎ (s.taken < x.taken)

moves-on : (s x : Session) (m : ℕ) (block : List ℕ) (l : Lent) → Moves s x → Moves s (deliver_of x m block l).session
unfolding Moves
moves-on s x m block l k =
    let v = verdict_of x m block (room_of l) in
    by-test (is_taken (answer_of x v).answer) (λ t. inr (further t k))
    (λ t. subst (Moves s) (sym (unmoved x v t)) k)
  where
    further : is_taken (answer_of x (verdict_of x m block (room_of l))).answer ≡ true → Moves s x → s.taken < (answer_of x (verdict_of x m block (room_of l))).session.taken
    further t (inl e) = omega (arith, (shown x m (room_of l) block).more-is t, ap (λ (y : Session). y.taken) e)
    further t (inr e) = omega (arith, (shown x m (room_of l) block).more-is t, e)

pub none-taken : (s : Session) (number : ℕ) (blocks : List ℕ) (lent : Lent) → ltb s.taken (run_of s number blocks lent).session.taken ≡ false
    → (run_of s number blocks lent).session ≡ s
unfolding Moves
none-taken s number blocks lent none = go (ran-keeps s number blocks lent (Moves s) (moves-on s) (inl refl))
  where
    go : Moves s (run_of s number blocks lent).session → (run_of s number blocks lent).session ≡ s
    go (inl e) = e
    go (inr e) = absurd (omega (arith, e, ltb-false s.taken (run_of s number blocks lent).session.taken none))
