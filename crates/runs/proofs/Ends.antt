-- How a run ends: what it counts, what a refusal leaves, and the cases in which no block is looked at.
use mathlib.Core.Bool.{true, false, cond}
use mathlib.Core.List.{List}
use mathlib.Core.Path.{◌≡◌, refl, sym, ◌∙◌, ap}
use Prim.Native.Nat.{ℕ, zero, suc, ◌+◌, ◌*◌, ◌%◌, ◌≤◌, ◌<◌}
use native.Mathlib.Omega.{arith}
use borrow.Author.Tests.{eq-eqb, ne_eqb}
use lib.ListN.{length, drop, length-take, length-drop}
use Rattle.laws.proofs.Tests.{by-test, clash}
use Rattle.ground.specs.Blocks.{block_at, blocks_in}
use Rattle.session.specs.declared.Session.{Session}
use Rattle.session.specs.Session.{sound}
use Rattle.delivery.specs.declared.Answer.{Answer}
use Rattle.delivery.specs.declared.Answer.TheVariants.{Taken, Held, Refused}
use Rattle.delivery.specs.Deliver.{Lent, room_of, Verdict, again, wrong, begins, fills, verdict_of, answer_of, lent_by, deliver_of}
use Rattle.runs.specs.Run.{Running, running, set_out, is_refused, counted, with_block, run_to, run_of}
use Rattle.runs.proofs.Passed.{is_taken, unmoved}
use Rattle.runs.proofs.RunLaws.{run_none, block_more, ended, goes_on, run-unsound}

-- ---- what is counted

-- a block looked at is counted, or refused
pub counted-one : (a : Answer) (k : ℕ) → cond (is_refused a) (counted a k + 1) (counted a k) ≡ k + 1
counted-one Taken k = refl
counted-one Held k = refl
counted-one (Refused kind block byte) k = refl

refused-uncounted : (a : Answer) (k : ℕ) → is_refused a ≡ true → counted a k ≡ k
refused-uncounted Taken k e = clash (sym e)
refused-uncounted Held k e = clash (sym e)
refused-uncounted (Refused kind block byte) k e = refl

refused-untaken : (a : Answer) → is_refused a ≡ true → is_taken a ≡ false
refused-untaken Taken e = clash (sym e)
refused-untaken Held e = refl
refused-untaken (Refused kind block byte) e = refl

-- what is not taken leaves what is lent
unwritten : (s : Session) (lent : Lent) (v : Verdict) → is_taken (answer_of s v).answer ≡ false → lent_by lent v ≡ lent
unwritten s lent again e = refl
unwritten s lent (wrong kind block byte) e = refl
unwritten s lent (begins h) e = clash e
unwritten s lent (fills after at hs) e = clash e

module _ (s : Session) (number : ℕ) (blocks : List ℕ) (lent : Lent) where
  abbrev at : ℕ → Running
  at n = run_to s number blocks lent n

  -- ---- one block more, or none

  pub stays : (n : ℕ) → is_refused (at n).answer ≡ true → at (suc n) ≡ at n
  stays n f = block_more s number blocks lent n ∙ ended (at n) (number + n) (block_at blocks n) f

  pub steps : (n : ℕ) → is_refused (at n).answer ≡ false → at (suc n) ≡ with_block (at n) (number + n) (block_at blocks n)
  steps n f = block_more s number blocks lent n ∙ goes_on (at n) (number + n) (block_at blocks n) f

  -- the answer of block n, where it is looked at
  abbrev pub answer : ℕ → Answer
  answer n = (deliver_of (at n).session (number + n) (block_at blocks n) (at n).lent).answer

  -- where no block was refused all were counted
  pub all-counted : (n : ℕ) → is_refused (at n).answer ≡ false → (at n).count ≡ n
  all-counted zero e = rw (run_none s number blocks lent) refl
  all-counted (suc n) e =
      by-test (is_refused (at n).answer) (λ f. clash (sym f ∙ ap (λ (r : Running). is_refused r.answer) (sym (stays n f)) ∙ e))
      (λ f.
      let g : is_refused (answer n) ≡ false = ap (λ (x : Running). is_refused x.answer) (sym (steps n f)) ∙ e in
      let k : counted (answer n) (at n).count ≡ (at n).count + 1 = sym (rw g refl) ∙ counted-one (answer n) (at n).count in
      ap (λ (x : Running). x.count) (steps n f) ∙ k ∙ (let z : (at n).count + 1 ≡ suc n = omega (arith, all-counted n f) in z))

  -- a refused run leaves what its counted blocks alone leave: "what was taken before it stays", and the refused block changes nothing
  pub refused-leaves : (n : ℕ) → is_refused (at n).answer ≡ true
      → ((at n).count < n)
      × (((at n).session ≡ (at (at n).count).session) × (((at n).lent ≡ (at (at n).count).lent) × ((at n).answer ≡ answer (at n).count)))
  refused-leaves zero e = clash (sym e ∙ ap (λ (r : Running). is_refused r.answer) (run_none s number blocks lent))
  refused-leaves (suc n) e =
      by-test (is_refused (at n).answer)
      (λ f. let k = refused-leaves n f in rw (stays n f) (omega (arith, k.0), k.1))
      (λ f.
      let g : is_refused (answer n) ≡ true = ap (λ (x : Running). is_refused x.answer) (sym (steps n f)) ∙ e in
      let c : counted (answer n) (at n).count ≡ n = refused-uncounted (answer n) (at n).count g ∙ all-counted n f in
      let v = verdict_of (at n).session (number + n) (block_at blocks n) (room_of (at n).lent) in
      let t : is_taken (answer n) ≡ false = refused-untaken (answer n) g in
      rw (steps n f, c) (omega arith, (unmoved (at n).session v t, (unwritten (at n).session (at n).lent v t, refl))))

-- ---- a slice that is not whole blocks, no block at all, an unsound session

pub block-long : (blocks : List ℕ) (i : ℕ) → i < blocks_in blocks → length (block_at blocks i) ≡ 1024
block-long blocks i lt = omega (arith, lt, length-take 1024 (drop (1024 * i) blocks), length-drop (1024 * i) blocks)

module _ (s : Session) (number : ℕ) (blocks : List ℕ) (lent : Lent) where
  abbrev ran : Running
  ran = run_of s number blocks lent

  -- "before all else": on any session, with any grid
  pub cut : (length blocks % 1024 ≡ 0 → ⊥) → running (Refused 1 number 0) s lent 0 ≡ ran
  cut ne = rw (ne_eqb (length blocks % 1024) 0 ne)

  module _ (whole : length blocks % 1024 ≡ 0) where
    pub whole_run : run_to s number blocks lent (blocks_in blocks) ≡ ran
    whole_run = rw (eq-eqb (length blocks % 1024) 0 whole)

    -- "held and zero, with nothing else looked at"
    pub empty : length blocks ≡ 0 → set_out s lent ≡ ran
    empty z =
        sym (run_none s number blocks lent)
        ∙ ap (run_to s number blocks lent) (let e : 0 ≡ blocks_in blocks = omega (arith, z) in e)
        ∙ whole_run

    pub unsound : (length blocks ≡ 0 → ⊥) → sound s ≡ false → running (Refused 2 number 0) s lent 0 ≡ ran
    unsound some t =
        let n : 1 ≤ blocks_in blocks = omega (arith, whole, some) in
        sym (run-unsound s number blocks lent t (block-long blocks 0 (omega (arith, n))) (blocks_in blocks) n) ∙ whole_run
