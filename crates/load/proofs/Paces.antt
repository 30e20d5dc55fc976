-- A run, block by block: what the first tests ask of session and grid holds again after each block that is not refused.
use mathlib.Core.Bool.{Bool, true, false}
use mathlib.Core.List.{List, ◌++◌}
use mathlib.Core.Path.{◌≡◌, refl, sym, ◌∙◌, ap}
use Prim.Native.Nat.{ℕ, ◌≤◌, ◌+◌, ◌*◌}
use native.Mathlib.Omega.{arith}
use lib.Dec.{leb}
use lib.IntN.{ℤ}
use lib.ListN.{length, take, drop, length-append, length-drop}
use Rattle.std.proofs.lemmas.List.{take_at, drop_at, drop-drop}
use Rattle.ground.specs.Blocks.{block_at}
use Rattle.laws.proofs.Tests.{clash}
use Rattle.frame.specs.Frame.{cells_of}
use Rattle.session.specs.declared.Session.{Session}
use Rattle.session.specs.Session.{sound}
use Rattle.session.proofs.Sound.{taken-bound}
use Rattle.delivery.specs.declared.Answer.{Answer}
use Rattle.delivery.specs.declared.Answer.TheVariants.{Taken, Held, Refused}
use Rattle.delivery.specs.declared.Delivered.{Delivered}
use Rattle.delivery.specs.Deliver.{Lent, lend, room_of, Verdict, verdict_of, answer_of, deliver_of, lent_after}
use Rattle.delivery.proofs.SoundOut.{sound-out}
use Rattle.runs.specs.Run.{Running, running, is_refused, counted, with_block, go_on, run_to, run_of, ran_of}
use Rattle.runs.specs.declared.Ran.{Ran}
use Rattle.runs.proofs.RunLaws.{goes_on, run-next, run-stays, count_most}
use Rattle.runs.proofs.Passed.{is_taken, Shows, shown, unmoved}
use Rattle.load.specs.declared.run.Pace.{Pace}
use Rattle.load.specs.Steps.{Pacing, standing, paced_by}

-- what is known after a block
pub record Paced (s : Session) (number count : ℕ) (block : List ℕ) (grid after : List ℤ) (r : Pace) : Type 0 where
  pub pacing : Pacing (length grid) r
  pub stands : standing r.ran after ≡ running (deliver_of s number block (lend grid)).answer (deliver_of s number block (lend grid)).session (lent_after s number block (lend grid)) (counted (deliver_of s number block (lend grid)).answer count)
  pub number-most : r.more ≡ true → number ≤ 26626

module _ (s : Session) (number count : ℕ) (block : List ℕ) (grid after : List ℤ) (roomy : Bool) (t : sound s ≡ true)
    (r : leb (cells_of s.header) (length grid) ≡ roomy) (left : after ≡ (lent_after s number block (lend grid)).grid) where
  abbrev v : Verdict
  v = verdict_of s number block (room_of (lend grid))

  abbrev d : Delivered
  d = answer_of s v

  shows : Shows s number (room_of (lend grid)) v
  shows = shown s number (room_of (lend grid)) block

  number-few : is_refused d.answer ≡ false → number ≤ 26626
  number-few e = omega (arith, shows.number_is e, taken-bound s t)

  still-room : is_taken d.answer ≡ false → leb (cells_of d.session.header) (length grid) ≡ roomy
  still-room e = ap (λ (x : Session). leb (cells_of x.header) (length grid)) (unmoved s v e) ∙ r

  abbrev stood : (a : Answer) → d.answer ≡ a
      → running a d.session (lend after) (counted a count) ≡ running d.answer d.session (lent_after s number block (lend grid)) (counted d.answer count)
  stood a e = λ j. running (sym e j) d.session (lend (left j)) (counted (sym e j) count)

  by_answer : (a : Answer) → d.answer ≡ a → Paced s number count block grid after (paced_by roomy count d.session a)
  by_answer Taken e =
      record {
        pacing = record { sound-is = sound-out s number block (lend grid) t; room-is = shows.room-is (ap is_taken e); more-is = refl };
        stands = stood Taken e;
        number-most = λ m. number-few (ap is_refused e);
      }
  by_answer Held e =
      record {
        pacing = record { sound-is = sound-out s number block (lend grid) t; room-is = still-room (ap is_taken e); more-is = refl };
        stands = stood Held e;
        number-most = λ m. number-few (ap is_refused e);
      }
  by_answer (Refused kind at byte) e =
      record {
        pacing = record { sound-is = sound-out s number block (lend grid) t; room-is = still-room (ap is_taken e); more-is = refl };
        stands = stood (Refused kind at byte) e;
        number-most = λ m. clash (sym m);
      }

  pub paced-next : Paced s number count block grid after (paced_by roomy count d.session d.answer)
  paced-next = by_answer d.answer refl

-- ---- the loop over a run's blocks

-- block i, cut off the front of what i blocks leave, and what is left then
module _ (blocks part rest : List ℕ) (i : ℕ) (e : part ++ rest ≡ drop (1024 * i) blocks) (long : length part ≡ 1024) where
  block-part : part ≡ block_at blocks i
  block-part = sym (take_at part rest 1024 long) ∙ ap (take 1024) e

  pub block-rest : rest ≡ drop (1024 * (i + 1)) blocks
  block-rest =
      sym (drop_at part rest 1024 long)
      ∙ ap (drop 1024) e
      ∙ drop-drop 1024 (1024 * i) blocks
      ∙ ap (λ (n : ℕ). drop n blocks) (let m : 1024 * i + 1024 ≡ 1024 * (i + 1) = omega arith in m)

  pub block-within : 1024 * (i + 1) ≤ length blocks
  block-within = omega (arith, length-append part rest, ap length e, length-drop (1024 * i) blocks, long)

module _ (s : Session) (number : ℕ) (blocks : List ℕ) (lent : Lent) (r : Running) (i : ℕ) (is : r ≡ run_to s number blocks lent i) where
  -- one turn
  pub turned : is_refused r.answer ≡ false → (part rest : List ℕ) {k : ℕ} → k ≡ i → part ++ rest ≡ drop (1024 * i) blocks → length part ≡ 1024
      → with_block r (number + k) part ≡ run_to s number blocks lent (i + 1)
  turned e part rest at p long =
      (λ j. with_block r (number + at j) (block-part blocks part rest i p long j))
      ∙ sym (goes_on r (number + i) (block_at blocks i) e)
      ∙ ap (λ (x : Running). go_on x (number + i) (block_at blocks i)) is
      ∙ sym (run-next s number blocks lent i)

  -- the end: a refusal, or no block left
  pub stopped : (n : ℕ) → i ≤ n → is_refused r.answer ≡ true → r ≡ run_to s number blocks lent n
  stopped n le e = is ∙ sym (run-stays s number blocks lent i n le (ap (λ (x : Running). is_refused x.answer) (sym is) ∙ e))

  pub used-up : (n : ℕ) → i ≤ n → n ≤ i → r ≡ run_to s number blocks lent n
  used-up n le ge = is ∙ ap (run_to s number blocks lent) (let e : i ≡ n = omega (arith, le, ge) in e)

  pub few : r.count ≤ i
  few = omega (arith, ap (λ (x : Running). x.count) is, count_most s number blocks lent i)

-- ---- the call

module _ (s : Session) (number : ℕ) (blocks : List ℕ) (grid : List ℤ) where
  abbrev ran : Running
  ran = run_of s number blocks (lend grid)

  -- what is returned and left, by where the run stands
  pub as-run : {x : Running} {r : Ran} {after : List ℤ} → x ≡ ran → r ≡ ran_of x → after ≡ x.lent.grid → (r ≡ ran_of ran) × (after ≡ ran.lent.grid)
  as-run e p q = (p ∙ ap ran_of e, q ∙ ap (λ (y : Running). y.lent.grid) e)
