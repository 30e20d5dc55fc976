-- What a lister's loop cites: a listing begins, goes on with what was read, and ends. A run of blocks comes to where the same blocks come to
-- one at a time.
use mathlib.Core.Bool.{Bool, true, false, cond}
use mathlib.Core.List.{List}
use mathlib.Core.Path.{◌≡◌, refl, sym, ◌∙◌, ap, subst}
use Prim.Native.Nat.{ℕ, zero, suc, ◌+◌, ◌-◌, ◌*◌, ◌<◌, ◌≤◌, ◌%◌, min}
use native.Mathlib.Omega.{arith}
use borrow.Author.Tests.{ne_eqb, ltb-true, ltb-false}
use lib.Dec.{eqb, ltb}
use lib.IntN.{ℤ}
use lib.ListN.{length, take, length-take, length-drop}
use Rattle.std.proofs.lemmas.List.{take_min}
use Rattle.laws.proofs.Tests.{clash, by-test, either}
use Rattle.ground.specs.Blocks.{block_at, blocks_in}
use Rattle.session.specs.declared.Session.{Session}
use Rattle.session.specs.Session.{fresh, sound}
use Rattle.session.proofs.Sound.{fresh-sound, taken-bound}
use Rattle.delivery.specs.declared.Answer.{Answer}
use Rattle.delivery.specs.declared.Answer.TheVariants.{Taken, Held, Refused}
use Rattle.delivery.specs.Deliver.{Lent, lend, room_of, deliver_of}
use Rattle.delivery.proofs.SoundOut.{sound-out}
use Rattle.runs.specs.Run.{Running, is_refused, with_block, run_to}
use Rattle.runs.proofs.Passed.{shown}
use Rattle.runs.proofs.RunLaws.{run_none}
use Rattle.runs.proofs.Ends.{stays, steps, block-long, whole_run}
use Rattle.listing.specs.declared.Stage.{Stage}
use Rattle.listing.specs.declared.Stage.TheVariants.{More, Ended, Refused as Stopped}
use Rattle.listing.specs.declared.Turn.{Turn}
use Rattle.listing.specs.Turns.{turn, is_more, turn_after, step_of, cells_left, Stand, stepped, stand_after, ran, whole_blocks, left_over, with_rest, taken_of, ComesTo, Fetched, Reached, first, next, Listed}

-- more may follow: so many turns, so many blocks taken, and that is the next block's number
pub record Going (n turns : ℕ) (t : Turn) : Type 0 where
  pub plain : t ≡ turn t.session More
  pub sound-is : sound t.session ≡ true
  pub turns-are : turns ≡ n
  pub taken_is : t.session.taken ≡ n

-- where a listing can come to one block at a time, with n blocks taken while more may follow
pub record Stands (grid : List ℤ) (n : ℕ) (x : Stand) : Type 0 where
  pub turns : ℕ
  pub reached : Reached grid turns x.turn x.cells
  pub going : x.turn.stage ≡ More → Going n turns x.turn

-- where no more may follow, how many were taken does not matter
over : {grid : List ℤ} {n : ℕ} {x : Stand} (m : ℕ) → (x.turn.stage ≡ More → ⊥) → Stands grid n x → Stands grid m x
over m ne k = record { turns = k.turns; reached = k.reached; going = λ z. absurd (ne z) }

-- more follows at that one stage only
more-is : (stage : Stage) → is_more stage ≡ true → stage ≡ More
more-is More e = refl
more-is Ended e = clash (sym e)
more-is (Stopped kind block byte) e = clash (sym e)

-- ---- one block

session-is : (s : Session) (a : Answer) → (turn_after s a).session ≡ s
session-is s Taken = refl
session-is s Held = refl
session-is s (Refused kind block byte) = refl

stage-more : (s : Session) (a : Answer) → is_refused a ≡ false → (turn_after s a).stage ≡ More
stage-more s Taken e = refl
stage-more s Held e = refl
stage-more s (Refused kind block byte) e = clash e

stage-over : (s : Session) (a : Answer) → is_refused a ≡ true → (turn_after s a).stage ≡ More → ⊥
stage-over s Taken e z = clash (sym e)
stage-over s Held e z = clash (sym e)
stage-over s (Refused kind block byte) e z = clash (sym (ap is_more z))

after-going : (s : Session) (a : Answer) (n turns : ℕ) → sound s ≡ true → turns ≡ n → (is_refused a ≡ false → s.taken ≡ n)
    → (turn_after s a).stage ≡ More → Going n turns (turn_after s a)
after-going s Taken n turns t u k z = record { plain = refl; sound-is = t; turns-are = u; taken_is = k refl }
after-going s Held n turns t u k z = record { plain = refl; sound-is = t; turns-are = u; taken_is = k refl }
after-going s (Refused kind block byte) n turns t u k z = clash (sym (ap is_more z))

module _ {grid : List ℤ} {n : ℕ} (x : Stand) (k : Stands grid n x) (z : x.turn.stage ≡ More) where
  abbrev s : Session
  s = x.turn.session

  here : Going n k.turns x.turn
  here = k.going z

  step-stands : (block : List ℕ) → length block ≤ 1024 → Stands grid (n + 1) (stepped s block x.cells)
  step-stands block le =
      let same : k.turns ≡ s.taken = here.turns-are ∙ sym here.taken_is in
      record {
        turns = k.turns + 1;
        reached =
            next k.reached z
            (record {
              block = block;
              short = le;
              steps = (ap (λ (m : ℕ). step_of s m block x.cells) (sym same), ap (λ (m : ℕ). cells_left s m block x.cells) (sym same));
            });
        going =
            either (λ (t : Turn). t.stage ≡ More → Going (n + 1) (k.turns + 1) t) (eqb (length block) 0) (λ e. clash (sym (ap is_more e)))
            (after-going (deliver_of s s.taken block (lend x.cells)).session (deliver_of s s.taken block (lend x.cells)).answer (n + 1) (k.turns + 1)
            (sound-out s s.taken block (lend x.cells) here.sound-is)
            (ap (λ (m : ℕ). m + 1) here.turns-are)
            (λ e.
            let shows = shown s s.taken (room_of (lend x.cells)) block in
            shows.more-is (shows.due-is refl e) ∙ ap (λ (m : ℕ). m + 1) here.taken_is));
      }

-- ---- a run

-- one block more of a run is one block
block-step : (r : Running) (number : ℕ) (block : List ℕ) → length block ≡ 1024 → number ≡ r.session.taken
    → stepped (turn_after r.session r.answer).session block r.lent.grid ≡ stand_after (with_block r number block)
block-step r number block l e =
    ap (λ (s : Session). stepped s block r.lent.grid) (session-is r.session r.answer)
    ∙ rw (e, ne_eqb (length block) 0 (λ z. omega (arith, l, z)))

module _ {grid : List ℤ} {n : ℕ} (x : Stand) (k : Stands grid n x) (z : x.turn.stage ≡ More) (blocks : List ℕ) where
  abbrev start : Session
  start = x.turn.session

  abbrev lent : Lent
  lent = lend x.cells

  abbrev at : ℕ → Running
  at i = run_to start start.taken blocks lent i

  run-stands : (i : ℕ) → i ≤ blocks_in blocks → Stands grid (n + i) (stand_after (at i))
  run-stands zero le =
      let none : x ≡ stand_after (at 0) = (λ j. record { turn = (k.going z).plain j; cells = x.cells }) ∙ ap stand_after (sym (run_none start start.taken blocks lent)) in
      let all : n ≡ n + 0 = omega arith in
      subst (λ (y : Stand). Stands grid (n + 0) y) none (subst (λ (m : ℕ). Stands grid m x) all k)
  run-stands (suc i) le =
      let r = at i in
      let block = block_at blocks i in
      let here = run-stands i (omega (arith, le)) in
      by-test (is_refused r.answer)
      (λ e.
      subst (λ (y : Stand). Stands grid (n + suc i) y) (ap stand_after (sym (stays start start.taken blocks lent i e)))
      (over (n + suc i) (stage-over r.session r.answer e) here))
      (λ e.
      let m : (turn_after r.session r.answer).stage ≡ More = stage-more r.session r.answer e in
      let long : length block ≡ 1024 = block-long blocks i (omega (arith, le)) in
      let taken : r.session.taken ≡ n + i = ap (λ (s : Session). s.taken) (sym (session-is r.session r.answer)) ∙ (here.going m).taken_is in
      let due : start.taken + i ≡ r.session.taken = omega (arith, taken, (k.going z).taken_is) in
      let one : n + i + 1 ≡ n + suc i = omega arith in
      subst (λ (y : Stand). Stands grid (n + suc i) y) (block-step r (start.taken + i) block long due ∙ ap stand_after (sym (steps start start.taken blocks lent i e)))
      (subst (λ (c : ℕ). Stands grid c (stepped (turn_after r.session r.answer).session block r.lent.grid)) one (step-stands (stand_after r) here m block (omega (arith, long)))))

  all-stands : length blocks % 1024 ≡ 0 → Stands grid (n + blocks_in blocks) (ran start blocks x.cells)
  all-stands whole =
      subst (λ (r : Running). Stands grid (n + blocks_in blocks) (stand_after r)) (whole_run start start.taken blocks lent whole)
      (run-stands (blocks_in blocks) (omega arith))

-- ---- the next bytes of the input

-- at least one block further on, while more may follow
pub record Further (grid : List ℤ) (n : ℕ) (x : Stand) : Type 0 where
  pub blocks : ℕ
  pub past : n < blocks
  pub stands : Stands grid blocks x

-- what holds of both answers of a test, each with what the test shows, holds of its answer
pick : {X : Type 0} (P : X → Type 0) (t : Bool) {v w : X} → (t ≡ true → P v) → (t ≡ false → P w) → P (cond t v w)
pick P true f g = f refl
pick P false f g = g refl

rest-further : {grid : List ℤ} {n : ℕ} (x : Stand) (rest : List ℕ) → length rest ≤ 1024 → Further grid n x → Further grid n (with_rest x rest)
rest-further {grid} {n} x rest le k =
    pick (Further grid n) (is_more x.turn.stage)
    (λ z.
    either (Further grid n) (eqb (length rest) 0) k
    (record { blocks = k.blocks + 1; past = omega (arith, k.past); stands = step-stands x k.stands (more-is x.turn.stage z) rest le }))
    (λ z. k)

-- whatever they are, they come to where their blocks come to one at a time
pub taken-further : {grid : List ℤ} {n : ℕ} (x : Stand) → Stands grid n x → x.turn.stage ≡ More → (bytes : List ℕ)
    → Further grid n (taken_of x.turn.session bytes x.cells)
taken-further {grid} {n} x k z bytes =
    let whole = length-take (1024 * blocks_in bytes) bytes in
    pick (Further grid n) (ltb (length bytes) 1024)
    (λ e. record { blocks = n + 1; past = omega arith; stands = step-stands x k z bytes (omega (arith, ltb-true (length bytes) 1024 e)) })
    (λ e.
    rest-further (ran x.turn.session (whole_blocks bytes) x.cells) (left_over bytes) (omega (arith, length-drop (1024 * blocks_in bytes) bytes))
    (record {
      blocks = n + blocks_in (whole_blocks bytes);
      past = omega (arith, whole, ltb-false (length bytes) 1024 e);
      stands = all-stands x k z (whole_blocks bytes) (omega (arith, whole));
    }))

-- ---- a lister's loop

-- where the loop stands
pub record Listing (grid : List ℤ) (t : Turn) (g : List ℤ) : Type 0 where
  pub blocks : ℕ
  pub stands : Stands grid blocks (record { turn = t; cells = g })

-- the blocks that a sound session can still take
pub to_come : Turn → ℕ
to_come t = cond (is_more t.stage) (26627 - t.session.taken) 0

pub begins : {grid : List ℤ} {t : Turn} → t ≡ turn fresh More → Listing grid t grid
begins {grid} e =
    subst (λ (t : Turn). Listing grid t grid) (sym e)
    (record {
      blocks = 0;
      stands = record { turns = 0; reached = first; going = λ z. record { plain = refl; sound-is = fresh-sound; turns-are = refl; taken_is = refl } };
    })

-- one turn
module _ {grid g h : List ℤ} {t u : Turn} (k : Listing grid t g) (e : t.stage ≡ More) (f : Fetched t.session g h u) where
  further : Further grid k.blocks (record { turn = u; cells = h })
  further =
      subst (λ (x : Stand). Further grid k.blocks x) (λ j. record { turn = sym f.comes.0 j; cells = sym f.comes.1 j })
      (taken-further (record { turn = t; cells = g }) k.stands e f.bytes)

  pub goes_on : Listing grid u h
  goes_on = record { blocks = further.blocks; stands = further.stands }

  -- fewer are to come
  pub falls : to_come u < to_come t
  unfolding to_come
  falls =
      let was = k.stands.going e in
      let some : 1 ≤ 26627 - t.session.taken = omega (arith, taken-bound t.session was.sound-is) in
      let more : is_more t.stage ≡ true = ap is_more e in
      rw more
      (pick (λ (n : ℕ). n < 26627 - t.session.taken) (is_more u.stage)
      (λ z.
      let is = further.stands.going (more-is u.stage z) in
      omega (arith, was.taken_is, is.taken_is, further.past, taken-bound u.session is.sound-is))
      (λ z. some))

-- no more than was lent is taken, whatever number is answered
pub as_answered : (s : Session) (got : ℕ) (bytes : List ℕ) (g : List ℤ) (used : ℕ) {h : List ℤ} {t : Turn} → used ≡ min got (length bytes)
    → ComesTo (taken_of s (take used bytes) g) h t → ComesTo (taken_of s (take got bytes) g) h t
as_answered s got bytes g used {h} {t} e =
    subst (λ (taken : List ℕ). ComesTo (taken_of s taken g) h t) (ap (λ (n : ℕ). take n bytes) e ∙ take_min got bytes)

-- no more may follow
pub stops : {grid g : List ℤ} {t : Turn} → Listing grid t g → (t.stage ≡ More → ⊥) → Listed grid g t
stops k ne = record { turns = k.stands.turns; reached = k.stands.reached; last = ne }
