-- What an answer shows: a block that is not refused has a number no greater than the blocks taken; one that is taken leaves one block more, and
-- a session whose sheet the grid is long enough for; one that is not taken leaves the session.
use mathlib.Core.Bool.{Bool, true, false, cond, not}
use mathlib.Core.List.{List, []}
use mathlib.Core.Path.{◌≡◌, refl, sym}
use Prim.Native.Nat.{ℕ, ◌+◌, ◌-◌, ◌≤◌, ◌<◌, min}
use native.Mathlib.Omega.{arith}
use borrow.Author.Tests.{le-leb, ltb-true, ltb-false, eqb-true}
use lib.Dec.{eqb, ltb, leb}
use lib.IntN.{ℤ}
use lib.ListN.{length}
use Rattle.laws.proofs.Tests.{clash, by-test, either}
use Rattle.field.specs.declared.Fault.{Fault}
use Rattle.frame.specs.declared.Header.{Header}
use Rattle.frame.specs.Frame.{cells_of}
use Rattle.sheet.specs.RecordA.{Checked}
use Rattle.sheet.specs.RecordA.Checked.{Sheet, Refused as NoSheet}
use Rattle.sheet.specs.RecordA.{record_of}
use Rattle.profile.specs.RecordB.{Headed}
use Rattle.profile.specs.RecordB.Headed.{Profile as Headed-as-Profile, Refused as NoProfile}
use Rattle.profile.specs.RecordB.{record_b}
use Rattle.profile.specs.RecordC.{record_c}
use Rattle.ground.specs.Posts.{posts_rest_fault}
use Rattle.session.specs.declared.Session.{Session}
use Rattle.session.specs.declared.Profile.{Profile}
use Rattle.session.specs.Session.{sound, complete, busy, open_blocks}
use Rattle.delivery.specs.declared.Answer.{Answer}
use Rattle.delivery.specs.declared.Answer.TheVariants.{Taken, Held, Refused}
use Rattle.delivery.specs.Deliver.{Room, too_short, Verdict, again, wrong, begins, fills, posts_here, filling, filled_session, close_fault, opening, later, beginning, column_fits, column_place, row_fits, row_place, first_column, opened, heights_here, further, unless, finished_session, verdict_of, answer_of}
use Rattle.runs.specs.Run.{is_refused}

abbrev pub is_taken : Answer → Bool
is_taken Taken = true
is_taken Held = false
is_taken (Refused kind block byte) = false

-- what a verdict that takes a block leaves
abbrev TakenBy : Session → Room → Verdict → Type 0
TakenBy s room again = ⊥
TakenBy s room (wrong kind block byte) = Unit {0}
TakenBy s room (begins h) = (leb (cells_of h) room.cells ≡ true) × (s.taken ≡ 0)
TakenBy s room (fills after at hs) = (leb (cells_of after.header) room.cells ≡ true) × (after.taken ≡ s.taken + 1)

record Takes (s : Session) (room : Room) (v : Verdict) : Type 0 where
  is : TakenBy s room v

enough : (room : Room) (h : Header) → too_short room h ≡ false → leb (cells_of h) room.cells ≡ true
enough room h e = le-leb (cells_of h) room.cells (ltb-false room.cells (cells_of h) e)

module _ (s : Session) (room : Room) where
  both : (t : Bool) {v w : Verdict} → Takes s room v → Takes s room w → Takes s room (cond t v w)
  both t = either (Takes s room) t

  none : (kind block byte : ℕ) → Takes s room (wrong kind block byte)
  none kind block byte = record { is = tt }

  unless-takes : (f : Fault) (number : ℕ) {v : Verdict} → Takes s room v → Takes s room (unless f number v)
  unless-takes f number k = both (eqb f.kind 0) k (none f.kind number f.byte)

  beginning-takes : s.taken ≡ 0 → (c : Checked) → Takes s room (beginning room c)
  beginning-takes z (NoSheet kind byte) = none kind 0 byte
  beginning-takes z (Sheet h) = by-test (too_short room h) (λ e. rw e (none 12 0 0)) (λ e. rw e (record { is = (enough room h e, z) }))

  -- a later block keeps the header
  module _ (e : leb (cells_of s.header) room.cells ≡ true) where
    filling-takes : (number column : ℕ) (p : Profile) (hs : List ℤ) → Takes s room (filling s number column p hs)
    filling-takes number column p hs =
        both (ltb (p.read + length hs) p.posts) (record { is = (e, refl) })
        (both (eqb (close_fault (number - open_blocks s) (filled_session s column p hs)).kind 0) (record { is = (e, refl) }) (none _ _ _))

    opening-takes : (number : ℕ) (block : List ℕ) (h : Headed) → Takes s room (opening s number block h)
    opening-takes number block (NoProfile kind byte) = none kind number byte
    opening-takes number block (Headed-as-Profile h) =
        unless-takes (posts_rest_fault 145 (min h.posts 146) block) number
        (both (column_fits s (column_place s h))
        (both (row_fits s h.posts (row_place s h))
        (filling-takes number (first_column s h) (opened s h) (heights_here s (opened s h) 145 (min h.posts 146) block)) (none 10 number 49))
        (none 10 number 25))

    further-takes : (number : ℕ) (block : List ℕ) → Takes s room (further s number block)
    further-takes number block =
        unless-takes (posts_rest_fault 1 (posts_here s.profile 170) block) number
        (filling-takes number s.column s.profile (heights_here s s.profile 1 (posts_here s.profile 170) block))

    last-takes : (number : ℕ) (block : List ℕ) → Takes s room (unless (record_c block) number (fills (finished_session s) 0 []))
    last-takes number block = unless-takes (record_c block) number {v = fills (finished_session s) 0 []} (record { is = (e, refl) })

    later-takes : (number : ℕ) (block : List ℕ) → Takes s room (later s number block)
    later-takes number block =
        both (busy s) (further-takes number block)
        (both (ltb s.closed s.header.profiles) (opening-takes number block (record_b s.family (s.closed + 1) block)) (last-takes number block))

-- what an answer shows; a block that is due is not held
pub record Shows (s : Session) (number : ℕ) (room : Room) (v : Verdict) : Type 0 where
  pub number_is : is_refused (answer_of s v).answer ≡ false → number ≤ s.taken
  pub room-is : is_taken (answer_of s v).answer ≡ true → leb (cells_of (answer_of s v).session.header) room.cells ≡ true
  pub more-is : is_taken (answer_of s v).answer ≡ true → (answer_of s v).session.taken ≡ s.taken + 1
  pub due-is : number ≡ s.taken → is_refused (answer_of s v).answer ≡ false → is_taken (answer_of s v).answer ≡ true

module _ (s : Session) (number : ℕ) (room : Room) where
  stopped : (kind at byte : ℕ) → Shows s number room (wrong kind at byte)
  stopped kind at byte = record { number_is = λ e. clash e; room-is = λ e. clash (sym e); more-is = λ e. clash (sym e); due-is = λ d e. clash e }

  late : number < s.taken → Shows s number room again
  late lt = record { number_is = λ e. omega (arith, lt); room-is = λ e. clash (sym e); more-is = λ e. clash (sym e); due-is = λ d e. absurd (omega (arith, lt, d)) }

  by-verdict : number ≤ s.taken → (v : Verdict) → Takes s room v → Shows s number room v
  by-verdict n again r = absurd r.is
  by-verdict n (wrong kind at byte) r = stopped kind at byte
  by-verdict n (begins h) r = record { number_is = λ e. n; room-is = λ e. r.is.0; more-is = λ e. omega (arith, r.is.1); due-is = λ d e. refl }
  by-verdict n (fills after at hs) r = record { number_is = λ e. n; room-is = λ e. r.is.0; more-is = λ e. r.is.1; due-is = λ d e. refl }

  pick : (b : Bool) {v w : Verdict} → (b ≡ true → Shows s number room v) → (b ≡ false → Shows s number room w) → Shows s number room (cond b v w)
  pick true f g = f refl
  pick false f g = g refl

  pub shown : (block : List ℕ) → Shows s number room (verdict_of s number block room)
  unfolding verdict_of
  shown block =
      pick (not (eqb (length block) 1024)) (λ a. stopped 1 number 0)
      (λ a.
      pick (not (sound s)) (λ b. stopped 2 number 0)
      (λ b.
      pick (ltb number s.taken) (λ d. late (ltb-true number s.taken d))
      (λ d.
      pick (ltb s.taken number) (λ e. stopped 3 number 0)
      (λ e.
      let n : number ≤ s.taken = ltb-false s.taken number e in
      let m : s.taken ≤ number = ltb-false number s.taken d in
      pick (eqb number 0)
      (λ z.
      let zero : s.taken ≡ 0 = omega (arith, m, eqb-true number 0 z) in
      by-verdict n (beginning room (record_of s.family block)) (beginning-takes s room zero (record_of s.family block)))
      (λ z.
      pick (complete s) (λ c. stopped 4 number 0)
      (λ c.
      pick (too_short room s.header) (λ k. stopped 12 number 0)
      (λ k. by-verdict n (later s number block) (later-takes s room (enough room s.header k) number block))))))))

-- what is not taken leaves the session
pub unmoved : (s : Session) (v : Verdict) → is_taken (answer_of s v).answer ≡ false → (answer_of s v).session ≡ s
unmoved s again e = refl
unmoved s (wrong kind block byte) e = refl
unmoved s (begins h) e = clash e
unmoved s (fills after at hs) e = clash e
