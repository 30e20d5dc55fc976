-- 02, request 6, of deliveries to any session: whatever is refused for wrong form is refused at the very byte of the first field of its record that breaks
-- a rule. Carried by the same of record A, of a profile's head, of posts and of record C; no other refusal has kind 6.
use mathlib.Core.Bool.{Bool, true, false, cond, not}
use mathlib.Core.List.{List, [], ◌++◌}
use mathlib.Core.Path.{◌≡◌, refl, sym, ◌∙◌, ap, subst}
use Prim.Native.Nat.{ℕ, ◌+◌, ◌-◌, min}
use native.Mathlib.Omega.{arith}
use borrow.Author.Tests.{eqb-true, eqb-false, ltb-false}
use lib.Dec.{eqb, ltb}
use lib.IntN.{ℤ}
use lib.ListN.{length}
use Rattle.laws.specs.Sign.{same_z}
use Rattle.laws.proofs.Tests.{either, by-test}
use Rattle.field.specs.declared.Fault.{Fault}
use Rattle.field.specs.Rules.{Clause, Pointed}
use Rattle.field.proofs.Points.{pointed-front, pointed-behind}
use Rattle.sheet.specs.RecordA.{record_of}
use Rattle.sheet.specs.RulesA.{rules_for}
use Rattle.sheet.specs.RecordA.{Checked}
use Rattle.sheet.specs.RecordA.Checked.{Sheet, Refused as NoSheet}
use Rattle.sheet.proofs.RulesA.{record-a-pointed}
use Rattle.profile.specs.RecordB.{head_of, record_b}
use Rattle.profile.specs.RecordC.{record_c}
use Rattle.profile.specs.RulesB.{rules_head}
use Rattle.profile.specs.RulesC.{rules_c}
use Rattle.profile.specs.declared.record_b.Head.{Head}
use Rattle.profile.specs.RecordB.{Headed}
use Rattle.profile.specs.RecordB.Headed.{Profile as Headed-as-Profile, Refused as NoProfile}
use Rattle.profile.proofs.RecordRules.{head-pointed, profile-exactly, record-c-pointed}
use Rattle.ground.specs.Posts.{posts_rest_fault}
use Rattle.ground.specs.RulesPosts.{rules_block}
use Rattle.ground.proofs.PostRules.{block-pointed}
use Rattle.session.specs.declared.Session.{Session}
use Rattle.session.specs.declared.Profile.{Profile}
use Rattle.session.specs.Session.{sound, busy, complete, open_blocks}
use Rattle.delivery.specs.declared.Answer.TheVariants.{Refused}
use Rattle.delivery.specs.Deliver.{Refusal}
use Rattle.delivery.specs.Deliver.{Lent, Room, room_of, too_short, Verdict, again, wrong, begins, fills, unless, refusal, stated, close_fault, filled_session, closed_session, next_cell, heights_here, posts_here, filling, further, column_fits, column_place, row_fits, row_place, first_column, opened, opening, finished_session, later, beginning, verdict_of, answer_of, deliver_of}
use Rattle.delivery.specs.RulesDue.{rules_first, rules_later, rules_due}

-- a profile closes, or is refused for another reason than a form
record Other (r : Refusal) : Type 0 where
  other : r.kind ≡ 6 → ⊥

closing-other : (block : ℕ) (s : Session) → Other (close_fault block s)
closing-other block s =
    let fine : Other (refusal 0 0 0) = record { other = λ k. omega (arith, k) } in
    let eleven : (b y : ℕ) → Other (refusal 11 b y) = λ b y. record { other = λ k. omega (arith, k) } in
    either Other (same_z s.profile.least (stated s.profile.filled s.profile.low))
    (either Other (same_z s.profile.greatest (stated s.profile.filled s.profile.high))
    (either Other (eqb (s.closed + 1) s.header.profiles)
    (either Other (same_z s.header.least (stated s.filled s.low))
    (either Other (same_z s.header.greatest (stated s.filled s.high)) fine (eleven 0 763))
    (eleven 0 739))
    fine)
    (eleven block 121))
    (eleven block 97)

module _ (number : ℕ) (block : List ℕ) (cs : List Clause) where
  -- where a verdict is of wrong form, it names the delivered block and points at the very byte
  abbrev Right : Verdict → Type 0
  Right v = (n y : ℕ) → v ≡ wrong 6 n y → (n ≡ number) × Pointed block cs y

  right-wrong : (kind n y : ℕ) → eqb kind 6 ≡ false → Right (wrong kind n y)
  right-wrong kind n y e m z q = let k : kind ≡ 6 = cc in absurd (eqb-false kind 6 e k)

  right-again : Right again
  right-again n y q = let z : ◌≡◌ {A = ℕ} 0 1 = cc in absurd (omega arith)

  right-fills : (after : Session) (at : ℕ) (hs : List ℤ) → Right (fills after at hs)
  right-fills after at hs n y q = let z : ◌≡◌ {A = ℕ} 0 1 = cc in absurd (omega arith)

  right-fault : (kind y : ℕ) → (kind ≡ 6 → Pointed block cs y) → Right (wrong kind number y)
  right-fault kind y p n z q =
      let k : kind ≡ 6 = cc in
      let e : y ≡ z = cc in
      let m : n ≡ number = cc in
      (m, subst (Pointed block cs) e (p k))

  right-unless : (f : Fault) (v : Verdict) → (f.kind ≡ 6 → Pointed block cs f.byte) → Right v → Right (unless f number v)
  right-unless f v p r = either Right (eqb f.kind 0) r (right-fault f.kind f.byte p)

  right-filling : (s : Session) (column : ℕ) (p : Profile) (hs : List ℤ) → Right (filling s number column p hs)
  right-filling s column p hs =
      let after = filled_session s column p hs in
      let r = close_fault (number - open_blocks s) after in
      either Right (ltb (p.read + length hs) p.posts) (right-fills after (next_cell s column p) hs)
      (either Right (eqb r.kind 0) (right-fills (closed_session after) (next_cell s column p) hs)
      (λ n y q. let k : r.kind ≡ 6 = cc in absurd ((closing-other (number - open_blocks s) after).other k)))

  right-beginning : (room : Room) (c : Checked) → number ≡ 0 → ((y : ℕ) → c ≡ NoSheet 6 y → Pointed block cs y) → Right (beginning room c)
  right-beginning room (NoSheet kind byte) z p =
      λ n y q.
      let m : n ≡ 0 = cc in
      let e : NoSheet kind byte ≡ NoSheet 6 y = cc in
      (m ∙ sym z, p y e)
  right-beginning room (Sheet h) z p =
      either Right (too_short room h) (right-wrong 12 0 0 refl) (λ n y q. let w : ◌≡◌ {A = ℕ} 0 1 = cc in absurd (omega arith))

-- the rules and the verdict by one test
as-tested : (number : ℕ) (block : List ℕ) (t : Bool) {xs ys : List Clause} {v w : Verdict} → (t ≡ true → Right number block xs v)
    → Right number block ys w → Right number block (cond t xs ys) (cond t v w)
as-tested number block true p q = p refl
as-tested number block false p q = q

module _ (s : Session) (number : ℕ) (block : List ℕ) (l : length block ≡ 1024) where
  right-further : Right number block (rules_block 1 (posts_here s.profile 170)) (further s number block)
  right-further =
      let n = posts_here s.profile 170 in
      right-unless number block (rules_block 1 n) (posts_rest_fault 1 n block) _ (block-pointed block l n 1 (omega arith))
      (right-filling number block (rules_block 1 n) s s.column s.profile (heights_here s s.profile 1 n block))

  abbrev first-rules : List Clause
  first-rules = rules_first s.family (s.closed + 1) block

  right-opening : (c : Headed) → record_b s.family (s.closed + 1) block ≡ c → Right number block first-rules (opening s number block c)
  right-opening (NoProfile kind byte) e =
      right-fault number block first-rules kind byte
      (λ k.
      let f : record_b s.family (s.closed + 1) block ≡ NoProfile 6 byte = e ∙ ap (λ (x : ℕ). NoProfile x byte) k in
      pointed-front (rules_block 145 (min (head_of block).posts 146)) (head-pointed s.family (s.closed + 1) block byte f))
  right-opening (Headed-as-Profile h) e =
      let kept = (profile-exactly s.family (s.closed + 1) block h).0 e in
      let n = min h.posts 146 in
      right-unless number block first-rules (posts_rest_fault 145 n block) _
      (λ k.
      subst (λ (x : Head). Pointed block (rules_head s.family (s.closed + 1) ++ rules_block 145 (min x.posts 146)) (posts_rest_fault 145 n block).byte) kept.1
      (pointed-behind kept.0 (block-pointed block l n 145 (omega arith) k)))
      (either (Right number block first-rules) (column_fits s (column_place s h))
      (either (Right number block first-rules) (row_fits s h.posts (row_place s h))
      (right-filling number block first-rules s (first_column s h) (opened s h) (heights_here s (opened s h) 145 n block))
      (right-wrong number block first-rules 10 number 49 refl))
      (right-wrong number block first-rules 10 number 25 refl))

  right-later : Right number block (rules_later s block) (later s number block)
  right-later =
      as-tested number block (busy s) (λ b. right-further)
      (as-tested number block (ltb s.closed s.header.profiles) (λ b. right-opening (record_b s.family (s.closed + 1) block) refl)
      (right-unless number block rules_c (record_c block) _ (record-c-pointed block) (right-fills number block rules_c (finished_session s) 0 [])))

-- what the block of a number comes to where it is the next one
abbrev due_verdict : Session → List ℕ → Room → ℕ → Verdict
due_verdict s block room number =
    cond (eqb number 0) (beginning room (record_of s.family block))
    (cond (complete s) (wrong 4 number 0) (cond (too_short room s.header) (wrong 12 number 0) (later s number block)))

module _ (s : Session) (block : List ℕ) (room : Room) where
  right-due : length block ≡ 1024 → Right s.taken block (rules_due s block) (due_verdict s block room s.taken)
  right-due l =
      let n = s.taken in
      let cs = rules_later s block in
      as-tested n block (eqb n 0)
      (λ z. right-beginning n block (rules_for s.family) room (record_of s.family block) (eqb-true n 0 z) (record-a-pointed s.family block))
      (either (Right n block cs) (complete s) (right-wrong n block cs 4 n 0 refl)
      (either (Right n block cs) (too_short room s.header) (right-wrong n block cs 12 n 0 refl) (right-later s n block l)))

module _ (s : Session) (number : ℕ) (block : List ℕ) (room : Room) where
  abbrev Pointing : Verdict → Type 0
  Pointing = Right number block (rules_due s block)

  right-verdict : Pointing (verdict_of s number block room)
  unfolding verdict_of
  right-verdict =
      let cs = rules_due s block in
      by-test (eqb (length block) 1024)
      (λ l.
      rw l
      (either Pointing (not (sound s)) (right-wrong number block cs 2 number 0 refl)
      (by-test (ltb number s.taken) (λ a. rw a (right-again number block cs))
      (λ a.
      rw a
      (by-test (ltb s.taken number) (λ b. rw b (right-wrong number block cs 3 number 0 refl))
      (λ b.
      let e : s.taken ≡ number = omega (arith, ltb-false number s.taken a, ltb-false s.taken number b) in
      rw b
      (subst (λ (m : ℕ). Right m block (rules_due s block) (due_verdict s block room m)) e (right-due s block room (eqb-true (length block) 1024 l)))))))))
      (λ l. rw l (right-wrong number block cs 1 number 0 refl))

-- ---- whatever is delivered, to whatever session
pub wrong-form-told : (s : Session) (number : ℕ) (block : List ℕ) (lent : Lent) (n y : ℕ) → (deliver_of s number block lent).answer ≡ Refused 6 n y
    → (n ≡ number) × Pointed block (rules_due s block) y
wrong-form-told s number block lent n y e = right-verdict s number block (room_of lent) n y (told (verdict_of s number block (room_of lent)) e)
  where
    told : (v : Verdict) → (answer_of s v).answer ≡ Refused 6 n y → v ≡ wrong 6 n y
    told again e = let z : ◌≡◌ {A = ℕ} 0 1 = cc in absurd (omega arith)
    told (wrong kind b byte) e = cc
    told (begins h) e = let z : ◌≡◌ {A = ℕ} 0 1 = cc in absurd (omega arith)
    told (fills after at hs) e = let z : ◌≡◌ {A = ℕ} 0 1 = cc in absurd (omega arith)
