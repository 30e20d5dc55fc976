-- Calls of `dem_deliver` are calls of `deliver`: the numbers say the session as last returned, so what is proved of the one holds of the other.
use Prim.Native.Nat.{ℕ}
use mathlib.Core.Bool.{Bool, cond, true, false, not}
use mathlib.Core.List.{List, [], ◌∷◌, ◌++◌}
use mathlib.Core.Path.{◌≡◌, refl, sym, ◌∙◌, ap, ap₂, subst}
use borrow.Author.Tests.{eqb-false}
use native.Mathlib.Omega.{arith}
use lib.Dec.{eqb, ltb}
use lib.IntN.{ℤ}
use lib.ListN.{length, drop}
use Rattle.laws.proofs.Tests.{by-test}
use Rattle.session.specs.declared.Session.{Session}
use Rattle.session.specs.Session.{begun}
use Rattle.delivery.specs.declared.Answer.{Answer}
use Rattle.delivery.specs.declared.Answer.TheVariants.{Taken, Held, Refused}
use Rattle.delivery.specs.Deliver.{Room, lend, room_of, too_short, Verdict, again, wrong, begins, fills, answer_of, verdict_of, answer_kind, answer_place}
use Rattle.ground.specs.Blocks.{blocks_in}
use Rattle.meaning.specs.Rules.{Breach, first_breach, is_complete}
use Rattle.meaning.specs.Text.{header_in}
use Rattle.meaning.specs.Deliveries.{Delivery, Call, Promised, Calls, no_call, called, session_after, grid_after, taken_text, deliveries, bytes_if, refused_by, answer_to}
use Rattle.meaning.proofs.Desks.{Desk, desk, answered, after, call-desk}
use Rattle.meaning.proofs.OneDelivery.{Stands, answer-told, stands-next}
use Rattle.slip.specs.Slip.{handed}
use Rattle.ledger.specs.Numbers.{kept, session_numbers}
use Rattle.ledger.specs.Ledger.{session_said, numbers_after_answer, delivered_to, numbers_left, grid_left}
use Rattle.ledger.proofs.Inverse.{said-back}
use Rattle.office.specs.DeskCalls.{DeskCall, DeskPromised, DeskCalls, no_call as no_desk_call, called as desk_called, numbers_after, cells_after, text_taken, sent_blocks}

-- ---- one call

-- the call of `deliver` behind it
abbrev pub as_call : List ℤ → List ℤ → DeskCall → Call
as_call numbers grid c =
    record { sent = c.sent; returned = delivered_to numbers c.sent.number c.sent.bytes grid; left = lend c.grid }

pub as-promised : {numbers grid : List ℤ} {c : DeskCall} → DeskPromised numbers grid c
    → Promised (session_said numbers) (lend grid) (as_call numbers grid c)
as-promised p = record { answers = refl; fills = p.fills }

-- by the verdict: the numbers left say the session returned, and are its numbers
module _ (numbers base : List ℤ) where
  abbrev s : Session
  s = session_said numbers

  says : (v : Verdict) → session_said (numbers_after_answer (answer_of s v).answer (answer_of s v).session numbers) ≡ (answer_of s v).session
  says again = refl
  says (wrong kind block byte) = refl
  says (begins h) = said-back (begun s.family h) (drop session_numbers numbers)
  says (fills after at hs) = said-back after (drop session_numbers numbers)

  keeps : numbers ≡ kept s base → (v : Verdict) → numbers_after_answer (answer_of s v).answer (answer_of s v).session numbers ≡ kept (answer_of s v).session base
  keeps e again = e
  keeps e (wrong kind block byte) = e
  keeps e (begins h) = ap (λ (l : List ℤ). kept (begun s.family h) l) e
  keeps e (fills after at hs) = ap (λ (l : List ℤ). kept after l) e

module _ {numbers grid : List ℤ} {c : DeskCall} (p : DeskPromised numbers grid c) where
  abbrev v : Verdict
  v = verdict_of (session_said numbers) c.sent.number c.sent.bytes (room_of (lend grid))

  pub call-says : session_said c.session ≡ (as_call numbers grid c).returned.session
  call-says = ap session_said p.keeps ∙ says numbers [] v

  pub call-keeps : (base : List ℤ) → numbers ≡ kept (session_said numbers) base → c.session ≡ kept (session_said c.session) base
  call-keeps base e = p.keeps ∙ keeps numbers base e v ∙ ap (λ (s : Session). kept s base) (sym call-says)

-- ---- calls one after another

abbrev pub as_calls : List ℤ → List ℤ → List DeskCall → List Call
as_calls numbers grid [] = []
as_calls numbers grid (c ∷ cs) = as_call numbers grid c ∷ as_calls c.session c.grid cs

pub as-calls : {numbers grid : List ℤ} {cs : List DeskCall} → DeskCalls numbers grid cs
    → Calls (session_said numbers) (lend grid) (as_calls numbers grid cs)
as-calls no_desk_call = no_call
as-calls (desk_called {numbers} {grid} {c} {cs} p rest) =
    called (as-promised p)
    (subst (λ (s : Session). Calls s (lend c.grid) (as_calls c.session c.grid cs)) (call-says p) (as-calls rest))

pub as-cells : (numbers grid : List ℤ) (cs : List DeskCall) → grid_after grid (as_calls numbers grid cs) ≡ cells_after grid cs
as-cells numbers grid [] = refl
as-cells numbers grid (c ∷ cs) = as-cells c.session c.grid cs

pub as-sent : (numbers grid : List ℤ) (cs : List DeskCall) → deliveries (as_calls numbers grid cs) ≡ sent_blocks cs
as-sent numbers grid [] = refl
as-sent numbers grid (c ∷ cs) = ap (λ (l : List Delivery). c.sent ∷ l) (as-sent c.session c.grid cs)

pub as-numbers : {numbers grid : List ℤ} {cs : List DeskCall} (base : List ℤ) → DeskCalls numbers grid cs
    → numbers ≡ kept (session_said numbers) base
    → numbers_after numbers cs ≡ kept (session_after (session_said numbers) (as_calls numbers grid cs)) base
as-numbers base no_desk_call e = e
as-numbers base (desk_called {numbers} {grid} {c} {cs} p rest) e =
    as-numbers base rest (call-keeps p base e)
    ∙ ap (λ (s : Session). kept (session_after s (as_calls c.session c.grid cs)) base) (call-says p)

-- ---- every list of deliveries has such calls, so what is said of them is not said of nothing

abbrev pub desk_call_for : List ℤ → List ℤ → List ℕ → Delivery → DeskCall
desk_call_for numbers grid lent d =
    record {
      sent = d;
      lent = lent;
      result = answer_kind (delivered_to numbers d.number d.bytes grid).answer;
      session = numbers_left numbers d.number d.bytes grid;
      grid = grid_left numbers d.number d.bytes grid;
      answer = handed (answer_place (delivered_to numbers d.number d.bytes grid).answer) lent;
    }

abbrev pub desk_calls_for : List ℤ → List ℤ → List ℕ → List Delivery → List DeskCall
desk_calls_for numbers grid lent [] = []
desk_calls_for numbers grid lent (d ∷ ds) =
    desk_call_for numbers grid lent d
    ∷ desk_calls_for (numbers_left numbers d.number d.bytes grid) (grid_left numbers d.number d.bytes grid) lent ds

pub desk-calls-kept : (numbers grid : List ℤ) (lent : List ℕ) (ds : List Delivery) → DeskCalls numbers grid (desk_calls_for numbers grid lent ds)
desk-calls-kept numbers grid lent [] = no_desk_call
desk-calls-kept numbers grid lent (d ∷ ds) =
    desk_called (record { tells = refl; keeps = refl; fills = refl; hands = refl })
    (desk-calls-kept (numbers_left numbers d.number d.bytes grid) (grid_left numbers d.number d.bytes grid) lent ds)

-- ---- a call that is answered 0 was taken

-- no refusal that the paper's table tells has the number 0
pub record Telling (a : Answer) : Type 0 where
  pub tells : (bytes : List ℕ) → bytes_if a bytes ≡ cond (eqb (answer_kind a) 0) bytes []
  pub taken : answer_kind a ≡ 0 → a ≡ Taken

tells-taken : Telling Taken
tells-taken = record { tells = λ b. refl; taken = λ z. refl }

tells-held : Telling Held
tells-held = record { tells = λ b. refl; taken = λ z. absurd (omega (arith, z)) }

tells-either : (b : Bool) {x y : Answer} → Telling x → Telling y → Telling (cond b x y)
tells-either true f g = f
tells-either false f g = g

-- a refusal by a number that is not 0
tells-kind : (kind block byte : ℕ) → eqb kind 0 ≡ false → Telling (Refused kind block byte)
tells-kind kind block byte e = record { tells = λ bytes. rw e; taken = λ z. absurd (eqb-false kind 0 e z) }

tells-broken : (b : Breach) {y : Answer} → Telling y → Telling (refused_by b y)
tells-broken b {y} f = by-test (eqb b.kind 0) (λ e. rw e f) (λ e. rw e (tells-kind b.kind b.block b.byte e))

pub told-bytes : (family : ℕ) (text : List ℕ) (number : ℕ) (block : List ℕ) (room : Room) → Telling (answer_to family text number block room)
told-bytes family text number block room =
    tells-either (not (eqb (length block) 1024)) (tells-kind 1 number 0 refl)
    (tells-either (ltb number (blocks_in text)) tells-held
    (tells-either (ltb (blocks_in text) number) (tells-kind 3 number 0 refl)
    (tells-either (eqb number 0)
    (tells-broken (first_breach family (text ++ block))
    (tells-either (too_short room (header_in (text ++ block))) (tells-kind 12 0 0 refl) tells-taken))
    (tells-either (is_complete text) (tells-kind 4 number 0 refl)
    (tells-either (too_short room (header_in (text ++ block))) (tells-kind 12 number 0 refl)
    (tells-broken (first_breach family (text ++ block)) tells-taken))))))

module _ (lent : List ℤ) where
  call-text : {family : ℕ} {text : List ℕ} {numbers grid : List ℤ} {c : DeskCall} → Stands family text lent (desk (session_said numbers) (lend grid))
      → DeskPromised numbers grid c
      → bytes_if (as_call numbers grid c).returned.answer c.sent.bytes ≡ cond (eqb c.result 0) c.sent.bytes []
  call-text {family} {text} {numbers} {grid} {c} st p =
      let e = answer-told family text lent (desk (session_said numbers) (lend grid)) st c.sent in
      let room = room_of (lend lent) in
      ap (λ (a : Answer). bytes_if a c.sent.bytes) e
      ∙ (told-bytes family text c.sent.number c.sent.bytes room).tells c.sent.bytes
      ∙ ap (λ (n : ℕ). cond (eqb n 0) c.sent.bytes []) (sym (p.tells ∙ ap answer_kind e))

  pub as-text : {family : ℕ} {text : List ℕ} {numbers grid : List ℤ} {cs : List DeskCall} → Stands family text lent (desk (session_said numbers) (lend grid))
      → DeskCalls numbers grid cs → taken_text (as_calls numbers grid cs) ≡ text_taken cs
  as-text st no_desk_call = refl
  as-text {family} {text} st (desk_called {numbers} {grid} {c} {cs} p rest) =
      let k = desk (session_said numbers) (lend grid) in
      let d : desk (session_said c.session) (lend c.grid) ≡ after k c.sent
      = (λ j. desk (call-says p j) (lend c.grid)) ∙ call-desk (as-promised p) in
      let next = subst (λ (x : Desk). Stands family (text ++ bytes_if (answered k c.sent) c.sent.bytes) lent x) (sym d)
      (stands-next family text lent k st c.sent) in
      ap₂ (λ (a b : List ℕ). a ++ b) (call-text st p)
      (as-text {text = text ++ bytes_if (answered k c.sent) c.sent.bytes} {numbers = c.session} {grid = c.grid} next rest)
