-- Deliveries computed: the desk, session and lent grid, that a list of them leaves by the definition of one delivery. Calls that keep the
-- promise leave the same, so what is shown of desks holds of calls.
use mathlib.Core.List.{List, ◌++◌, [], ◌∷◌}
use mathlib.Core.Path.{◌≡◌, refl, ◌∙◌, ap, ap₂}
use lib.IntN.{ℤ}
use Prim.Native.Nat.{ℕ}
use Rattle.session.specs.declared.Session.{Session}
use Rattle.session.specs.Session.{opened}
use Rattle.delivery.specs.declared.Answer.{Answer}
use Rattle.delivery.specs.declared.Delivered.{Delivered}
use Rattle.delivery.specs.Deliver.{Lent, lend, deliver_of, lent_after}
use Rattle.meaning.specs.Deliveries.{Delivery, Call, Promised, Calls, no_call, called, session_after, grid_after, bytes_if, taken_text, deliveries, answers}

pub record Desk : Type 0 where
  pub session : Session
  pub lent : Lent

abbrev pub desk : Session → Lent → Desk
desk s lent = record { session = s; lent = lent }

abbrev pub at_first : ℕ → List ℤ → Desk
at_first family grid = desk (opened family) (lend grid)

abbrev pub answered : Desk → Delivery → Answer
answered k d = (deliver_of k.session d.number d.bytes k.lent).answer

abbrev pub after : Desk → Delivery → Desk
after k d =
    record {
      session = (deliver_of k.session d.number d.bytes k.lent).session;
      lent = lent_after k.session d.number d.bytes k.lent;
    }

abbrev pub after_all : Desk → List Delivery → Desk
after_all k [] = k
after_all k (d ∷ ds) = after_all (after k d) ds

abbrev pub text_after : Desk → List Delivery → List ℕ
text_after k [] = []
text_after k (d ∷ ds) = bytes_if (answered k d) d.bytes ++ text_after (after k d) ds

abbrev pub all_answered : Desk → List Delivery → List Answer
all_answered k [] = []
all_answered k (d ∷ ds) = answered k d ∷ all_answered (after k d) ds

-- ---- a call that keeps the promise

module _ {s : Session} {lent : Lent} {c : Call} (p : Promised s lent c) where
  pub call-desk : desk c.returned.session c.left ≡ after (desk s lent) c.sent
  call-desk = λ i. record { session = (p.answers i).session; lent = lend (p.fills i) }

  pub call-answer : c.returned.answer ≡ answered (desk s lent) c.sent
  call-answer = ap (λ (r : Delivered). r.answer) p.answers

-- ---- calls one after another

pub calls-desk : {s : Session} {lent : Lent} {cs : List Call} → Calls s lent cs
    → desk (session_after s cs) (lend (grid_after lent.grid cs)) ≡ after_all (desk s lent) (deliveries cs)
calls-desk no_call = refl
calls-desk (called {s} {lent} {c} {cs} p rest) = calls-desk rest ∙ ap (λ (k : Desk). after_all k (deliveries cs)) (call-desk p)

pub calls-text : {s : Session} {lent : Lent} {cs : List Call} → Calls s lent cs → taken_text cs ≡ text_after (desk s lent) (deliveries cs)
calls-text no_call = refl
calls-text (called {s} {lent} {c} {cs} p rest) =
    ap₂ (λ (a : Answer) (t : List ℕ). bytes_if a c.sent.bytes ++ t) (call-answer p)
    (calls-text rest ∙ ap (λ (k : Desk). text_after k (deliveries cs)) (call-desk p))

pub calls-answers : {s : Session} {lent : Lent} {cs : List Call} → Calls s lent cs → answers cs ≡ all_answered (desk s lent) (deliveries cs)
calls-answers no_call = refl
calls-answers (called {s} {lent} {c} {cs} p rest) =
    ap₂ (λ (a : Answer) (l : List Answer). a ∷ l) (call-answer p)
    (calls-answers rest ∙ ap (λ (k : Desk). all_answered k (deliveries cs)) (call-desk p))

-- ---- every list of deliveries has calls that keep the promise, so what is said of them is not said of nothing

abbrev pub calls_for : Desk → List Delivery → List Call
calls_for k [] = []
calls_for k (d ∷ ds) =
    record { sent = d; returned = deliver_of k.session d.number d.bytes k.lent; left = (after k d).lent } ∷ calls_for (after k d) ds

pub calls-kept : (k : Desk) (ds : List Delivery) → Calls k.session k.lent (calls_for k ds)
calls-kept k [] = no_call
calls-kept k (d ∷ ds) = called (record { answers = refl; fills = refl }) (calls-kept (after k d) ds)

pub calls-deliver : (k : Desk) (ds : List Delivery) → deliveries (calls_for k ds) ≡ ds
calls-deliver k [] = refl
calls-deliver k (d ∷ ds) = ap (λ (l : List Delivery). d ∷ l) (calls-deliver (after k d) ds)
