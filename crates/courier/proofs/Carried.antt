-- What a run keeps as numbers is its session: where it took a block, the session was sound and said by numbers enough.
use mathlib.Core.Bool.{true, false}
use mathlib.Core.List.{List, ◌++◌}
use mathlib.Core.Path.{◌≡◌, refl, ◌∙◌, ap}
use Prim.Native.Nat.{ℕ}
use native.Mathlib.Omega.{arith}
use borrow.Author.Tests.{le-leb, ltb-true}
use lib.Dec.{ltb}
use lib.IntN.{ℤ}
use lib.ListN.{length, drop}
use Rattle.laws.proofs.Tests.{by-test}
use Rattle.session.specs.declared.Session.{Session}
use Rattle.session.specs.Session.{sound}
use Rattle.delivery.specs.declared.Delivered.{Delivered}
use Rattle.delivery.specs.Deliver.{lend}
use Rattle.delivery.proofs.SoundOut.{Idle, sound-out, idle-out, unsound-kept}
use Rattle.runs.proofs.RunLaws.{ran-keeps}
use Rattle.ledger.specs.Numbers.{numbers_of, session_numbers}
use Rattle.ledger.specs.Ledger.{session_said}
use Rattle.ledger.specs.Row.{row_of}
use Rattle.ledger.proofs.Keeping.{row_is, sound-enough}
use Rattle.courier.specs.Courier.{ran_to, numbers_run}
use Rattle.courier.specs.Steps.{taken_kept}

module _ (numbers : List ℤ) (number : ℕ) (blocks : List ℕ) (grid : List ℤ) (i : Idle (session_said numbers)) where
  abbrev s : Session
  s = session_said numbers

  abbrev after : Session
  after = (ran_to numbers number blocks grid).session

  -- an unsound session is handed back
  unsound-same : sound s ≡ false → after ≡ s
  unsound-same t =
      ran-keeps s number blocks (lend grid) (λ (x : Session). x ≡ s)
      (λ x m block l e. ap (λ (d : Delivered). d.session) (unsound-kept x m block l (ap sound e ∙ t)) ∙ e) refl

  took-sound : ltb s.taken after.taken ≡ true → sound s ≡ true
  took-sound more =
      by-test (sound s) (λ t. t)
      (λ t. let e = ap (λ (x : Session). x.taken) (unsound-same t) in absurd (omega (arith, ltb-true s.taken after.taken more, e)))

  -- sound, and its idle numbers within 64 bits
  after-row : sound s ≡ true → row_of after ≡ numbers_of after
  after-row t =
      let k = ran-keeps s number blocks (lend grid) (λ (x : Session). (sound x ≡ true) × Idle x)
      (λ x m block l p. (sound-out x m block l p.0, idle-out x m block l p.0 p.1)) (t, i) in
      row_is after k.0 k.1

  pub carried : taken_kept s.taken after numbers ≡ numbers_run numbers number blocks grid
  carried =
      by-test (ltb s.taken after.taken)
      (λ e.
      let t = took-sound e in
      rw (e, le-leb session_numbers (length numbers) (sound-enough numbers t)) (ap (λ (l : List ℤ). l ++ drop session_numbers numbers) (after-row t)))
      (λ e. rw e)
