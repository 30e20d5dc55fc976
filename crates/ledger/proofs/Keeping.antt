-- What is kept of a session is the session: its counts fit 64 bits with a sign where it is sound and its idle numbers do.
use mathlib.Core.Bool.{Bool, true, false}
use mathlib.Core.List.{List, [], ◌∷◌, ◌++◌}
use mathlib.Core.Path.{◌≡◌, refl, sym, ◌∙◌, ap}
use Prim.Native.Nat.{ℕ, ◌^◌, ◌≤◌, ◌<◌, min}
use native.Mathlib.Omega.{arith}
use borrow.Author.Tests.{leb-true, ltb-true, eqb-true, le-leb, lt-leb}
use lib.Dec.{leb, eqb}
use lib.IntN.{ℤ, pos}
use lib.ListN.{length, drop}
use lib.Seq.{sets, sets-eq}
use Rattle.laws.specs.Sign.{◌and◌}
use Rattle.laws.proofs.Tests.{by-test, clash, and_first}
use Rattle.heading.proofs.HeadingFacts.{family-facts}
use Rattle.heading.proofs.Modest.{framed-modest}
use Rattle.session.specs.declared.Session.{Session}
use Rattle.session.specs.Session.{sound, busy, begun_obeys, opened}
use Rattle.session.proofs.Facts.{begun-facts}
use Rattle.session.proofs.Sound.{fresh-or-begun, sound-known, taken-bound, posts-bound}
use Rattle.delivery.specs.declared.Answer.{Answer}
use Rattle.delivery.specs.declared.Answer.TheVariants.{Taken, Held, Refused}
use Rattle.delivery.specs.declared.Delivered.{Delivered}
use Rattle.delivery.specs.Deliver.{Lent, deliver_of}
use Rattle.delivery.proofs.SoundOut.{Idle, sound-out, idle-out, unsound-kept}
use Rattle.ledger.specs.Numbers.{numbers_of, session_numbers}
use Rattle.ledger.specs.Ledger.{none_negative, run, is_session, session_kept, session_said, no_session}
use Rattle.ledger.specs.Row.{with_sign, header_row, count_row, profile_row, added_row, row_of}
use Rattle.ledger.specs.Steps.{Keepable}

-- four rows, one behind the other, are one
pub rows-put : (s : Session) (numbers : List ℤ) → session_numbers ≤ length numbers
    → sets (sets (sets (sets numbers 0 (header_row s.header)) 20 (count_row s)) 28 (profile_row s.profile)) 37 (added_row s)
    ≡ row_of s ++ drop session_numbers numbers
rows-put s numbers le = sets-eq (row_of s) numbers 0 le

-- ---- counts that fit

small : (n : ℕ) → n < 2 ^ 63 → with_sign n ≡ pos n
small n lt = let e : min n 9223372036854775807 ≡ n = omega (arith, lt) in ap pos e

-- the open profile's posts, or none
posts-few : (s : Session) → begun_obeys s ≡ true → s.profile.posts ≤ 2048
posts-few s b =
    by-test (busy s) (λ t. ((begun-facts s b).profile t).posts)
    (λ t. by-test (eqb s.profile.posts 0) (λ e. omega (arith, eqb-true s.profile.posts 0 e)) (λ e. clash (rw e at t)))

-- a family that is known is 0 or 1
family-small : (s : Session) → sound s ≡ true → s.family < 2 ^ 63
family-small s t = omega (arith, ltb-true s.family 2 (sound-known s t))

-- a fresh session's: all zero but the family
pub opened-row : (family : ℕ) → family < 2 ^ 63 → row_of (opened family) ≡ numbers_of (opened family)
opened-row family lt =
    λ j. header_row (opened family).header ++ (count_row (opened family) ++ (profile_row (opened family).profile ++ ((opened family).sum ∷ small family lt j ∷ [])))

begun-row : (s : Session) → sound s ≡ true → begun_obeys s ≡ true → Idle s → row_of s ≡ numbers_of s
begun-row s t b i =
    let f = begun-facts s b in
    let h = s.header in
    let p = s.profile in
    let g = family-facts s.family h f.header in
    let m = framed-modest h g in
    let n : h.profiles ≤ 2048 = g.profiles.greatest in
    let a : h.accuracy ≤ 1 = g.accuracy.greatest in
    λ j.
    small h.level (omega (arith, m.level)) j
    ∷ small h.system (omega (arith, m.system)) j
    ∷ small h.zone (omega (arith, m.zone)) j
    ∷ small h.ground (omega (arith, m.ground)) j
    ∷ small h.vertical (omega (arith, m.vertical)) j
    ∷ h.sw.x
    ∷ h.sw.y
    ∷ h.nw.x
    ∷ h.nw.y
    ∷ h.ne.x
    ∷ h.ne.y
    ∷ h.se.x
    ∷ h.se.y
    ∷ h.least
    ∷ h.greatest
    ∷ small h.accuracy (omega (arith, a)) j
    ∷ small h.xstep (omega (arith, m.xstep)) j
    ∷ small h.ystep (omega (arith, m.ystep)) j
    ∷ small h.zstep (omega (arith, m.zstep)) j
    ∷ small h.profiles (omega (arith, n)) j
    ∷ small s.taken (omega (arith, taken-bound s t)) j
    ∷ small s.closed (omega (arith, f.closed, n)) j
    ∷ small s.posts (omega (arith, posts-bound s t)) j
    ∷ small s.filled (omega (arith, f.filled, posts-bound s t)) j
    ∷ s.low
    ∷ s.high
    ∷ small s.column i.column j
    ∷ small s.finished (omega (arith, f.finished)) j
    ∷ small p.posts (omega (arith, posts-few s b)) j
    ∷ small p.row i.row j
    ∷ p.datum
    ∷ p.least
    ∷ p.greatest
    ∷ small p.read i.read j
    ∷ small p.filled i.filled j
    ∷ p.low
    ∷ p.high
    ∷ s.sum
    ∷ small s.family (family-small s t) j
    ∷ []

pub row_is : (s : Session) → sound s ≡ true → Idle s → row_of s ≡ numbers_of s
row_is s t i =
    fresh-or-begun s t (λ e. ap row_of e ∙ opened-row s.family (family-small s t) ∙ ap numbers_of (sym e)) (λ b. begun-row s t b i)

-- ---- numbers that are no session's take no block

pub none-unsound : sound no_session ≡ false
unfolding sound
none-unsound = refl

-- a session that is sound was said by numbers enough
pub sound-enough : (numbers : List ℤ) → sound (session_said numbers) ≡ true → session_numbers ≤ length numbers
unfolding session_said is_session
sound-enough numbers t =
    by-test (is_session numbers) (λ e. leb-true session_numbers (length numbers) (and_first (leb session_numbers (length numbers)) _ e))
    (λ e. clash (sym t ∙ rw e none-unsound))

abbrev taken? : Answer → Bool
taken? Taken = true
taken? Held = false
taken? (Refused kind block byte) = false

module _ (numbers : List ℤ) (number : ℕ) (block : List ℕ) (lent : Lent) where
  abbrev d : Delivered
  d = deliver_of (session_said numbers) number block lent

  taken-sound : d.answer ≡ Taken → sound (session_said numbers) ≡ true
  taken-sound e =
      by-test (sound (session_said numbers)) (λ t. t)
      (λ t. clash (sym (ap taken? e) ∙ ap (λ (x : Delivered). taken? x.answer) (unsound-kept (session_said numbers) number block lent t)))

  pub keepable : Idle (session_said numbers) → Keepable d numbers
  keepable i =
      record {
        enough = λ e. sound-enough numbers (taken-sound e);
        fits =
            λ e.
            row_is d.session (sound-out (session_said numbers) number block lent (taken-sound e))
            (idle-out (session_said numbers) number block lent (taken-sound e) i);
      }

-- ---- what the tests of the code say of the definitions

pub said-kept : (numbers : List ℤ) → is_session numbers ≡ true → session_said numbers ≡ session_kept numbers
unfolding session_said
said-kept numbers t = rw t

pub said-none : (numbers : List ℤ) → is_session numbers ≡ false → session_said numbers ≡ no_session
unfolding session_said
said-none numbers t = rw t

pub too_few : (numbers : List ℤ) → length numbers < session_numbers → is_session numbers ≡ false
unfolding is_session
too_few numbers lt = let e : leb session_numbers (length numbers) ≡ false = lt-leb session_numbers (length numbers) lt in rw e

pub enough-of : (numbers : List ℤ) → session_numbers ≤ length numbers
    → is_session numbers
    ≡ (none_negative (run 0 5 numbers) and none_negative (run 15 9 numbers) and none_negative (run 26 4 numbers) and none_negative (run 33 2 numbers)
    and none_negative (run 38 1 numbers))
unfolding is_session
enough-of numbers le = let e : leb session_numbers (length numbers) ≡ true = le-leb session_numbers (length numbers) le in rw e
