-- What the clauses before the counts bound, so that the counts can be added up; and that both halves are the whole.
use mathlib.Core.Bool.{Bool, true, false}
use mathlib.Core.Path.{◌≡◌, refl}
use Prim.Native.Nat.{◌≤◌}
use native.Mathlib.Omega.{arith}
use Rattle.laws.specs.Sign.{implies, ◌and◌}
use Rattle.laws.proofs.Tests.{and_first, and_second, asked}
use Rattle.heading.specs.Heading.{family_obeys}
use Rattle.heading.proofs.HeadingFacts.{family-facts}
use Rattle.session.specs.declared.Session.{Session}
use Rattle.session.specs.Session.{busy, open_read, open_blocks, profile_obeys, closed_obeys, column_obeys, finish_obeys, begun_obeys}
use Rattle.session.specs.Steps.{Bounded, places_obey, counts_obey}
use Rattle.session.proofs.Facts.{Profiling, profile-facts, closed_facts, finish-facts}

pub blocks-few : (s : Session) → open_read s ≤ 2048 → open_blocks s ≤ 13
blocks-few s h = go (busy s) refl
  where
    go : (b : Bool) → busy s ≡ b → open_blocks s ≤ 13
    go true e =
        let r : s.profile.read ≤ 2048 = rw e at h in
        rw e (omega arith)
    go false e = rw e (omega arith)

pub read-few : (s : Session) (h : busy s ≡ true → Profiling s.family s.header s.profile) → open_read s ≤ 2048
read-few s h = go (busy s) refl
  where
    go : (b : Bool) → busy s ≡ b → open_read s ≤ 2048
    go true e =
        let p = h e in
        rw e (omega arith)
    go false e = rw e (omega arith)

pub places-bound : (s : Session) → places_obey s ≡ true → Bounded s
places-bound s t =
    let header = family-facts s.family s.header (and_first (family_obeys s.family s.header) _ t) in
    let t2 = and_second (family_obeys s.family s.header) _ t in
    let closed = closed_facts s (and_first (closed_obeys s) _ t2) in
    let t3 = and_second (closed_obeys s) _ t2 in
    let p = implies (busy s) (profile_obeys s.family s.header s.profile) in
    let t5 = and_second (column_obeys s) _ (and_second p _ t3) in
    record {
      closed = omega arith;
      read = read-few s (λ b. profile-facts s.family s.header s.profile (asked (busy s) _ (and_first p _ t3) b));
      finished = (finish-facts s t5).0;
    }

-- five tests and a sixth
five : (a b c d e r : Bool) → ((a and b and c and d and e) and r) ≡ (a and b and c and d and e and r)
five true true true true true r = refl
five true true true true false r = refl
five true true true false e r = refl
five true true false d e r = refl
five true false c d e r = refl
five false b c d e r = refl

pub halves : (s : Session) → (places_obey s and counts_obey s) ≡ begun_obeys s
halves s =
    five (family_obeys s.family s.header) (closed_obeys s) (implies (busy s) (profile_obeys s.family s.header s.profile)) (column_obeys s)
    (finish_obeys s)
    (counts_obey s)
