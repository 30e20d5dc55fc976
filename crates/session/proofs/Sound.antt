-- What a sound session is known by: fresh or begun, and the two bounds that document 01 draws from the clauses.
use mathlib.Core.Bool.{true, Bool, false}
use mathlib.Core.Path.{◌≡◌, ap, refl}
use borrow.Author.Tests.{eqb-true}
use lib.Dec.{eqb}
use mathlib.Core.Logic.{◌↔◌}
use Prim.Native.Nat.{ℕ, ◌≤◌}
use native.Mathlib.Omega.{arith}
use Rattle.laws.specs.Family.{known}
use Rattle.laws.specs.Sign.{is_zero}
use Rattle.laws.proofs.Tests.{split, either, either-cases, and_first, and_second, and_both}
use Rattle.heading.specs.Heading.{zero_header}
use Rattle.heading.proofs.Fresh.{is-zero, header_is}
use Rattle.heading.proofs.HeadingFacts.{Framed, family-facts}
use Rattle.session.specs.declared.Profile.{Profile}
use Rattle.session.specs.Session.{no_profile, zero_profile, opened, fresh, is_fresh, sound, begun_obeys, busy, open_read, open_blocks}
use Rattle.session.specs.declared.Session.{Session}
use Rattle.session.proofs.Facts.{begun-facts, Begun}
use Rattle.session.proofs.Bounds.{read-few, blocks-few}

-- ---- fresh, field by field

profile-is : (p : Profile) → zero_profile p ≡ true → p ≡ no_profile
profile-is p t =
    let posts = split (eqb p.posts 0) _ t in
    let row = split (eqb p.row 0) _ posts.1 in
    let datum = split (is_zero p.datum) _ row.1 in
    let least = split (is_zero p.least) _ datum.1 in
    let greatest = split (is_zero p.greatest) _ least.1 in
    let read = split (eqb p.read 0) _ greatest.1 in
    let filled = split (eqb p.filled 0) _ read.1 in
    let low = split (is_zero p.low) _ filled.1 in
    λ j.
    record {
      posts = eqb-true p.posts 0 posts.0 j;
      row = eqb-true p.row 0 row.0 j;
      datum = is-zero p.datum datum.0 j;
      least = is-zero p.least least.0 j;
      greatest = is-zero p.greatest greatest.0 j;
      read = eqb-true p.read 0 read.0 j;
      filled = eqb-true p.filled 0 filled.0 j;
      low = is-zero p.low low.0 j;
      high = is-zero p.high low.1 j;
    }

-- but for the family, which any fresh session has
fresh-is : (s : Session) → is_fresh s ≡ true → s ≡ opened s.family
fresh-is s t =
    let header = split (zero_header s.header) _ t in
    let taken = split (eqb s.taken 0) _ header.1 in
    let closed = split (eqb s.closed 0) _ taken.1 in
    let posts = split (eqb s.posts 0) _ closed.1 in
    let filled = split (eqb s.filled 0) _ posts.1 in
    let low = split (is_zero s.low) _ filled.1 in
    let high = split (is_zero s.high) _ low.1 in
    let column = split (eqb s.column 0) _ high.1 in
    let finished = split (eqb s.finished 0) _ column.1 in
    let profile = split (zero_profile s.profile) _ finished.1 in
    λ j.
    record {
      header = header_is s.header header.0 j;
      taken = eqb-true s.taken 0 taken.0 j;
      closed = eqb-true s.closed 0 closed.0 j;
      posts = eqb-true s.posts 0 posts.0 j;
      filled = eqb-true s.filled 0 filled.0 j;
      low = is-zero s.low low.0 j;
      high = is-zero s.high high.0 j;
      column = eqb-true s.column 0 column.0 j;
      finished = eqb-true s.finished 0 finished.0 j;
      profile = profile-is s.profile profile.0 j;
      sum = is-zero s.sum profile.1 j;
      family = s.family;
    }

pub fresh-exactly : (s : Session) → (is_fresh s ≡ true) ↔ (s ≡ opened s.family)
fresh-exactly s = (fresh-is s, λ e. ap is_fresh e)

-- ---- fresh or begun, and of a family that we know

pub opened-sound : (family : ℕ) → known family ≡ true → sound (opened family) ≡ true
unfolding sound
opened-sound family k = rw k

pub fresh-sound : sound fresh ≡ true
fresh-sound = opened-sound 0 refl

pub begun-sound : (s : Session) → known s.family ≡ true → begun_obeys s ≡ true → sound s ≡ true
unfolding sound
begun-sound s k t = and_both k (either (λ (b : Bool). b ≡ true) (is_fresh s) refl t)

pub sound-known : (s : Session) → sound s ≡ true → known s.family ≡ true
unfolding sound
sound-known s t = and_first (known s.family) _ t

pub fresh-or-begun {ℓ} : {X : Type ℓ} (s : Session) → sound s ≡ true → (s ≡ opened s.family → X) → (begun_obeys s ≡ true → X) → X
unfolding sound
fresh-or-begun s t f g =
    either-cases (is_fresh s) (begun_obeys s) (and_second (known s.family) _ t) (λ e. f (fresh-is s e)) g

pub not-fresh-taken : (s : Session) → begun_obeys s ≡ true → 1 ≤ s.taken
not-fresh-taken s t =
    let f = begun-facts s t in
    omega arith

pub sound-begun : (s : Session) → sound s ≡ true → 1 ≤ s.taken → begun_obeys s ≡ true
sound-begun s t h =
    fresh-or-begun s t
    (λ e.
    let z : s.taken ≡ 0 = ap (λ (x : Session). x.taken) e in
    absurd (omega arith))
    (λ b. b)

pub untaken-fresh : (s : Session) → sound s ≡ true → s.taken ≡ 0 → s ≡ opened s.family
untaken-fresh s t z = fresh-or-begun s t (λ e. e) (λ b. absurd (omega (arith, not-fresh-taken s b)))

-- ---- "So taken never passes 26,626, nor posts 4,194,304."

begun-bounds : (s : Session) → begun_obeys s ≡ true → (s.taken ≤ 26626) × (s.posts ≤ 4194304)
begun-bounds s b =
    let f = begun-facts s b in
    go f (family-facts s.family s.header f.header) (busy s) refl
  where
    go : Begun s → Framed s.header → (t : Bool) → busy s ≡ t → (s.taken ≤ 26626) × (s.posts ≤ 4194304)
    go f h true e =
        let below = f.below e in
        let read = read-few s f.profile in
        let blocks = blocks-few s read in
        (omega arith, omega arith)
    go f h false e =
        let read : open_read s ≡ 0 = rw e in
        let blocks : open_blocks s ≡ 0 = rw e in
        (omega arith, omega arith)

bounds : (s : Session) → sound s ≡ true → (s.taken ≤ 26626) × (s.posts ≤ 4194304)
bounds s t =
    fresh-or-begun s t
    (λ e.
    let taken : s.taken ≡ 0 = ap (λ (x : Session). x.taken) e in
    let posts : s.posts ≡ 0 = ap (λ (x : Session). x.posts) e in
    (omega arith, omega arith))
    (begun-bounds s)

pub taken-bound : (s : Session) → sound s ≡ true → s.taken ≤ 26626
taken-bound s t = (bounds s t).0

pub posts-bound : (s : Session) → sound s ≡ true → s.posts ≤ 4194304
posts-bound s t = (bounds s t).1
