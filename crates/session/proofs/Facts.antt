-- The clauses of a begun session as facts, and that the facts are exactly what the tests ask: `begun-facts`, `facts-begun`.
use mathlib.Core.Bool.{true, cond}
use mathlib.Core.Path.{◌≡◌}
use Prim.Native.Nat.{◌+◌, ◌-◌, ◌%◌, ◌≤◌, ◌<◌, ℕ, ◌*◌}
use lib.IntN.{nat_abs, ℤ}
use borrow.Author.Tests.{leb-true, ltb-true, eqb-true, le-leb, lt-ltb, eq-eqb}
use lib.Dec.{leb, eqb, ltb}
use lib.Signed.{le_z}
use Rattle.laws.specs.Sign.{implies}
use Rattle.laws.proofs.Tests.{split, and_both, asked, unasked, either_second, either-cases, either_first}
use Rattle.field.proofs.Ranges.{posts-few}
use Rattle.field.specs.Field.{in_range, posts_limits}
use Rattle.frame.specs.Frame.{rows_of, columns_of}
use Rattle.frame.specs.declared.Header.{Header}
use Rattle.heading.specs.Heading.{is_real_number, family_obeys}
use Rattle.session.specs.declared.Profile.{Profile}
use Rattle.session.specs.Session.{profile_obeys, extremes_obey, busy, open_read, open_blocks, closed_obeys, column_obeys, posts_obey, finish_obeys, taken_obeys, begun_obeys}
use Rattle.session.specs.declared.Session.{Session}

-- ---- the open profile

-- the posts are those that a sheet of the family has, 1,201 in a Canadian one, and so 2,048 at most
pub record Profiling (family : ℕ) (h : Header) (p : Profile) : Type 0 where
  pub range : in_range (posts_limits family) p.posts ≡ true
  pub posts : p.posts ≤ 2048
  pub room : p.row + p.posts ≤ rows_of h
  pub datum : nat_abs p.datum ≤ 1000000
  pub least : is_real_number p.least ≡ true
  pub greatest : is_real_number p.greatest ≡ true
  pub first : 146 ≤ p.read
  pub step : (p.read - 146) % 170 ≡ 0
  pub more : p.read < p.posts

pub profile-facts : (family : ℕ) (h : Header) (p : Profile) → profile_obeys family h p ≡ true → Profiling family h p
profile-facts family h p t =
    let posts = split (in_range (posts_limits family) p.posts) _ t in
    let room = split (leb (p.row + p.posts) (rows_of h)) _ posts.1 in
    let datum = split (leb (nat_abs p.datum) 1000000) _ room.1 in
    let least = split (is_real_number p.least) _ datum.1 in
    let greatest = split (is_real_number p.greatest) _ least.1 in
    let first = split (leb 146 p.read) _ greatest.1 in
    let step = split (eqb ((p.read - 146) % 170) 0) _ first.1 in
    record {
      range = posts.0;
      posts = (posts-few family p.posts posts.0).1;
      room = leb-true (p.row + p.posts) (rows_of h) room.0;
      datum = leb-true (nat_abs p.datum) 1000000 datum.0;
      least = least.0;
      greatest = greatest.0;
      first = leb-true 146 p.read first.0;
      step = eqb-true ((p.read - 146) % 170) 0 step.0;
      more = ltb-true p.read p.posts step.1;
    }

pub facts-profile : (family : ℕ) (h : Header) (p : Profile) → Profiling family h p → profile_obeys family h p ≡ true
facts-profile family h p f =
    and_both f.range
    (and_both (le-leb (p.row + p.posts) (rows_of h) f.room)
    (and_both (le-leb (nat_abs p.datum) 1000000 f.datum)
    (and_both f.least
    (and_both f.greatest
    (and_both (le-leb 146 p.read f.first)
    (and_both (eq-eqb ((p.read - 146) % 170) 0 f.step) (lt-ltb p.read p.posts f.more)))))))

-- ---- running extremes

pub record Running (low high : ℤ) : Type 0 where
  pub ordered : le_z low high ≡ true
  pub lowest : nat_abs low ≤ 4276700
  pub highest : nat_abs high ≤ 4276700

pub extremes-facts : (filled : ℕ) (low high : ℤ) → extremes_obey filled low high ≡ true → 0 < filled → Running low high
extremes-facts filled low high t h =
    let a = split (le_z low high) _ (asked (ltb 0 filled) _ t (lt-ltb 0 filled h)) in
    let b = split (leb (nat_abs low) 4276700) _ a.1 in
    record {
      ordered = a.0;
      lowest = leb-true (nat_abs low) 4276700 b.0;
      highest = leb-true (nat_abs high) 4276700 b.1;
    }

pub facts-extremes : (filled : ℕ) (low high : ℤ) → (0 < filled → Running low high) → extremes_obey filled low high ≡ true
facts-extremes filled low high f =
    unasked (ltb 0 filled) _
    (λ t.
    let r = f (ltb-true 0 filled t) in
    and_both r.ordered
    (and_both (le-leb (nat_abs low) 4276700 r.lowest) (le-leb (nat_abs high) 4276700 r.highest)))

-- ---- the session

pub record Begun (s : Session) : Type 0 where
  pub header : family_obeys s.family s.header ≡ true
  pub closed : s.closed ≤ s.header.profiles
  pub below : busy s ≡ true → s.closed < s.header.profiles
  pub profile : busy s ≡ true → Profiling s.family s.header s.profile
  pub column-open : busy s ≡ true → s.column + s.header.profiles ≤ columns_of s.header
  pub column-closed : 0 < s.closed → s.column + s.header.profiles ≤ columns_of s.header
  pub finished : s.finished ≤ 1
  pub finish : s.finished ≡ 1 → (s.header.accuracy ≡ 1) × (s.closed ≡ s.header.profiles)
  pub posts-least : s.closed + open_read s ≤ s.posts
  pub posts-most : s.posts ≤ 2048 * s.closed + open_read s
  pub filled : s.filled ≤ s.posts
  pub profile-filled : busy s ≡ true → s.profile.filled ≤ s.profile.read
  pub taken-least : 1 + s.closed + open_blocks s + s.finished ≤ s.taken
  pub taken-most : s.taken ≤ 1 + 13 * s.closed + open_blocks s + s.finished
  pub extremes : 0 < s.filled → Running s.low s.high
  pub profile-extremes : busy s ≡ true → 0 < s.profile.filled → Running s.profile.low s.profile.high
  pub sum : nat_abs s.sum ≤ s.filled * 4276700

module _ (s : Session) where
  pub closed_facts : closed_obeys s ≡ true
      → (s.closed ≤ s.header.profiles) × (busy s ≡ true → s.closed < s.header.profiles)
  closed_facts t =
      let a = split (leb s.closed s.header.profiles) _ t in (
        leb-true s.closed s.header.profiles a.0,
        λ b. ltb-true s.closed s.header.profiles (asked (busy s) _ a.1 b),
      )

  column-facts : column_obeys s ≡ true
      → cond (busy s) true (ltb 0 s.closed) ≡ true → s.column + s.header.profiles ≤ columns_of s.header
  column-facts t h =
      leb-true (s.column + s.header.profiles) (columns_of s.header) (asked (cond (busy s) true (ltb 0 s.closed)) _ t h)

  pub finish-facts : finish_obeys s ≡ true
      → (s.finished ≤ 1) × (s.finished ≡ 1 → (s.header.accuracy ≡ 1) × (s.closed ≡ s.header.profiles))
  finish-facts t =
      let a = split (leb s.finished 1) _ t in (
        leb-true s.finished 1 a.0,
        λ e.
            let b = split (eqb s.header.accuracy 1) _ (asked (eqb s.finished 1) _ a.1 (eq-eqb s.finished 1 e)) in
            (eqb-true s.header.accuracy 1 b.0, eqb-true s.closed s.header.profiles b.1),
      )

  pub begun-facts : begun_obeys s ≡ true → Begun s
  begun-facts t =
      let header = split (family_obeys s.family s.header) _ t in
      let closed = split (closed_obeys s) _ header.1 in
      let profile = split (implies (busy s) (profile_obeys s.family s.header s.profile)) _ closed.1 in
      let column = split (column_obeys s) _ profile.1 in
      let finish = split (finish_obeys s) _ column.1 in
      let posts = split (posts_obey s) _ finish.1 in
      let taken = split (taken_obeys s) _ posts.1 in
      let extremes = split (extremes_obey s.filled s.low s.high) _ taken.1 in
      let running = split (implies (busy s) (extremes_obey s.profile.filled s.profile.low s.profile.high)) _ extremes.1 in
      let least = split (leb (s.closed + open_read s) s.posts) _ posts.0 in
      let most = split (leb s.posts (2048 * s.closed + open_read s)) _ least.1 in
      let filled = split (leb s.filled s.posts) _ most.1 in
      let from = split (leb (1 + s.closed + open_blocks s + s.finished) s.taken) _ taken.0 in
      record {
        header = header.0;
        closed = (closed_facts closed.0).0;
        below = (closed_facts closed.0).1;
        profile = λ b. profile-facts s.family s.header s.profile (asked (busy s) _ profile.0 b);
        column-open = λ b. column-facts column.0 (either_first (busy s) _ b);
        column-closed = λ h. column-facts column.0 (either_second (busy s) _ (lt-ltb 0 s.closed h));
        finished = (finish-facts finish.0).0;
        finish = (finish-facts finish.0).1;
        posts-least = leb-true (s.closed + open_read s) s.posts least.0;
        posts-most = leb-true s.posts (2048 * s.closed + open_read s) most.0;
        filled = leb-true s.filled s.posts filled.0;
        profile-filled = λ b. leb-true s.profile.filled s.profile.read (asked (busy s) _ filled.1 b);
        taken-least = leb-true (1 + s.closed + open_blocks s + s.finished) s.taken from.0;
        taken-most = leb-true s.taken (1 + 13 * s.closed + open_blocks s + s.finished) from.1;
        extremes = extremes-facts s.filled s.low s.high extremes.0;
        profile-extremes =
            λ b. extremes-facts s.profile.filled s.profile.low s.profile.high (asked (busy s) _ running.0 b);
        sum = leb-true (nat_abs s.sum) (s.filled * 4276700) running.1;
      }

  pub facts-begun : Begun s → begun_obeys s ≡ true
  facts-begun f =
      and_both f.header
      (and_both
      (and_both (le-leb s.closed s.header.profiles f.closed)
      (unasked (busy s) _ (λ b. lt-ltb s.closed s.header.profiles (f.below b))))
      (and_both (unasked (busy s) _ (λ b. facts-profile s.family s.header s.profile (f.profile b)))
      (and_both
      (unasked (cond (busy s) true (ltb 0 s.closed)) _
      (λ h.
      le-leb (s.column + s.header.profiles) (columns_of s.header)
      (either-cases (busy s) _ h f.column-open (λ k. f.column-closed (ltb-true 0 s.closed k)))))
      (and_both
      (and_both (le-leb s.finished 1 f.finished)
      (unasked (eqb s.finished 1) _
      (λ h.
      let e = f.finish (eqb-true s.finished 1 h) in
      and_both (eq-eqb s.header.accuracy 1 e.0) (eq-eqb s.closed s.header.profiles e.1))))
      (and_both
      (and_both (le-leb (s.closed + open_read s) s.posts f.posts-least)
      (and_both (le-leb s.posts (2048 * s.closed + open_read s) f.posts-most)
      (and_both (le-leb s.filled s.posts f.filled)
      (unasked (busy s) _ (λ b. le-leb s.profile.filled s.profile.read (f.profile-filled b))))))
      (and_both
      (and_both (le-leb (1 + s.closed + open_blocks s + s.finished) s.taken f.taken-least)
      (le-leb s.taken (1 + 13 * s.closed + open_blocks s + s.finished) f.taken-most))
      (and_both (facts-extremes s.filled s.low s.high f.extremes)
      (and_both
      (unasked (busy s) _
      (λ b. facts-extremes s.profile.filled s.profile.low s.profile.high (f.profile-extremes b)))
      (le-leb (nat_abs s.sum) (s.filled * 4276700) f.sum)))))))))
