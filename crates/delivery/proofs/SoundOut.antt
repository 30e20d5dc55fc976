-- A sound session stays sound: whatever is delivered, the session handed back is sound, and one that is not sound is kept.
use mathlib.Core.Bool.{true, false, Bool, cond, not}
use mathlib.Core.List.{List}
use mathlib.Core.Path.{◌≡◌, sym, ◌∙◌, refl}
use Prim.Native.Nat.{ℕ, ◌+◌, ◌-◌, ◌*◌, ◌/◌, ◌%◌, ◌^◌, ◌≤◌, ◌<◌, min}
use native.Mathlib.Omega.{arith}
use lib.IntN.{ℤ, nat_abs, ◌+ℤ◌}
use lib.ListN.{length, get_or}
use borrow.Author.Tests.{ne_eqb, eqb-true, eqb-false, ltb-true, ltb-false, eq-eqb}
use lib.Dec.{eqb, ltb}
use Rattle.laws.specs.Family.{known}
use Rattle.laws.proofs.Integers.{size-sum}
use Rattle.laws.proofs.Tests.{clash, by-test}
use Rattle.field.specs.Field.{in_range, posts_limits}
use Rattle.frame.specs.declared.Header.{Header}
use Rattle.frame.specs.Frame.{columns_of, rows_of, z_of}
use Rattle.heading.specs.Heading.{is_real_number}
use Rattle.heading.proofs.HeadingFacts.{family-facts}
use Rattle.sheet.specs.RecordA.{record_of}
use Rattle.sheet.specs.RecordA.Checked.{Sheet, Refused as NoSheet}
use Rattle.sheet.specs.RecordA.{Checked}
use Rattle.sheet.proofs.SheetObeys.{family-sheet-obeys, real-number}
use Rattle.profile.specs.RecordB.{record_b}
use Rattle.profile.specs.declared.record_b.Head.{Head}
use Rattle.profile.specs.RecordB.Headed.{Profile as Headed-as-Profile, Refused as NoProfile}
use Rattle.profile.specs.RecordC.{record_c}
use Rattle.profile.specs.RecordB.{Headed}
use Rattle.profile.proofs.RecordLaws.{head-bounds, head-reals, head-posts}
use Rattle.session.specs.Session.{sound, begun, busy, open_read, open_blocks, complete}
use Rattle.session.specs.declared.Session.{Session}
use Rattle.session.specs.declared.Profile.{Profile}
use Rattle.session.proofs.Facts.{facts-begun, Begun, Running, begun-facts}
use Rattle.session.proofs.Sound.{begun-sound, sound-begun as session-begun, sound-known, taken-bound, posts-bound}
use Rattle.ground.specs.Posts.{void, tally_all, posts_fault, posts_rest_fault, posts_of}
use Rattle.ground.specs.Extremes.{filled_only, sum_of}
use Rattle.ground.specs.declared.Tally.{Tally}
use Rattle.ground.proofs.Tallies.{InOrder, Fair, tally-filled, filled_within}
use Rattle.ground.proofs.Weights.{sum_bound}
use Rattle.ground.proofs.Heights.{Cell, heights-length, heights-cells}
use Rattle.ground.proofs.PostsRead.{posts-length, posts-in-range, scan-fair}
use Rattle.delivery.specs.Deliver.{Lent, Room, room_of, too_short, finished_session, profile_tally, sheet_tally, closed_session, filled_session, heights_here, posts_here, column_fits, column_place, first_column, opened, row_fits, row_place, Verdict, again, wrong, begins, fills, answer_of, beginning, close_fault, filling, further, later, opening, verdict_of, deliver_of}
use Rattle.delivery.specs.declared.Answer.TheVariants.{Refused}
use Rattle.delivery.proofs.Placed.{row_room, column-room}

-- ---- block 0: what is read keeps the fields' rules

pub sound-begun : (family : ℕ) → known family ≡ true → (block : List ℕ) (h : Header) → record_of family block ≡ Sheet h
    → sound (begun family h) ≡ true
sound-begun family k block h e =
    begun-sound (begun family h) k
    (facts-begun (begun family h)
    (record {
      header = family-sheet-obeys family k block h e;
      closed = omega arith;
      below = λ b. clash (sym b);
      profile = λ b. clash (sym b);
      column-open = λ b. clash (sym b);
      column-closed = λ z. absurd (omega arith);
      finished = omega arith;
      finish = λ z. absurd (omega arith);
      posts-least = omega arith;
      posts-most = omega arith;
      filled = omega arith;
      profile-filled = λ b. clash (sym b);
      taken-least = omega arith;
      taken-most = omega arith;
      extremes = λ z. absurd (omega arith);
      profile-extremes = λ b. clash (sym b);
      sum = omega arith;
    }))

-- ---- record C

pub sound-finished : (s : Session) → known s.family ≡ true → Begun s → busy s ≡ false → s.closed ≡ s.header.profiles → s.header.accuracy ≡ 1
    → s.finished ≡ 0 → sound (finished_session s) ≡ true
sound-finished s k f idle all one none =
    begun-sound (finished_session s) k
    (facts-begun (finished_session s)
    (record {
      header = f.header;
      closed = f.closed;
      below = f.below;
      profile = f.profile;
      column-open = f.column-open;
      column-closed = f.column-closed;
      finished = omega arith;
      finish = λ z. (one, all);
      posts-least = f.posts-least;
      posts-most = f.posts-most;
      filled = f.filled;
      profile-filled = f.profile-filled;
      taken-least = omega (arith, f.taken-least);
      taken-most = omega (arith, f.taken-most);
      extremes = f.extremes;
      profile-extremes = f.profile-extremes;
      sum = f.sum;
    }))

-- ---- a block of a profile

running : {low high : ℤ} → InOrder low high → Running low high
running o = record { ordered = o.ordered; lowest = o.low-most; highest = o.high-most }

in_order : {low high : ℤ} → Running low high → InOrder low high
in_order r = record { ordered = r.ordered; low-most = r.lowest; high-most = r.highest }

-- what is known of a good block of profile p, with heights hs: p is the open profile, or one that opens
pub record Grows (s : Session) (column : ℕ) (p : Profile) (hs : List ℤ) : Type 0 where
  pub family-known : known s.family ≡ true
  pub facts : Begun s
  pub below : s.closed < s.header.profiles
  pub column-room : column + s.header.profiles ≤ columns_of s.header
  pub some : 1 ≤ p.posts
  pub range : in_range (posts_limits s.family) p.posts ≡ true
  pub posts-most : p.posts ≤ 2048
  pub row_room : p.row + p.posts ≤ rows_of s.header
  pub datum : nat_abs p.datum ≤ 1000000
  pub least : is_real_number p.least ≡ true
  pub greatest : is_real_number p.greatest ≡ true
  pub read_is : open_read s ≡ p.read
  pub filled : p.filled ≤ p.read
  pub within : p.read + length hs ≤ p.posts
  pub blocks : open_blocks s + 1 ≤ 13
  pub sheet-fair : Fair (tally_all (sheet_tally s) hs)
  pub profile-fair : Fair (tally_all (profile_tally p) hs)
  pub first : p.read + length hs < p.posts → 146 ≤ p.read + length hs
  pub step : p.read + length hs < p.posts → (p.read + length hs - 146) % 170 ≡ 0
  pub count : p.read + length hs < p.posts → open_blocks s ≡ (p.read + length hs - 146) / 170
  pub cells : (i : ℕ) → i < length hs → Cell (get_or hs i void)

module _ (s : Session) (column : ℕ) (p : Profile) (hs : List ℤ) (g : Grows s column p hs) where
  few : (tally_all (sheet_tally s) hs).filled ≤ s.posts + length hs
  few =
      let f = g.facts in
      omega (arith, tally-filled (sheet_tally s) hs, filled_within hs, f.filled)

  profile-few : (tally_all (profile_tally p) hs).filled ≤ p.read + length hs
  profile-few = omega (arith, tally-filled (profile_tally p) hs, filled_within hs, g.filled)

  sum-few : nat_abs (s.sum +ℤ sum_of (filled_only hs)) ≤ (tally_all (sheet_tally s) hs).filled * 4276700
  sum-few =
      omega (arith, size-sum s.sum (sum_of (filled_only hs)), sum_bound hs g.cells, g.facts.sum, tally-filled (sheet_tally s) hs)

  unfinished : s.finished ≡ 1 → ⊥
  unfinished e = omega (arith, (g.facts.finish e).1, g.below)

  opens : busy (filled_session s column p hs) ≡ true
  opens = let n : eqb p.posts 0 ≡ false = ne_eqb p.posts 0 (λ e. omega (arith, g.some)) in rw n

  pub sound-filled : p.read + length hs < p.posts → sound (filled_session s column p hs) ≡ true
  sound-filled more =
      let after = filled_session s column p hs in
      let f = g.facts in
      let read : open_read after ≡ p.read + length hs = rw opens in
      let blocks : open_blocks after ≡ (p.read + length hs - 146) / 170 + 1 = rw opens in
      begun-sound after g.family-known
      (facts-begun after
      (record {
        header = f.header;
        closed = f.closed;
        below = λ b. g.below;
        profile =
            λ b.
            record {
              range = g.range;
              posts = g.posts-most;
              room = g.row_room;
              datum = g.datum;
              least = g.least;
              greatest = g.greatest;
              first = g.first more;
              step = g.step more;
              more = more;
            };
        column-open = λ b. g.column-room;
        column-closed = λ z. g.column-room;
        finished = f.finished;
        finish = λ e. absurd (unfinished e);
        posts-least = omega (arith, read, f.posts-least, g.read_is);
        posts-most = omega (arith, read, f.posts-most, g.read_is);
        filled = few;
        profile-filled = λ b. profile-few;
        taken-least = omega (arith, blocks, f.taken-least, g.count more);
        taken-most = omega (arith, blocks, f.taken-most, g.count more);
        extremes = λ z. running (g.sheet-fair z);
        profile-extremes = λ b z. running (g.profile-fair z);
        sum = sum-few;
      }))

  pub sound-closed : p.posts ≤ p.read + length hs → sound (closed_session (filled_session s column p hs)) ≡ true
  sound-closed last =
      let after = closed_session (filled_session s column p hs) in
      let f = g.facts in
      begun-sound after g.family-known
      (facts-begun after
      (record {
        header = f.header;
        closed = omega (arith, g.below);
        below = λ b. clash (sym b);
        profile = λ b. clash (sym b);
        column-open = λ b. clash (sym b);
        column-closed = λ z. g.column-room;
        finished = f.finished;
        finish = λ e. absurd (unfinished e);
        posts-least = omega (arith, f.posts-least, g.read_is, g.some);
        posts-most = omega (arith, f.posts-most, g.read_is, g.within, g.posts-most);
        filled = few;
        profile-filled = λ b. clash (sym b);
        taken-least = omega (arith, f.taken-least);
        taken-most = omega (arith, f.taken-most, g.blocks);
        extremes = λ z. running (g.sheet-fair z);
        profile-extremes = λ b. clash (sym b);
        sum = sum-few;
      }))

-- a block without fault has none among its posts
posts-fine : (byte n : ℕ) (block : List ℕ) → (posts_rest_fault byte n block).kind ≡ 0 → (posts_fault n byte block).kind ≡ 0
posts-fine byte n block z =
    by-test (eqb (posts_fault n byte block).kind 0) (eqb-true (posts_fault n byte block).kind 0)
    (λ e. absurd (eqb-false (posts_fault n byte block).kind 0 e (rw e at z)))

module _ (s : Session) (f : Begun s) (p : Profile) (byte n : ℕ) (block : List ℕ) (z : (posts_rest_fault byte n block).kind ≡ 0)
    (datum : nat_abs p.datum ≤ 1000000) where
  many : length (heights_here s p byte n block) ≡ n
  many = heights-length (z_of s.header) p.datum (posts_of n byte block) ∙ posts-length n byte block

  fair-with : (t : Tally) → Fair t → Fair (tally_all t (heights_here s p byte n block))
  fair-with t =
      scan-fair n byte block (z_of s.header) p.datum t (posts-fine byte n block z)
      (family-facts s.family s.header f.header).zstep.greatest
      datum

  cells-with : (i : ℕ) → i < length (heights_here s p byte n block) → Cell (get_or (heights_here s p byte n block) i void)
  cells-with =
      heights-cells (z_of s.header) p.datum (posts_of n byte block) (family-facts s.family s.header f.header).zstep.greatest datum
      (λ i k. posts-in-range n byte block (posts-fine byte n block z) i (omega (arith, posts-length n byte block, k)))

-- the next block of the open profile
pub further-grows : (s : Session) (block : List ℕ) → known s.family ≡ true → Begun s → busy s ≡ true
    → (posts_rest_fault 1 (posts_here s.profile 170) block).kind ≡ 0
    → Grows s s.column s.profile (heights_here s s.profile 1 (posts_here s.profile 170) block)
further-grows s block k f b z =
    let p = s.profile in
    let n = posts_here p 170 in
    let hs = heights_here s p 1 n block in
    let q = f.profile b in
    let long : length hs ≡ min (p.posts - p.read) 170 = many s f p 1 n block z q.datum in
    let read : open_read s ≡ p.read = rw b in
    let blocks : open_blocks s ≡ (p.read - 146) / 170 + 1 = rw b in
    let more : p.read < p.posts = q.more in
    let most : p.posts ≤ 2048 = q.posts in
    let from : 146 ≤ p.read = q.first in
    let step : (p.read - 146) % 170 ≡ 0 = q.step in
    record {
      family-known = k;
      facts = f;
      below = f.below b;
      column-room = f.column-open b;
      some = omega (arith, more);
      range = q.range;
      posts-most = most;
      row_room = q.room;
      datum = q.datum;
      least = q.least;
      greatest = q.greatest;
      read_is = read;
      filled = f.profile-filled b;
      within = omega (arith, long, more);
      blocks = omega (arith, blocks, more, most);
      sheet-fair = fair-with s f p 1 n block z q.datum (sheet_tally s) (λ k. in_order (f.extremes k));
      profile-fair = fair-with s f p 1 n block z q.datum (profile_tally p) (λ k. in_order (f.profile-extremes b k));
      first = λ k. omega (arith, from);
      step = λ k. omega (arith, long, step, from, k);
      count = λ k. omega (arith, long, step, from, k, blocks);
      cells = cells-with s f p 1 n block z q.datum;
    }

-- the first block of a profile
pub opening-grows : (s : Session) (block : List ℕ) (h : Head) → sound s ≡ true → 1 ≤ s.taken → busy s ≡ false
    → s.closed < s.header.profiles → record_b s.family (s.closed + 1) block ≡ Headed-as-Profile h
    → (posts_rest_fault 145 (min h.posts 146) block).kind ≡ 0 → column_fits s (column_place s h) ≡ true
    → row_fits s h.posts (row_place s h) ≡ true
    → Grows s (first_column s h) (opened s h) (heights_here s (opened s h) 145 (min h.posts 146) block)
opening-grows s block h t due idle below e z c r =
    let f = begun-facts s (session-begun s t due) in
    let p = opened s h in
    let n = min h.posts 146 in
    let hs = heights_here s p 145 n block in
    let bounds = head-bounds s.family (s.closed + 1) block h e in
    let reals = head-reals s.family (s.closed + 1) block h e in
    let some : 1 ≤ h.posts = bounds.0 in
    let most : h.posts ≤ 2048 = bounds.1 in
    let datum : nat_abs h.datum ≤ 1000000 = bounds.2 in
    let long : length hs ≡ min h.posts 146 = many s f p 145 n block z datum in
    let read : open_read s ≡ 0 = rw idle in
    let blocks : open_blocks s ≡ 0 = rw idle in
    record {
      family-known = sound-known s t;
      facts = f;
      below = below;
      column-room = column-room s (column_place s h) f.column-closed c;
      some = some;
      range = head-posts s.family (s.closed + 1) block h e;
      posts-most = most;
      row_room = row_room s h.posts (row_place s h) r;
      datum = datum;
      least = real-number h.least reals.2;
      greatest = real-number h.greatest reals.3;
      read_is = read;
      filled = omega arith;
      within = omega (arith, long);
      blocks = omega (arith, blocks);
      sheet-fair = fair-with s f p 145 n block z datum (sheet_tally s) (λ k. in_order (f.extremes k));
      profile-fair = fair-with s f p 145 n block z datum (profile_tally p) (λ k. absurd (omega arith));
      first = λ k. omega (arith, long, k);
      step = λ k. omega (arith, long, k);
      count = λ k. omega (arith, long, k, blocks);
      cells = cells-with s f p 145 n block z datum;
    }

-- ---- a verdict, test by test

-- the bound on filled cells, 4,276,700 either way: every height that a verdict fills a cell with keeps it, or is void
abbrev pub Cells : Verdict → Type 0
Cells again = Unit {0}
Cells (wrong kind block byte) = Unit {0}
Cells (begins h) = Unit {0}
Cells (fills after at hs) = (i : ℕ) → i < length hs → Cell (get_or hs i void)

-- the numbers of which no clause speaks until a profile has begun: such as a caller can keep in 64 bits with a sign
pub record Idle (s : Session) : Type 0 where
  pub column : s.column < 2 ^ 63
  pub row : s.profile.row < 2 ^ 63
  pub read : s.profile.read < 2 ^ 63
  pub filled : s.profile.filled < 2 ^ 63

-- the session that a verdict leaves is sound, and so are the cells; its idle numbers grow no further
record Fine (s : Session) (v : Verdict) : Type 0 where
  is : sound (answer_of s v).session ≡ true
  cells : Cells v
  idle : Idle s → Idle (answer_of s v).session

idle-begun : (family : ℕ) (h : Header) → Idle (begun family h)
idle-begun family h = record { column = omega arith; row = omega arith; read = omega arith; filled = omega arith }

module _ (s : Session) (column : ℕ) (p : Profile) (hs : List ℤ) (g : Grows s column p hs) where
  column-few : column < 2 ^ 63
  column-few = omega (arith, g.column-room, (family-facts s.family s.header g.facts.header).columns.1)

  idle-filled : Idle (filled_session s column p hs)
  idle-filled =
      record {
        column = column-few;
        row = omega (arith, g.row_room, (family-facts s.family s.header g.facts.header).rows.1);
        read = omega (arith, g.within, g.posts-most);
        filled = omega (arith, profile-few s column p hs g, g.within, g.posts-most);
      }

  idle-closed : Idle (closed_session (filled_session s column p hs))
  idle-closed = record { column = column-few; row = omega arith; read = omega arith; filled = omega arith }

pick : {s : Session} (b : Bool) {v w : Verdict} → (b ≡ true → Fine s v) → (b ≡ false → Fine s w) → Fine s (cond b v w)
pick true f g = f refl
pick false f g = g refl

module _ (s : Session) (t : sound s ≡ true) where
  kept : (kind block byte : ℕ) → Fine s (wrong kind block byte)
  kept kind block byte = record { is = t; cells = tt; idle = λ k. k }

  filling-fine : (number column : ℕ) (p : Profile) (hs : List ℤ) → Grows s column p hs → Fine s (filling s number column p hs)
  filling-fine number column p hs g =
      pick (ltb (p.read + length hs) p.posts)
      (λ e.
      record {
        is = sound-filled s column p hs g (ltb-true (p.read + length hs) p.posts e);
        cells = g.cells;
        idle = λ k. idle-filled s column p hs g;
      })
      (λ e.
      pick (eqb (close_fault (number - open_blocks s) (filled_session s column p hs)).kind 0)
      (λ k.
      record {
        is = sound-closed s column p hs g (ltb-false (p.read + length hs) p.posts e);
        cells = g.cells;
        idle = λ i. idle-closed s column p hs g;
      })
      (λ k. kept _ _ _))

  beginning-fine : (room : Room) (block : List ℕ) → Fine s (beginning room (record_of s.family block))
  beginning-fine room block = go (record_of s.family block) refl
    where
      go : (c : Checked) → record_of s.family block ≡ c → Fine s (beginning room c)
      go (NoSheet kind byte) e = kept kind 0 byte
      go (Sheet h) e = pick (too_short room h) (λ k. kept 12 0 0) (λ k. record { is = sound-begun s.family (sound-known s t) block h e; cells = tt; idle = λ i. idle-begun s.family h })

  module _ (due : 1 ≤ s.taken) (number : ℕ) (block : List ℕ) where
    facts : Begun s
    facts = begun-facts s (session-begun s t due)

    further-fine : busy s ≡ true → Fine s (further s number block)
    further-fine b =
        let p = s.profile in
        let n = posts_here p 170 in
        pick (eqb (posts_rest_fault 1 n block).kind 0)
        (λ z.
        filling-fine number s.column p (heights_here s p 1 n block)
        (further-grows s block (sound-known s t) facts b (eqb-true (posts_rest_fault 1 n block).kind 0 z)))
        (λ z. kept _ _ _)

    opening-fine : busy s ≡ false → s.closed < s.header.profiles → Fine s (opening s number block (record_b s.family (s.closed + 1) block))
    opening-fine idle below = go (record_b s.family (s.closed + 1) block) refl
      where
        go : (r : Headed) → record_b s.family (s.closed + 1) block ≡ r → Fine s (opening s number block r)
        go (NoProfile kind byte) e = kept kind number byte
        go (Headed-as-Profile h) e =
            let n = min h.posts 146 in
            pick (eqb (posts_rest_fault 145 n block).kind 0)
            (λ z.
            pick (column_fits s (column_place s h))
            (λ c.
            pick (row_fits s h.posts (row_place s h))
            (λ r.
            filling-fine number (first_column s h) (opened s h) (heights_here s (opened s h) 145 n block)
            (opening-grows s block h t due idle below e (eqb-true (posts_rest_fault 145 n block).kind 0 z) c r))
            (λ r. kept 10 number 49))
            (λ c. kept 10 number 25))
            (λ z. kept _ _ _)

    -- not complete with n closed: record C is still to come
    unfinished-is : complete s ≡ false → s.closed ≡ s.header.profiles → (s.header.accuracy ≡ 1) × (s.finished ≡ 0)
    unfinished-is c all = go (eqb s.header.accuracy 1) refl (eqb s.finished 1) refl
      where
        some : eqb s.taken 0 ≡ false
        some = ne_eqb s.taken 0 (λ e. omega arith)

        same : eqb s.closed s.header.profiles ≡ true
        same = eq-eqb s.closed s.header.profiles all

        go : (a : Bool) → eqb s.header.accuracy 1 ≡ a → (b : Bool) → eqb s.finished 1 ≡ b
            → (s.header.accuracy ≡ 1) × (s.finished ≡ 0)
        go false e b k = clash (rw (some, same, e) at c)
        go true e true k = clash (rw (some, same, e, k) at c)
        go true e false k =
            let n : s.finished ≡ 1 → ⊥ = eqb-false s.finished 1 k in
            (eqb-true s.header.accuracy 1 e, omega (arith, facts.finished))

    later-fine : complete s ≡ false → Fine s (later s number block)
    later-fine c =
        pick (busy s) further-fine
        (λ idle.
        pick (ltb s.closed s.header.profiles)
        (λ k. opening-fine idle (ltb-true s.closed s.header.profiles k))
        (λ k.
        let all : s.closed ≡ s.header.profiles = omega (arith, facts.closed, ltb-false s.closed s.header.profiles k) in
        let u = unfinished-is c all in
        pick (eqb (record_c block).kind 0)
        (λ z.
        record {
          is = sound-finished s (sound-known s t) facts idle all u.0 u.1;
          cells = λ i k. absurd (omega (arith, k));
          idle = λ i. record { column = i.column; row = i.row; read = i.read; filled = i.filled };
        })
        (λ z. kept _ _ _)))

  verdict-fine : (number : ℕ) (block : List ℕ) (room : Room) → Fine s (verdict_of s number block room)
  unfolding verdict_of
  verdict-fine number block room =
      pick (not (eqb (length block) 1024)) (λ a. kept 1 number 0)
      (λ a.
      pick (not (sound s)) (λ b. kept 2 number 0)
      (λ b.
      pick (ltb number s.taken) (λ d. record { is = t; cells = tt; idle = λ k. k })
      (λ d.
      pick (ltb s.taken number) (λ e. kept 3 number 0)
      (λ e.
      pick (eqb number 0) (λ z. beginning-fine room block)
      (λ z.
      let n : number ≡ 0 → ⊥ = eqb-false number 0 z in
      let due : 1 ≤ s.taken = omega (arith, ltb-false s.taken number e, ltb-false number s.taken d) in
      pick (complete s) (λ c. kept 4 number 0)
      (λ c. pick (too_short room s.header) (λ k. kept 12 number 0) (λ k. later-fine due number block c)))))))

-- ---- what is handed back

pub sound-out : (s : Session) (number : ℕ) (block : List ℕ) (lent : Lent) → sound s ≡ true
    → sound (deliver_of s number block lent).session ≡ true
sound-out s number block lent t = (verdict-fine s t number block (room_of lent)).is

-- "So taken never passes 26,626, nor posts 4,194,304.": nor do they after a delivery
pub taken_out : (s : Session) (number : ℕ) (block : List ℕ) (lent : Lent) → sound s ≡ true
    → (deliver_of s number block lent).session.taken ≤ 26626
taken_out s number block lent t = taken-bound (deliver_of s number block lent).session (sound-out s number block lent t)

pub posts-out : (s : Session) (number : ℕ) (block : List ℕ) (lent : Lent) → sound s ≡ true
    → (deliver_of s number block lent).session.posts ≤ 4194304
posts-out s number block lent t = posts-bound (deliver_of s number block lent).session (sound-out s number block lent t)

-- numbers that can be kept stay such
pub idle-out : (s : Session) (number : ℕ) (block : List ℕ) (lent : Lent) → sound s ≡ true → Idle s
    → Idle (deliver_of s number block lent).session
idle-out s number block lent t = (verdict-fine s t number block (room_of lent)).idle

pub cells_out : (s : Session) (number : ℕ) (block : List ℕ) (lent : Lent) → sound s ≡ true
    → Cells (verdict_of s number block (room_of lent))
cells_out s number block lent t = (verdict-fine s t number block (room_of lent)).cells

-- a session that is not sound is refused, 1 or 2, and handed back as it was
pub unsound-kept : (s : Session) (number : ℕ) (block : List ℕ) (lent : Lent) → sound s ≡ false
    → deliver_of s number block lent
    ≡ record { answer = Refused (cond (eqb (length block) 1024) 2 1) number 0; session = s }
unfolding verdict_of
unsound-kept s number block lent t = go (eqb (length block) 1024) refl
  where
    go : (b : Bool) → eqb (length block) 1024 ≡ b
        → deliver_of s number block lent
        ≡ record { answer = Refused (cond (eqb (length block) 1024) 2 1) number 0; session = s }
    go true e = rw (e, t)
    go false e = rw e
