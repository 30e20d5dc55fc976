-- A block of a profile judged: a fault is its refusal, and without one it comes to the definition's verdict.
use mathlib.Core.List.{List}
use mathlib.Core.Path.{◌≡◌, sym, ◌∙◌, ap, subst}
use Prim.Native.Nat.{ℕ, ◌≤◌, ◌+◌, ◌*◌, ◌^◌, min}
use native.Mathlib.Omega.{arith}
use lib.IntN.{ℤ, nat_abs}
use lib.ListN.{length, take, length-take}
use mathlib.Core.Bool.{true, false}
use borrow.Author.Tests.{eq-eqb, ne_eqb, ltb-false, le-leb}
use lib.Dec.{eqb}
use Rattle.laws.proofs.Tests.{by-test, and_both}
use Rattle.field.specs.Field.{fault}
use Rattle.field.specs.declared.Fault.{Fault}
use Rattle.frame.specs.Frame.{z_of, cells_of}
use Rattle.profile.specs.declared.record_b.Head.{Head}
use Rattle.sheet.specs.RecordA.{Checked}
use Rattle.sheet.specs.RecordA.Checked.{Sheet, Refused as NoSheet}
use Rattle.session.specs.Session.{open_blocks}
use Rattle.session.specs.declared.Session.{Session}
use Rattle.session.specs.declared.Profile.{Profile}
use Rattle.ground.specs.Posts.{no_tally, tally_all, heights, posts_of, posts_rest_fault}
use Rattle.ground.specs.Extremes.{filled_only, sum_of}
use Rattle.ground.proofs.PostsRead.{scan-few, posts-length}
use Rattle.ground.proofs.Heights.{heights-length}
use Rattle.posts.specs.Steps.{BlockScanned}
use Rattle.posts.specs.Scan.{summed, scan_of, scratch_after}
use Rattle.posts.proofs.Asking.{asks, scan-known}
use mir.Syntax.{w64}
use mir.Val.{to_z, of_z}
use mir.Facts.{to_z-of_z}
use Rattle.laws.proofs.Integers.{size_fits}
use Rattle.posts.specs.Scan.{Scan}
use Rattle.delivery.specs.Deliver.{Verdict, Room, too_short, again, wrong, begins, beginning, unless, filling, heights_here, fills, further, posts_here, opening_with, placed, first_column, opened}
use Rattle.gate.specs.Gate.{judged_of}
use Rattle.gate.specs.declared.verdict.Judged.{Judged}
use Rattle.load.specs.Steps.{Judging, Lies, ByTally, OpenProfile, Ready, Filling, Placing, Opened, Opening, Placeable}
use Rattle.load.proofs.Filled.{filling-lies, cell_room}

-- a block judged for one verdict is judged for the same verdict in another form
pub same-judging : {s : Session} {v w : Verdict} {cells : ℕ} {scratch : List ℤ} {j : Judged} → v ≡ w → Judging s v cells scratch j
    → Judging s w cells scratch j
same-judging {s} {v} {w} {cells} {scratch} e k =
    record { judged-is = k.judged-is ∙ ap (judged_of s) e; lies = subst (Lies cells scratch) e k.lies }

-- what has room in few cells has it in more
pub lies_more : (v : Verdict) (few cells : ℕ) (scratch : List ℤ) → few ≤ cells → Lies few scratch v → Lies cells scratch v
lies_more again few cells scratch h k = tt
lies_more (wrong kind block byte) few cells scratch h k = tt
lies_more (begins head) few cells scratch h k = omega arith
lies_more (fills after at hs) few cells scratch h k = (omega (arith, h, k.0), k.1)

pub first-lies : (m : Room) (a : Checked) (scratch : List ℤ) → Lies m.cells scratch (beginning m a)
first-lies m (NoSheet kind byte) scratch = tt
first-lies m (Sheet h) scratch = by-test (too_short m h) (λ e. rw e tt) (λ e. rw e (ltb-false m.cells (cells_of h) e))

module _ (f : Fault) (number : ℕ) (v : Verdict) (kind byte : ℕ) (is : fault kind byte ≡ f) where
  pub fault-refused : (kind ≡ 0 → ⊥) → wrong kind number byte ≡ unless f number v
  fault-refused h =
      let q : eqb f.kind 0 ≡ false = ap (λ (x : Fault). eqb x.kind 0) (sym is) ∙ ne_eqb kind 0 h in
      ap (λ (x : Fault). wrong x.kind number x.byte) is ∙ sym (rw q)

  pub fault-none : kind ≡ 0 → v ≡ unless f number v
  fault-none h =
      let q : eqb f.kind 0 ≡ true = ap (λ (x : Fault). eqb x.kind 0) (sym is) ∙ eq-eqb kind 0 h in
      sym (rw q)

-- a block of the open profile, and a profile's first, by the fault of its n posts
module _ (s : Session) (number : ℕ) (block : List ℕ) (n kind byte : ℕ) where
  module _ (e : n ≡ posts_here s.profile 170) (is : fault kind byte ≡ posts_rest_fault 1 n block) where
    pub further-refused : (kind ≡ 0 → ⊥) → wrong kind number byte ≡ further s number block
    further-refused h = rw (← e) (fault-refused (posts_rest_fault 1 n block) number _ kind byte is h)

    pub further-fine : kind ≡ 0
        → filling s number s.column s.profile (heights_here s s.profile 1 n block) ≡ further s number block
    further-fine h = rw (← e) (fault-none (posts_rest_fault 1 n block) number _ kind byte is h)

  module _ (head : Head) (e : n ≡ min head.posts 146) (is : fault kind byte ≡ posts_rest_fault 145 n block) where
    pub opening-refused : (kind ≡ 0 → ⊥) → wrong kind number byte ≡ opening_with s number block head
    opening-refused h = rw (← e) (fault-refused (posts_rest_fault 145 n block) number _ kind byte is h)

    pub opening-fine : kind ≡ 0
        → placed s number head (filling s number (first_column s head) (opened s head) (heights_here s (opened s head) 145 n block))
        ≡ opening_with s number block head
    opening-fine h = rw (← e) (fault-none (posts_rest_fault 145 n block) number _ kind byte is h)

-- a block scanned without fault fills no more cells than it has posts
pub scanned-count : (s : Session) (datum : ℤ) (byte n : ℕ) (block : List ℕ) (before after : List ℤ) (r : Scan)
    → BlockScanned block byte n (z_of s.header) datum before after r → r.kind ≡ 0 → r.tally.filled ≤ n
scanned-count s datum byte n block before after r sc e =
    let few : (tally_all no_tally (heights (z_of s.header) datum (posts_of n byte block))).filled ≤ 0 + n = scan-few n byte block (z_of s.header) datum no_tally in
    rw (sc.tally-is e) (omega arith)

-- a scan that is asked rightly, its datum read back from the bits that carry it
scan-told : (block : List ℕ) (byte n z y : ℕ) (datum : ℤ) (before after : List ℤ) (r : Scan) → length block ≡ 1024 → length before ≡ 170
    → 1 ≤ byte → byte + 6 * n ≤ 1025 → n ≤ 170 → z ≤ 100 → nat_abs datum ≤ 1000000 → y ≡ z
    → (r ≡ scan_of block byte n y (to_z w64 (of_z w64 datum)) (length before)) × (after ≡ scratch_after block byte n y (to_z w64 (of_z w64 datum)) before)
    → BlockScanned block byte n z datum before after r
scan-told block byte n z y datum before after r long room from end few most near is p =
    scan-known block byte n z datum before after r y (to_z w64 (of_z w64 datum)) is (to_z-of_z {w = w64} (size_fits datum (omega (arith, near))))
    (asks block byte n z datum (length before) long from end (omega (arith, few, room)) most near)
    p

pub further-scanned : (s : Session) (number : ℕ) (block : List ℕ) (before after : List ℤ) (n z : ℕ) (r : Scan) → Opened s number block before
    → n ≡ posts_here s.profile 170 → z ≡ z_of s.header
    → (r ≡ scan_of block 1 n z (to_z w64 (of_z w64 s.profile.datum)) (length before))
    × (after ≡ scratch_after block 1 n z (to_z w64 (of_z w64 s.profile.datum)) before)
    → BlockScanned block 1 n (z_of s.header) s.profile.datum before after r
further-scanned s number block before after n z r o e is p =
    scan-told block 1 n (z_of s.header) z s.profile.datum before after r o.long o.room (omega arith) (omega (arith, e)) (omega (arith, e)) o.ready.z-most
    (o.ready.profile-is o.busy-is).datum-most
    is
    p

pub opening-scanned : (s : Session) (number : ℕ) (block : List ℕ) (head : Head) (before after : List ℤ) (n z : ℕ) (r : Scan)
    → Opening s number block head before → n ≡ min head.posts 146 → z ≡ z_of s.header
    → (r ≡ scan_of block 145 n z (to_z w64 (of_z w64 head.datum)) (length before))
    × (after ≡ scratch_after block 145 n z (to_z w64 (of_z w64 head.datum)) before)
    → BlockScanned block 145 n (z_of s.header) head.datum before after r
opening-scanned s number block head before after n z r o e is p =
    scan-told block 145 n (z_of s.header) z head.datum before after r o.long o.room (omega arith) (omega (arith, e)) (omega (arith, e)) o.ready.z-most
    o.datum-most
    is
    p

-- what is known of a profile whose next n posts were scanned without fault
pub record Scannable (s : Session) (p : Profile) (n : ℕ) : Type 0 where
  pub ready : Ready s
  pub few : n ≤ 170
  pub read-most : p.read + n ≤ p.posts
  pub posts-most : p.posts ≤ 2048
  pub filled-most : p.filled ≤ p.read

-- what a first block that was scanned without fault gives its place
pub opening-placeable : (s : Session) (number : ℕ) (block : List ℕ) (head : Head) (before : List ℤ) (n : ℕ) (after : List ℤ) (r : Scan)
    → Opening s number block head before → n ≡ min head.posts 146 → BlockScanned block 145 n (z_of s.header) head.datum before after r → r.kind ≡ 0
    → (sum : ℤ) → nat_abs sum ≤ 2 ^ 40 → Placeable s number head n r.tally sum
opening-placeable s number block head before n after r o e sc good sum h =
    record {
      ready = o.ready;
      idle = o.idle;
      not_last = o.not_last;
      taken_is = o.taken_is;
      posts-most = o.posts-most;
      within = omega (arith, e);
      count = scanned-count s head.datum 145 n block before after r sc good;
      sum-most = h;
    }

-- of the open profile, and of one that opens
pub further-scannable : (s : Session) (n : ℕ) → Ready s → OpenProfile s → n ≡ posts_here s.profile 170 → Scannable s s.profile n
further-scannable s n k f e =
    record {
      ready = k;
      few = omega (arith, e);
      read-most = omega (arith, e, f.read_below);
      posts-most = f.posts-most;
      filled-most = f.filled-most;
    }

pub opening-scannable : (s : Session) (head : Head) (n : ℕ) → Ready s → head.posts ≤ 2048 → n ≡ min head.posts 146 → Scannable s (opened s head) n
opening-scannable s head n k h e =
    record { ready = k; few = omega (arith, e); read-most = omega (arith, e); posts-most = h; filled-most = omega arith }

pub further-placing : (s : Session) (number : ℕ) → number ≡ s.taken → open_blocks s ≤ number → OpenProfile s → Placing s number s.column s.profile
further-placing s number e b f =
    record { taken_is = e; column-room = f.column-room; not_last = f.not_last; row_room = f.row_room; blocks = b }

module _ (s : Session) (p : Profile) (byte n : ℕ) (block : List ℕ) (before after : List ℤ) (r : Scan)
    (sc : BlockScanned block byte n (z_of s.header) p.datum before after r) (e : r.kind ≡ 0) (k : Scannable s p n) where
  pub scanned-filling : {sum : ℤ} → nat_abs sum ≤ 2 ^ 40 → Filling s p n r.tally sum
  scanned-filling h =
      record {
        ready = k.ready;
        count = scanned-count s p.datum byte n block before after r sc e;
        sum-most = h;
        read-most = k.read-most;
        posts-most = k.posts-most;
        filled-most = k.filled-most;
      }

  -- its posts' heights and their sum, and what is judged of any heights is judged of them
  counted : n ≡ length (heights_here s p byte n block)
  counted = sym (heights-length (z_of s.header) p.datum (posts_of n byte block) ∙ posts-length n byte block)

  scanned-sum : summed n after ≡ sum_of (filled_only (heights_here s p byte n block))
  scanned-sum =
      let there : n ≤ length after = omega (arith, counted, ap length (sc.heights-are e), length-take n after) in
      rw (and_both (le-leb n 170 k.few) (le-leb n (length after) there))
      (ap (λ (hs : List ℤ). sum_of (filled_only hs)) (sc.heights-are e))

  pub by-heights : (v : List ℤ → Verdict) (j : Judged) {sum : ℤ} → sum ≡ summed n after → ByTally s v n r.tally sum j
      → j ≡ judged_of s (v (heights_here s p byte n block))
  by-heights v j t b = b (heights_here s p byte n block) counted (sc.tally-is e) (t ∙ scanned-sum)

  pub filled-lies : (number column : ℕ) → Placing s number column p
      → Lies (cells_of s.header) after (filling s number column p (heights_here s p byte n block))
  filled-lies number column g =
      filling-lies s number column p (heights_here s p byte n block) (cells_of s.header) after (
        omega (arith, counted, cell_room s number column p g n k.read-most),
        ap (λ (m : ℕ). take m after) (sym counted) ∙ sc.heights-are e,
      )
