-- What may be asked of a scan, as the code tests it; and what the public promise gives a caller that asked rightly.
use mathlib.Core.Bool.{false, true}
use mathlib.Core.Path.{ap₂, ◌≡◌, sym, ◌∙◌, refl, ap}
use Prim.Native.Nat.{ℕ, ◌+◌, ◌*◌, ◌-◌, ◌≤◌, zero, suc}
use native.Mathlib.Omega.{arith}
use borrow.Author.Tests.{leb-true, le-leb, eqb-true, eq-eqb, eqb-false}
use lib.Dec.{leb, eqb}
use lib.IntN.{ℤ, nat_abs}
use mathlib.Core.List.{List}
use lib.ListN.{length, drop, take, length-append, length-drop}
use lib.Seq.{take_at}
use Rattle.laws.specs.Sign.{◌and◌}
use Rattle.laws.specs.Texts.{every}
use Rattle.laws.proofs.Tests.{by-test, and_first, and_second, and_both}
use Rattle.number.specs.Bytes.{is_blank}
use Rattle.number.specs.Integer.{integer}
use Rattle.field.specs.Field.{fault, stretch}
use Rattle.ground.specs.Posts.{no_tally, posts_fault, posts_rest_fault, judge_post, posts_of, heights, tally_all}
use Rattle.ground.proofs.PostsRead.{fault-on, fault-none, posts-length}
use Rattle.ground.proofs.Heights.{heights-length}
use Rattle.posts.specs.Scan.{askable, good_posts, heights_over, scan, scanned, scan_of, scratch_after}
use Rattle.posts.specs.Steps.{Asked, BlockScanned}
use Rattle.posts.specs.Scan.{Scan}

pub asked : (block : List ℕ) (byte n z : ℕ) (datum : ℤ) (scratch : List ℤ)
    → askable (length block) byte n z datum (length scratch) ≡ true → Asked block byte n z datum no_tally scratch
asked block byte n z datum scratch t =
    let a = eqb (length block) 1024 in
    let b = leb 1 byte in
    let c = leb (byte + 6 * n) 1025 in
    let d = leb n (length scratch) in
    let e = leb z 100 in
    let f = leb (nat_abs datum) 1000000 in
    let front = and_first (a and b and c) (d and e and f) t in
    let back = and_second (a and b and c) (d and e and f) t in
    let from = leb-true 1 byte (and_first b c (and_second a (b and c) front)) in
    let end = leb-true (byte + 6 * n) 1025 (and_second b c (and_second a (b and c) front)) in
    record {
      long = eqb-true (length block) 1024 (and_first a (b and c) front);
      byte-from = from;
      inside = omega (arith, from, end);
      room = leb-true n (length scratch) (and_first d (e and f) back);
      z-most = leb-true z 100 (and_first e f (and_second d (e and f) back));
      datum-most = leb-true (nat_abs datum) 1000000 (and_second e f (and_second d (e and f) back));
      few = omega arith;
    }

pub asks : (block : List ℕ) (byte n z : ℕ) (datum : ℤ) (room : ℕ) → length block ≡ 1024 → 1 ≤ byte → byte + 6 * n ≤ 1025
    → n ≤ room → z ≤ 100 → nat_abs datum ≤ 1000000 → askable (length block) byte n z datum room ≡ true
asks block byte n z datum room a b c d e f =
    and_both (and_both (eq-eqb (length block) 1024 a) (and_both (le-leb 1 byte b) (le-leb (byte + 6 * n) 1025 c)))
    (and_both (le-leb n room d) (and_both (le-leb z 100 e) (le-leb (nat_abs datum) 1000000 f)))

-- ---- what a caller has

posts-fine : (byte n : ℕ) (block : List ℕ) → (posts_rest_fault byte n block).kind ≡ 0 → (posts_fault n byte block).kind ≡ 0
posts-fine byte n block z =
    by-test (eqb (posts_fault n byte block).kind 0) (eqb-true (posts_fault n byte block).kind 0)
    (λ e. absurd (eqb-false (posts_fault n byte block).kind 0 e (rw e at z)))

-- without a fault there is neither kind nor byte
no-fault : (byte n : ℕ) (block : List ℕ) → (posts_rest_fault byte n block).kind ≡ 0 → posts_rest_fault byte n block ≡ fault 0 0
no-fault byte n block z =
    by-test (eqb (posts_fault n byte block).kind 0)
    (λ e.
    by-test (every is_blank (drop (byte + 6 * n - 1) block)) (λ b. rw (e, b))
    (λ b. let w : ◌≡◌ {A = ℕ} 5 0 = rw (e, b) at z in absurd (omega arith)))
    (λ e. absurd (eqb-false (posts_fault n byte block).kind 0 e (rw e at z)))

all-good : (n byte : ℕ) (block : List ℕ) → (posts_fault n byte block).kind ≡ 0 → good_posts n byte block ≡ n
all-good zero byte block z = refl
all-good (suc n) byte block z =
    let h = fault-none block byte n z in
    rw (eq-eqb (judge_post (integer (stretch byte 6 block))).kind 0 h)
    (ap suc (all-good n (byte + 6) block (rw (fault-on block byte n h) at z)))

good-most : (n byte : ℕ) (block : List ℕ) → good_posts n byte block ≤ n
good-most zero byte block = omega arith
good-most (suc n) byte block =
    let i = good-most n (byte + 6) block in
    by-test (eqb (judge_post (integer (stretch byte 6 block))).kind 0) (λ e. rw e (omega (arith, i))) (λ e. rw e (omega arith))

module _ (block : List ℕ) (byte n z : ℕ) (datum : ℤ) (before after : List ℤ) (r : Scan)
    (t : askable (length block) byte n z datum (length before) ≡ true) (is : r ≡ scan_of block byte n z datum (length before))
    (left : after ≡ scratch_after block byte n z datum before) where
  pub block-scanned : BlockScanned block byte n z datum before after r
  block-scanned =
      record {
        fault-is = by-test (eqb (posts_rest_fault byte n block).kind 0) fine stopped;
        kept = ap length scratch-is ∙ long (good_posts n byte block) (good-most n byte block);
        heights-are = λ k. ap (take n) scratch-is ∙ front (good k);
        tally-is = λ k. by-test (eqb (posts_rest_fault byte n block).kind 0) counts (λ e. absurd (clashing k e));
        posts-fine = clear;
      }
    where
      here : r ≡ scanned block byte n z datum
      here = is ∙ rw t

      scratch-is : after ≡ heights_over block byte (good_posts n byte block) z datum before
      scratch-is = left ∙ rw t

      bad : eqb (posts_rest_fault byte n block).kind 0 ≡ false → r ≡ scan (posts_rest_fault byte n block).kind (posts_rest_fault byte n block).byte no_tally
      bad e = here ∙ rw e

      fine : eqb (posts_rest_fault byte n block).kind 0 ≡ true → fault r.kind r.byte ≡ posts_rest_fault byte n block
      fine e =
          let w : r ≡ scan 0 0 (tally_all no_tally (heights z datum (posts_of n byte block))) = here ∙ rw e in
          ap (λ (x : Scan). fault x.kind x.byte) w ∙ sym (no-fault byte n block (eqb-true (posts_rest_fault byte n block).kind 0 e))

      stopped : eqb (posts_rest_fault byte n block).kind 0 ≡ false → fault r.kind r.byte ≡ posts_rest_fault byte n block
      stopped e = ap (λ (x : Scan). fault x.kind x.byte) (bad e)

      counts : eqb (posts_rest_fault byte n block).kind 0 ≡ true → r.tally ≡ tally_all no_tally (heights z datum (posts_of n byte block))
      counts e =
          let w : r ≡ scan 0 0 (tally_all no_tally (heights z datum (posts_of n byte block))) = here ∙ rw e in
          ap (λ (x : Scan). x.tally) w

      clashing : r.kind ≡ 0 → eqb (posts_rest_fault byte n block).kind 0 ≡ false → ⊥
      clashing k e = eqb-false (posts_rest_fault byte n block).kind 0 e (sym (ap (λ (x : Scan). x.kind) (bad e)) ∙ k)

      clear : r.kind ≡ 0 → (posts_fault n byte block).kind ≡ 0
      clear k =
          posts-fine byte n block
          (by-test (eqb (posts_rest_fault byte n block).kind 0) (eqb-true (posts_rest_fault byte n block).kind 0) (λ e. absurd (clashing k e)))

      good : r.kind ≡ 0 → good_posts n byte block ≡ n
      good k = all-good n byte block (clear k)

      room : n ≤ length before
      room = (asked block byte n z datum before t).room

      counted : (m : ℕ) → length (heights z datum (posts_of m byte block)) ≡ m
      counted m = heights-length z datum (posts_of m byte block) ∙ posts-length m byte block

      long : (m : ℕ) → m ≤ n → length (heights_over block byte m z datum before) ≡ length before
      long m h =
          length-append (heights z datum (posts_of m byte block)) (drop m before)
          ∙ (omega (arith, counted m, length-drop m before, room, h))

      front : good_posts n byte block ≡ n
          → take n (heights_over block byte (good_posts n byte block) z datum before) ≡ heights z datum (posts_of n byte block)
      front e =
          ap (λ (m : ℕ). take n (heights_over block byte m z datum before)) e
          ∙ take_at (heights z datum (posts_of n byte block)) (drop n before) n (counted n)

-- the same, of a z spacing and a datum that the caller knows by other names
pub scan-known : (block : List ℕ) (byte n z : ℕ) (datum : ℤ) (before after : List ℤ) (r : Scan) (y : ℕ) (d : ℤ) → y ≡ z → d ≡ datum
    → askable (length block) byte n z datum (length before) ≡ true
    → (r ≡ scan_of block byte n y d (length before)) × (after ≡ scratch_after block byte n y d before)
    → BlockScanned block byte n z datum before after r
scan-known block byte n z datum before after r y d e f t p =
    block-scanned block byte n z datum before after r t (p.0 ∙ ap₂ (λ u v. scan_of block byte n u v (length before)) e f)
    (p.1 ∙ ap₂ (λ u v. scratch_after block byte n u v before) e f)
