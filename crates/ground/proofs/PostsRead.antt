-- A block's posts one by one: a post that passed, posts by their place, and what their tally keeps.
use mathlib.Core.Path.{◌≡◌, refl, ap}
use Prim.Native.Nat.{◌≤◌, ℕ, suc, ◌+◌, zero, ◌*◌, ◌<◌}
use lib.IntN.{nat_abs, pos, ℤ}
use mathlib.Core.Bool.{Bool, true, false}
use native.Mathlib.Omega.{arith}
use borrow.Author.Tests.{leb-true, eqb-false, eqb-true, eq-eqb, ne_eqb}
use lib.Dec.{leb, eqb}
use mathlib.Core.List.{List}
use lib.ListN.{length, get_or}
use native.Mathlib.Nat.{le_of_suc-le-suc, not-suc-le-zero}
use Rattle.number.specs.declared.Reading.{Reading}
use Rattle.number.specs.Integer.{integer}
use Rattle.field.specs.Field.{stretch, fault, fault_or}
use Rattle.ground.specs.Posts.{judge_post, posts_fault, posts_of, heights, tally_all}
use Rattle.ground.specs.declared.Tally.{Tally}
use Rattle.ground.proofs.Heights.{heights-length, heights-cells}
use Rattle.ground.proofs.Tallies.{Fair, tally-filled, filled_within, tally-extremes}

-- a post that is refused for nothing is the reading itself, in its range
pub record Passed (r : Reading) : Type 0 where
  pub same : judge_post r ≡ r
  pub most : nat_abs r.value ≤ 32767

pub passed : (r : Reading) → (judge_post r).kind ≡ 0 → Passed r
passed r z = go (eqb r.kind 0) refl (leb (nat_abs r.value) 32767) refl
  where
    go : (a : Bool) → eqb r.kind 0 ≡ a → (b : Bool) → leb (nat_abs r.value) 32767 ≡ b → Passed r
    go true p true q = record { same = rw (p, q); most = leb-true (nat_abs r.value) 32767 q }
    go true p false q = absurd (omega (arith, rw (p, q) at z))
    go false p b q = absurd (eqb-false r.kind 0 p (rw p at z))

module _ (block : List ℕ) (byte m : ℕ) where
  pub fault-on : (judge_post (integer (stretch byte 6 block))).kind ≡ 0 → posts_fault (suc m) byte block ≡ posts_fault m (byte + 6) block
  fault-on z = rw (eq-eqb (judge_post (integer (stretch byte 6 block))).kind 0 z)

  pub fault-stop : ((judge_post (integer (stretch byte 6 block))).kind ≡ 0 → ⊥)
      → posts_fault (suc m) byte block ≡ fault_or (judge_post (integer (stretch byte 6 block))) byte (fault 0 0)
  fault-stop f = rw (ne_eqb (judge_post (integer (stretch byte 6 block))).kind 0 f)

  -- where no post is at fault, the first is not
  pub fault-none : (posts_fault (suc m) byte block).kind ≡ 0 → (judge_post (integer (stretch byte 6 block))).kind ≡ 0
  fault-none z = go (eqb (judge_post (integer (stretch byte 6 block))).kind 0) refl
    where
      go : (b : Bool) → eqb (judge_post (integer (stretch byte 6 block))).kind 0 ≡ b → (judge_post (integer (stretch byte 6 block))).kind ≡ 0
      go true e = eqb-true (judge_post (integer (stretch byte 6 block))).kind 0 e
      go false e = rw e at z

pub posts-length : (n byte : ℕ) (block : List ℕ) → length (posts_of n byte block) ≡ n
posts-length zero byte block = refl
posts-length (suc n) byte block = ap suc (posts-length n (byte + 6) block)

pub posts-at : (n byte : ℕ) (block : List ℕ) (i : ℕ) → i < n
    → get_or (posts_of n byte block) i (pos 0) ≡ (integer (stretch (byte + 6 * i) 6 block)).value
posts-at zero byte block i h = absurd (not-suc-le-zero h)
posts-at (suc n) byte block zero h =
    let e : byte + 6 * 0 ≡ byte = omega arith in
    rw e
posts-at (suc n) byte block (suc i) h =
    let e : byte + 6 * suc i ≡ byte + 6 + 6 * i = omega arith in
    rw e (posts-at n (byte + 6) block i (le_of_suc-le-suc h))

-- "Posts run -32767 to 32767 (7)": each of them, where none is at fault
pub posts-in-range : (n byte : ℕ) (block : List ℕ) → (posts_fault n byte block).kind ≡ 0
    → (i : ℕ) → i < n → nat_abs (get_or (posts_of n byte block) i (pos 0)) ≤ 32767
posts-in-range zero byte block z i h = absurd (not-suc-le-zero h)
posts-in-range (suc n) byte block z zero h = (passed (integer (stretch byte 6 block)) (fault-none block byte n z)).most
posts-in-range (suc n) byte block z (suc i) h =
    let g = fault-on block byte n (fault-none block byte n z) in
    posts-in-range n (byte + 6) block (rw g at z) i (le_of_suc-le-suc h)

-- what the tally of a block's posts keeps
module _ (n byte : ℕ) (block : List ℕ) (z : ℕ) (datum : ℤ) (t : Tally) where
  pub scan-few : (tally_all t (heights z datum (posts_of n byte block))).filled ≤ t.filled + n
  scan-few =
      let hs = heights z datum (posts_of n byte block) in
      omega (arith, tally-filled t hs, filled_within hs, heights-length z datum (posts_of n byte block), posts-length n byte block)

  pub scan-fair : (posts_fault n byte block).kind ≡ 0 → z ≤ 100 → nat_abs datum ≤ 1000000 → Fair t
      → Fair (tally_all t (heights z datum (posts_of n byte block)))
  scan-fair k q d =
      tally-extremes t (heights z datum (posts_of n byte block))
      (heights-cells z datum (posts_of n byte block) q d (λ i h. posts-in-range n byte block k i (rw (posts-length n byte block) at h)))
