-- How the code scans a block: contracts of private functions, and what the public promise gives its callers.
use Rattle.std.specs.Prelude.{◌≡◌, List, cond, ℕ, ◌+◌, ◌*◌, ◌-◌, ◌^◌, ◌≤◌, ℤ, pos, nat_abs, length, take}
use Rattle.laws.specs.Sign.{same_z}
use Rattle.field.specs.Field.{fault}
use Rattle.ground.specs.declared.Tally.{Tally}
use Rattle.ground.specs.Posts.{void, posts_fault, posts_of, heights, tally_all, no_tally, posts_rest_fault}
use Rattle.posts.specs.Scan.{good_posts, heights_over}
use Rattle.posts.specs.Scan.{Scan}

-- what a scan may be asked: n posts from a byte, inside the block and the scratch; a z spacing and datum that 01 allows; few so far
pub record Asked (block : List ℕ) (byte n z : ℕ) (datum : ℤ) (t : Tally) (scratch : List ℤ) : Type 0 where
  pub long : length block ≡ 1024
  pub byte-from : 1 ≤ byte
  pub inside : byte - 1 + 6 * n ≤ 1024
  pub room : n ≤ length scratch
  pub z-most : z ≤ 100
  pub datum-most : nat_abs datum ≤ 1000000
  pub few : t.filled ≤ 2 ^ 32

-- what it answers: the first fault; the heights up to it at the front of the scratch; where there is none, the tally counts them
pub record Scanned (block : List ℕ) (byte n z : ℕ) (datum : ℤ) (t : Tally) (before after : List ℤ) (r : Scan) : Type 0 where
  pub fault-is : fault r.kind r.byte ≡ posts_fault n byte block
  pub scratch-is : after ≡ heights_over block byte (good_posts n byte block) z datum before
  pub tally-is : r.kind ≡ 0 → r.tally ≡ tally_all t (heights z datum (posts_of n byte block))

-- a block scanned whole: its first fault; where there is none the heights at the front of the scratch, and their tally
pub record BlockScanned (block : List ℕ) (byte n z : ℕ) (datum : ℤ) (before after : List ℤ) (r : Scan) : Type 0 where
  pub fault-is : fault r.kind r.byte ≡ posts_rest_fault byte n block
  pub kept : length after ≡ length before
  pub heights-are : r.kind ≡ 0 → take n after ≡ heights z datum (posts_of n byte block)
  pub tally-is : r.kind ≡ 0 → r.tally ≡ tally_all no_tally (heights z datum (posts_of n byte block))
  pub posts-fine : r.kind ≡ 0 → (posts_fault n byte block).kind ≡ 0

-- what a height adds to a sum
abbrev pub share : ℤ → ℤ
share h = cond (same_z h void) (pos 0) h
