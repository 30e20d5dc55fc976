-- How many blocks a profile takes: the count that document 01 tells is the one that deliveries come to.
use mathlib.Core.Path.{◌≡◌}
use Prim.Native.Nat.{ℕ, ◌≤◌, ◌+◌, ◌-◌, ◌/◌, ◌%◌, ◌<◌}
use native.Mathlib.Omega.{arith}
use Rattle.ground.specs.Posts.{blocks_for}

-- a profile whose posts all stand in its first block
pub one_block : (posts : ℕ) → posts ≤ 146 → blocks_for posts ≡ 1
one_block posts p = omega (arith, p)

-- an open profile of read posts has taken (read - 146) / 170 + 1 blocks; the one that reads its last post is the last of its count
pub last_block : (posts read : ℕ) → 146 ≤ read → (read - 146) % 170 ≡ 0 → read < posts → posts ≤ read + 170
    → (read - 146) / 170 + 1 + 1 ≡ blocks_for posts
last_block posts read a e b c = omega (arith, a, e, b, c)

-- and one that leaves posts unread is not
pub more-blocks : (posts read : ℕ) → 146 ≤ read → (read - 146) % 170 ≡ 0 → read + 170 < posts
    → (read - 146) / 170 + 1 + 1 < blocks_for posts
more-blocks posts read a e b = omega (arith, a, e, b)
