-- "Each decimal exact": every number of a text is the grammar's meaning of its own stretch of bytes (number, spec Grammar), and every filled
-- cell is made of three of them.
use Rattle.std.specs.Prelude.{List, [], ◌∷◌, true, ◌≡◌, ℕ, suc, ◌+◌, ◌*◌, ◌^◌, ◌<◌, ℤ, pos, nat_abs, ◌+ℤ◌, ◌*ℤ◌}
use Rattle.laws.specs.Family.{is_canadian}
use Rattle.laws.specs.Sign.{signed}
use Rattle.number.specs.Integer.{says_minus}
use Rattle.number.specs.Grammar.{IntegerMeans, RealMeans}
use Rattle.field.specs.Field.{stretch}
use Rattle.frame.specs.declared.Header.{Header}
use Rattle.profile.specs.declared.record_b.Head.{Head}
use Rattle.ground.specs.Blocks.{block_at, blocks_in}
use Rattle.ground.specs.Posts.{void_post}
use Rattle.meaning.specs.Text.{header_in, profiles_in, start_of, head_in, posts_in, post_block, post_byte, post_in, height_in, z_in}

-- a number of a block: its first byte, its width and its value, a real's in billionths
pub data Number : Type 0 where
  an_integer : ℕ → ℤ → Number
  a_real : ℕ → ℕ → ℤ → Number

abbrev pub Means : List ℕ → Number → Type 0
Means block (an_integer first value) = IntegerMeans (stretch first 6 block) value
Means block (a_real first width value) = RealMeans (stretch first width block) value

abbrev pub AllMean : List ℕ → List Number → Type 0
AllMean block [] = Unit {0}
AllMean block (n ∷ ns) = Means block n × AllMean block ns

-- record A's, as the session keeps them
abbrev pub header_numbers : Header → List Number
header_numbers h =
    an_integer 145 (pos h.level)
    ∷ an_integer 157 (pos h.system)
    ∷ an_integer 163 (pos h.zone)
    ∷ an_integer 529 (pos h.ground)
    ∷ an_integer 535 (pos h.vertical)
    ∷ a_real 547 24 h.sw.x
    ∷ a_real 571 24 h.sw.y
    ∷ a_real 595 24 h.nw.x
    ∷ a_real 619 24 h.nw.y
    ∷ a_real 643 24 h.ne.x
    ∷ a_real 667 24 h.ne.y
    ∷ a_real 691 24 h.se.x
    ∷ a_real 715 24 h.se.y
    ∷ a_real 739 24 h.least
    ∷ a_real 763 24 h.greatest
    ∷ an_integer 811 (pos h.accuracy)
    ∷ a_real 817 12 (pos h.xstep)
    ∷ a_real 829 12 (pos h.ystep)
    ∷ a_real 841 12 (pos h.zstep)
    ∷ an_integer 859 (pos h.profiles)
    ∷ []

-- record B's, with the profile's number counted from 1; the datum is kept in hundredths
abbrev pub head_numbers : ℕ → Head → List Number
head_numbers number h =
    an_integer 1 (pos 1)
    ∷ an_integer 7 (pos number)
    ∷ an_integer 13 (pos h.posts)
    ∷ an_integer 19 (pos 1)
    ∷ a_real 25 24 h.x
    ∷ a_real 49 24 h.y
    ∷ a_real 73 24 (h.datum *ℤ pos (10 ^ 7))
    ∷ a_real 97 24 h.least
    ∷ a_real 121 24 h.greatest
    ∷ []

-- 02, request 2: degrees, minutes and seconds from a byte on, each by the grammar, and the billionths of an arc-second that they come to, under the
-- sign of the degrees as it is written
pub record ArcMeans (block : List ℕ) (first : ℕ) (z : ℤ) : Type 0 where
  pub degrees : ℤ
  pub minutes : ℤ
  pub seconds : ℤ
  pub degrees-mean : IntegerMeans (stretch first 4 block) degrees
  pub minutes-mean : IntegerMeans (stretch (first + 4) 2 block) minutes
  pub seconds-mean : RealMeans (stretch (first + 6) 7 block) seconds
  pub is : z ≡ signed (says_minus (stretch first 4 block)) (nat_abs degrees * (3600 * 10 ^ 9) + nat_abs minutes * (60 * 10 ^ 9) + nat_abs seconds)

pub record Exact (family : ℕ) (text : List ℕ) : Type 0 where
  pub header : AllMean (block_at text 0) (header_numbers (header_in text))
  pub heads : (j : ℕ) → j < profiles_in text → start_of text j < blocks_in text
      → AllMean (block_at text (start_of text j)) (head_numbers (suc j) (head_in text j))
  pub posts : (j i : ℕ) → j < profiles_in text → i < posts_in text j
      → Means (block_at text (start_of text j + post_block i)) (an_integer (post_byte i) (post_in text j i))
  -- the z spacing is whole hundredths, and a filled cell is its post times that plus the profile's datum
  pub spacing : z_in text * 10 ^ 7 ≡ (header_in text).zstep
  pub filled : (j i : ℕ) → (post_in text j i ≡ void_post → ⊥)
      → height_in text j i ≡ (post_in text j i *ℤ pos (z_in text)) +ℤ (head_in text j).datum
  -- a Canadian sheet's SW corner is what bytes 110-135 say, longitude then latitude
  pub corner : is_canadian family ≡ true
      → ArcMeans (block_at text 0) 110 (header_in text).sw.x × ArcMeans (block_at text 0) 123 (header_in text).sw.y
