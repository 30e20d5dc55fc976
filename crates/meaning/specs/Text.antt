-- The joined text of a sheet: blocks, profiles, posts, and the cell that each post stands for. Nothing here knows a session or a step.
--
-- A small sheet, worked: two profiles, of 317 posts and of 2.
--
--     block b of the text     0          1           2             3           4
--     what it holds           record A   profile 0   profile 0     profile 0   profile 1
--     block k of its profile             0           1             2           0
--     posts i of its profile             0 to 145    146 to 315    316         0 to 1
--     from byte                          145         1             1           145
--
-- Four counters, each from 0: b the blocks of the text, j its profiles, k the blocks of one profile, i its posts. Profile 0 starts at block
-- 1, profile 1 at block 4 (`start_of`); post 200 of profile 0 stands in its block 1 (`post_block`), block 2 of the text, at byte 1 + 6 × 54 = 325 (`post_byte`).
use Rattle.std.specs.Prelude.{None, Option, Some}
use Rattle.std.specs.Prelude.{List, [], ◌∷◌, map, ℕ, ◌*◌, ◌/◌, zero, suc, ◌+◌, ◌-◌, min, ◌%◌, cond, Bool, ltb, leb, ℤ}
use Rattle.laws.specs.Lists.{below, joined}
use Rattle.laws.specs.Sign.{◌and◌, same_z}
use Rattle.number.specs.Integer.{integer}
use Rattle.lattice.specs.Lattice.{lattice_of, place_of}
use Rattle.field.specs.Field.{stretch}
use Rattle.frame.specs.declared.Header.{Header}
use Rattle.frame.specs.Frame.{columns_of, rows_of, west, east, south, north}
use Rattle.heading.specs.Heading.{header_of}
use Rattle.profile.specs.RecordB.{head_of}
use Rattle.profile.specs.declared.record_b.Head.{Head}
use Rattle.ground.specs.Blocks.{block_at, blocks_in}
use Rattle.ground.specs.Posts.{blocks_for, height, void, void_post}

-- ---- "Record A (block 0)"

abbrev pub header_in : List ℕ → Header
header_in text = header_of (block_at text 0)

-- n, the profiles of the sheet
abbrev pub profiles_in : List ℕ → ℕ
profiles_in text = (header_in text).profiles

-- the z spacing in hundredths
abbrev pub z_in : List ℕ → ℕ
z_in text = (header_in text).zstep / 10000000

abbrev pub columns_in : List ℕ → ℕ
columns_in text = columns_of (header_in text)

abbrev pub rows_in : List ℕ → ℕ
rows_in text = rows_of (header_in text)

abbrev pub cells_in : List ℕ → ℕ
cells_in text = columns_in text * rows_in text

-- ---- "Record B (one profile)"; profiles are counted from 0 here, and from 1 in their own field

-- a profile's first block: block 1, or the one behind the profile before it, whole
abbrev pub start_of : List ℕ → ℕ → ℕ
start_of text zero = 1
start_of text (suc j) = start_of text j + blocks_for (head_of (block_at text (start_of text j))).posts

abbrev pub head_in : List ℕ → ℕ → Head
head_in text j = head_of (block_at text (start_of text j))

-- how many posts so many blocks of a profile have room for: "then up to 146 six-byte posts", "up to 170" in each further one
abbrev pub room_in : ℕ → ℕ
room_in zero = 0
room_in (suc blocks) = 146 + 170 * blocks

-- how many posts of a profile the text has
abbrev pub posts_in : List ℕ → ℕ → ℕ
posts_in text j = min (head_in text j).posts (room_in (blocks_in text - start_of text j))

-- where post i of a profile stands: its block, counted from the profile's first, and its byte there, counted from 1
abbrev pub post_block : ℕ → ℕ
post_block i = cond (ltb i 146) 0 (1 + (i - 146) / 170)

abbrev pub post_byte : ℕ → ℕ
post_byte i = cond (ltb i 146) (145 + 6 * i) (1 + 6 * ((i - 146) % 170))

abbrev pub post_in : List ℕ → ℕ → ℕ → ℤ
post_in text j i = (integer (stretch (post_byte i) 6 (block_at text (start_of text j + post_block i)))).value

-- the void is told by the post itself, before scaling; another post times the z spacing, plus the datum, all in hundredths
abbrev pub height_in : List ℕ → ℕ → ℕ → ℤ
height_in text j i = height (z_in text) (head_in text j).datum (post_in text j i)

-- the heights of the posts of a profile, from south to north, and those of all posts of the text, profile by profile
abbrev pub heights_in : List ℕ → ℕ → List ℤ
heights_in text j = map (height_in text j) (below (posts_in text j))

abbrev pub all_heights : List ℕ → List ℤ
all_heights text = joined (map (heights_in text) (below (profiles_in text)))

-- the posts themselves, in the same order
abbrev pub all_posts : List ℕ → List ℤ
all_posts text = joined (map (λ j. map (post_in text j) (below (posts_in text j))) (below (profiles_in text)))

-- "The post -32767 is void": how many are not
abbrev pub filled_posts : List ℤ → ℕ
filled_posts [] = 0
filled_posts (p ∷ ps) = cond (same_z p void_post) 0 1 + filled_posts ps

-- ---- the lattice

abbrev pub number_on : Option ℕ → ℕ
number_on (Some i) = i
number_on None = 0

abbrev pub column_place_in : List ℕ → ℕ → Option ℕ
column_place_in text j =
    let h = header_in text in place_of (lattice_of (west h) (east h) h.xstep) h.xstep (head_in text j).x

abbrev pub row_place_in : List ℕ → ℕ → Option ℕ
row_place_in text j =
    let h = header_in text in place_of (lattice_of (south h) (north h) h.ystep) h.ystep (head_in text j).y

abbrev pub column_in : List ℕ → ℕ → ℕ
column_in text j = number_on (column_place_in text j)

abbrev pub row_in : List ℕ → ℕ → ℕ
row_in text j = number_on (row_place_in text j)

-- "Cell = column × rows + row": the cell that post i of a profile stands for
abbrev pub cell_of_post : List ℕ → ℕ → ℕ → ℕ
cell_of_post text j i = column_in text j * rows_in text + (row_in text j + i)

-- ---- the value of a cell, from the post that stands there

-- the profile at a column: profile 1 at its own, and each next one a spacing further east
abbrev pub profile_at : List ℕ → ℕ → ℕ
profile_at text column = column - column_in text 0

abbrev pub post_stands : List ℕ → ℕ → ℕ → Bool
post_stands text column row =
    leb (column_in text 0) column and ltb (profile_at text column) (profiles_in text)
    and leb (row_in text (profile_at text column)) row
    and ltb (row - row_in text (profile_at text column)) (posts_in text (profile_at text column))

abbrev pub value_at : List ℕ → ℕ → ℕ → ℤ
value_at text column row =
    cond (post_stands text column row) (height_in text (profile_at text column) (row - row_in text (profile_at text column))) void

abbrev pub cell_in : List ℕ → ℕ → ℤ
cell_in text c = value_at text (c / rows_in text) (c % rows_in text)
