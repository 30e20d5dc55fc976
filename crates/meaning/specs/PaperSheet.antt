-- Document 01, "The lister, and one sheet": its three blocks, laid out field by field in the order of the paper's tables. What the
-- paper leaves open stands as in samples/paper.dem: the name, level 1, the fifteen reals zero, every other text blank.
use Rattle.std.specs.Prelude.{List, ◌++◌, [], ◌∷◌, ℕ, ◌-◌, ◌*◌, replicate, length, ℤ, pos}
use Prim.Native.String.{String}
use Rattle.laws.specs.Texts.{bytes}
use Rattle.laws.specs.Lists.{joined}
use Rattle.frame.specs.declared.Corner.{Corner}
use Rattle.frame.specs.declared.Header.{Header}
use Rattle.heading.specs.Heading.{billion}
use Rattle.session.specs.Session.{no_profile}
use Rattle.session.specs.declared.Session.{Session}
use Rattle.ground.specs.Posts.{void}
use Rattle.meaning.specs.Deliveries.{Delivery}
use Rattle.heading.specs.Heading.Name.{ground}

-- ---- fields of a width

abbrev pub blanks : ℕ → List ℕ
blanks n = replicate n 32

-- numbers stand right, texts left
abbrev pub field : ℕ → String → List ℕ
field width text = blanks (width - length (bytes text)) ++ bytes text

abbrev pub words : ℕ → String → List ℕ
words width text = bytes text ++ blanks (width - length (bytes text))

-- one field so many times
abbrev pub times : ℕ → List ℕ → List ℕ
times n f = joined (replicate n f)

-- ---- block 0

unfoldable pub paper_a : List ℕ
paper_a =
    joined
    (words 144 "PAPER SHEET"
    -- level, pattern, system, zone
    ∷ field 6 "1"
    ∷ field 6 "1"
    ∷ field 6 "1"
    ∷ field 6 "17"
    -- the fifteen reals
    ∷ times 15 (field 24 "0.000000000000000D+00")
    -- ground unit, vertical unit, sides
    ∷ field 6 "2"
    ∷ field 6 "2"
    ∷ field 6 "4"
    -- SW, NW, NE, SE corners, each x then y
    ∷ field 24 "0.600000000000000D+03"
    ∷ field 24 "0.900000000000000D+03"
    ∷ field 24 "0.600000000000000D+03"
    ∷ field 24 "0.960000000000000D+03"
    ∷ field 24 "0.630000000000000D+03"
    ∷ field 24 "0.960000000000000D+03"
    ∷ field 24 "0.630000000000000D+03"
    ∷ field 24 "0.900000000000000D+03"
    -- least and greatest elevation
    ∷ field 24 "0.900000000000000D+01"
    ∷ field 24 "0.120000000000000D+02"
    -- angle, accuracy
    ∷ field 24 "0.000000000000000D+00"
    ∷ field 6 "0"
    -- x, y, z spacing
    ∷ field 12 "0.300000E+02"
    ∷ field 12 "0.300000E+02"
    ∷ field 12 "0.100000E+01"
    -- m, n
    ∷ field 6 "1"
    ∷ field 6 "2"
    -- later elements
    ∷ words 160 ""
    ∷ [])

-- ---- blocks 1 and 2

-- "Profile 1 from (600,900): 10, -32767, 12."
unfoldable pub profile1 : List ℕ
profile1 =
    joined
    (field 6 "1"
    -- the profile's number, posts m, the value 1
    ∷ field 6 "1"
    ∷ field 6 "3"
    ∷ field 6 "1"
    -- x and y of the southern post
    ∷ field 24 "0.600000000000000D+03"
    ∷ field 24 "0.900000000000000D+03"
    -- datum, least and greatest elevation
    ∷ field 24 "0.000000000000000D+00"
    ∷ field 24 "0.100000000000000D+02"
    ∷ field 24 "0.120000000000000D+02"
    -- the posts, and what remains of the block
    ∷ field 6 "10"
    ∷ field 6 "-32767"
    ∷ field 6 "12"
    ∷ blanks 862
    ∷ [])

-- "Profile 2 from (630,930): 11, 9."
unfoldable pub profile2 : List ℕ
profile2 =
    joined
    (field 6 "1"
    -- the profile's number, posts m, the value 1
    ∷ field 6 "2"
    ∷ field 6 "2"
    ∷ field 6 "1"
    -- x and y of the southern post
    ∷ field 24 "0.630000000000000D+03"
    ∷ field 24 "0.930000000000000D+03"
    -- datum, least and greatest elevation
    ∷ field 24 "0.000000000000000D+00"
    ∷ field 24 "0.900000000000000D+01"
    ∷ field 24 "0.110000000000000D+02"
    -- the posts, and what remains of the block
    ∷ field 6 "11"
    ∷ field 6 "9"
    ∷ blanks 868
    ∷ [])

-- ---- the three deliveries, and the grid lent: the sheet's six cells and one past it

abbrev pub block0 : Delivery
block0 = record { number = 0; bytes = paper_a }

abbrev pub block1 : Delivery
block1 = record { number = 1; bytes = profile1 }

abbrev pub block2 : Delivery
block2 = record { number = 2; bytes = profile2 }

abbrev pub paper_sheet : List Delivery
paper_sheet = block0 ∷ block1 ∷ block2 ∷ []

abbrev pub paper_lent : List ℤ
paper_lent = replicate 7 (pos 7)

-- ---- what the paper tells of it

-- "corners (600,900) (600,960) (630,960) (630,900)", in billionths as all reals
abbrev pub corner : ℕ → ℕ → Corner
corner x y = record { x = pos (x * billion); y = pos (y * billion) }

-- "UTM zone 17, metres, spacing 30, 30, 1; ..; accuracy 0; m 1, n 2; extremes 9, 12"
abbrev pub paper_header : Header
paper_header =
    record {
      level = 1;
      system = 1;
      zone = 17;
      ground = 2;
      vertical = 2;
      sw = corner 600 900;
      nw = corner 600 960;
      ne = corner 630 960;
      se = corner 630 900;
      least = pos (9 * billion);
      greatest = pos (12 * billion);
      accuracy = 0;
      xstep = 30 * billion;
      ystep = 30 * billion;
      zstep = 1 * billion;
      profiles = 2;
    }

-- "posts 5 void 1", "range 9.00 12.00", "end 3": the session afterwards, with the sum of 10, 12, 11 and 9
abbrev pub paper_session : Session
paper_session =
    record {
      header = paper_header;
      taken = 3;
      closed = 2;
      posts = 5;
      filled = 4;
      low = pos 900;
      high = pos 1200;
      column = 0;
      finished = 0;
      profile = no_profile;
      sum = pos 4200;
      family = 0;
    }

-- "Cells: 1000, void, 1200, void, 1100, 900", and the cell past the sheet as lent
abbrev pub paper_cells : List ℤ
paper_cells = pos 1000 ∷ void ∷ pos 1200 ∷ void ∷ pos 1100 ∷ pos 900 ∷ pos 7 ∷ []
