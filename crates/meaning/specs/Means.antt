-- What a text of a family that breaks no rule means: its session and its grid. Counts are counts of posts and blocks of the text.
use Rattle.std.specs.Prelude.{cond, Bool, false, List, ◌++◌, map, ℕ, zero, suc, leb, ltb, eqb, length, drop, ℤ}
use Rattle.ground.specs.Blocks.{blocks_in}
use Rattle.laws.specs.Lists.{below}
use Rattle.session.specs.declared.Profile.{Profile}
use Rattle.session.specs.Session.{no_profile, opened}
use Rattle.session.specs.declared.Session.{Session}
use Rattle.ground.specs.Posts.{filled_in}
use Rattle.ground.specs.Extremes.{filled_only, least_of, greatest_of, sum_of}
use Rattle.meaning.specs.Text.{start_of, profiles_in, head_in, row_in, posts_in, heights_in, header_in, column_in, all_heights, cells_in, cell_in}
use Rattle.meaning.specs.Rules.{has_begun, end_of}

-- how many of the first n profiles are closed: the text has every block of theirs
abbrev pub closed_of : List ℕ → ℕ → ℕ
closed_of text zero = 0
closed_of text (suc j) = cond (leb (start_of text (suc j)) (blocks_in text)) (suc j) (closed_of text j)

abbrev pub closed_in : List ℕ → ℕ
closed_in text = closed_of text (profiles_in text)

-- a profile of which the text has some blocks and not all
abbrev pub is_open : List ℕ → Bool
is_open text = cond (ltb (closed_in text) (profiles_in text)) (has_begun text (closed_in text)) false

abbrev pub open_profile : List ℕ → ℕ → Profile
open_profile text j =
    record {
      posts = (head_in text j).posts;
      row = row_in text j;
      datum = (head_in text j).datum;
      least = (head_in text j).least;
      greatest = (head_in text j).greatest;
      read = posts_in text j;
      filled = filled_in (heights_in text j);
      low = least_of (filled_only (heights_in text j));
      high = greatest_of (filled_only (heights_in text j));
    }

abbrev pub begun_session : ℕ → List ℕ → Session
begun_session family text =
    record {
      header = header_in text;
      taken = blocks_in text;
      closed = closed_in text;
      posts = length (all_heights text);
      filled = filled_in (all_heights text);
      low = least_of (filled_only (all_heights text));
      high = greatest_of (filled_only (all_heights text));
      column = cond (ltb 1 (blocks_in text)) (column_in text 0) 0;
      finished = cond (ltb (end_of text) (blocks_in text)) 1 0;
      profile = cond (is_open text) (open_profile text (closed_in text)) no_profile;
      sum = sum_of (filled_only (all_heights text));
      family = family;
    }

-- before block 0 the session is as it was opened and the grid as lent
abbrev pub session_of : ℕ → List ℕ → Session
session_of family text = cond (eqb (blocks_in text) 0) (opened family) (begun_session family text)

-- the cells of the sheet by their posts, void where none stands; what lies past the sheet as it was lent
abbrev pub grid_of : List ℕ → List ℤ → List ℤ
grid_of text lent =
    cond (eqb (blocks_in text) 0) lent (map (cell_in text) (below (cells_in text)) ++ drop (cells_in text) lent)
