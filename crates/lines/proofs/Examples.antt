-- The lines of document 01's sheet and the numbers at the edge, by computation.
use Prim.Native.Nat.{ℕ, ◌*◌, ◌^◌}
use lib.IntN.{pos, neg_ℤ}
use mathlib.Core.List.{[], ◌∷◌, ◌++◌}
use mathlib.Core.Path.{◌≡◌, refl}
use Rattle.laws.specs.Digits.{places}
use Rattle.laws.specs.Texts.{bytes}
use Rattle.numerals.specs.Numerals.{spell, count, numeral}
use Rattle.lattice.specs.Lattice.{lattice_of}
use Rattle.frame.specs.declared.Corner.{Corner}
use Rattle.frame.specs.declared.Header.{Header}
use Rattle.session.specs.Session.{no_profile, fresh}
use Rattle.session.specs.declared.Session.{Session}
use Rattle.lines.specs.Lines.{units, spacing, head_line, posts_line, range_line, end_line, report_text, end_text, unfinished_text, refused_text, hundredths}

abbrev corner : ℕ → ℕ → Corner
corner x y = record { x = pos (x * 10 ^ 9); y = pos (y * 10 ^ 9) }

-- "UTM zone 17, metres, spacing 30, 30, 1 ..", with any x and y spacing in billionths
abbrev header_of : ℕ → ℕ → Header
header_of x y =
    record {
      level = 1;
      system = 1;
      zone = 17;
      ground = 2;
      vertical = 2;
      sw = corner 600 900;
      nw = corner 600 960;
      ne = corner 630 960;
      se = corner 630 900;
      least = pos (9 * 10 ^ 9);
      greatest = pos (12 * 10 ^ 9);
      accuracy = 0;
      xstep = x;
      ystep = y;
      zstep = 10 ^ 9;
      profiles = 2;
    }

-- the session once both profiles are read
abbrev listed : Session
listed =
    record {
      header = header_of (30 * 10 ^ 9) (30 * 10 ^ 9);
      taken = 3;
      closed = 2;
      posts = 5;
      filled = 4;
      low = pos 900;
      high = pos 1200;
      column = 0;
      finished = 0;
      profile = no_profile;
      sum = pos 4200;
      family = 0;
    }

the-paper's-lines : end_text listed
    ≡ bytes "sheet 3 2 30 30 1.00"
    ++ (10
    ∷ (bytes "posts 5 void 1"
    ++ (10 ∷ (bytes "range 9.00 12.00" ++ (10 ∷ (bytes "end 3" ++ (10 ∷ [])))))))
unfolding end_text report_text head_line posts_line range_line end_line spacing units spell count places lattice_of
the-paper's-lines = refl

nothing_read : end_text fresh ≡ bytes "unfinished 0" ++ (10 ∷ [])
unfolding end_text unfinished_text report_text head_line posts_line range_line end_line spacing units spell count places lattice_of
nothing_read = refl

-- 02, request 2: spacings that are not whole have two decimals, whole ones none
of-a-metre : head_line (header_of 750000000 1500000000) ≡ bytes "sheet 41 41 0.75 1.50 1.00" ++ (10 ∷ [])
unfolding head_line spacing units spell count places lattice_of
of-a-metre = refl

whole-metres : head_line (header_of (3 * 10 ^ 9) (12 * 10 ^ 9)) ≡ bytes "sheet 6 11 3 12 1.00" ++ (10 ∷ [])
unfolding head_line spacing units spell count places lattice_of
whole-metres = refl

a-short-block : refused_text 1 7 0 ≡ bytes "refused 1 7 0" ++ (10 ∷ [])
unfolding refused_text spell count places
a-short-block = refl

below-zero : hundredths (neg_ℤ (pos 5)) ≡ bytes "-0.05"
unfolding units spell count places
below-zero = refl

whole-units : hundredths (pos 900) ≡ bytes "9.00"
unfolding units spell count places
whole-units = refl

the-greatest-number : numeral 18446744073709551615 ≡ bytes "18446744073709551615"
unfolding spell count places
the-greatest-number = refl
