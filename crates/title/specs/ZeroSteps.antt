-- How the code writes block 0: its stretches with what is written there, and the text that one turn puts.
use Rattle.std.specs.Prelude.{ℕ, min, zero, suc, List, [], ◌∷◌, get_or, length, take, drop, ℤ, pos, cond}
use borrow.Rule.Slice.PartMut.{put_mid}
use Rattle.frame.specs.declared.Header.{Header}
use Rattle.title.specs.declared.Content.{Content}
use Rattle.title.specs.declared.Content.TheVariants.{Kept, Integer, Real, Spacing}
use Rattle.title.specs.declared.Stretch.{Stretch}
use Rattle.spell.specs.Spell.{integer_text, integer_fits, real_text, real_fits}

-- ---- the table

abbrev pub stretch : ℕ → ℕ → Content → Stretch
stretch start width content = record { 0 = start; 1 = width; 2 = content }

abbrev pub start_of : Stretch → ℕ
start_of s = s.0

abbrev pub width_of : Stretch → ℕ
width_of s = s.1

abbrev pub content_of : Stretch → Content
content_of s = s.2

unfoldable pub stretches_by : Header → ℤ → ℤ → ℕ → List Stretch
stretches_by h least greatest columns =
    stretch 0 144 Kept
    ∷ stretch 144 6 (Integer h.level)
    ∷ stretch 150 6 (Integer 1)
    ∷ stretch 156 6 (Integer h.system)
    ∷ stretch 162 6 (Integer h.zone)
    ∷ stretch 168 360 Kept
    ∷ stretch 528 6 (Integer h.ground)
    ∷ stretch 534 6 (Integer h.vertical)
    ∷ stretch 540 6 (Integer 4)
    ∷ stretch 546 24 (Real h.sw.x)
    ∷ stretch 570 24 (Real h.sw.y)
    ∷ stretch 594 24 (Real h.nw.x)
    ∷ stretch 618 24 (Real h.nw.y)
    ∷ stretch 642 24 (Real h.ne.x)
    ∷ stretch 666 24 (Real h.ne.y)
    ∷ stretch 690 24 (Real h.se.x)
    ∷ stretch 714 24 (Real h.se.y)
    ∷ stretch 738 24 (Real least)
    ∷ stretch 762 24 (Real greatest)
    ∷ stretch 786 24 (Real (pos 0))
    ∷ stretch 810 6 (Integer 0)
    ∷ stretch 816 12 (Spacing h.xstep)
    ∷ stretch 828 12 (Spacing h.ystep)
    ∷ stretch 840 12 (Spacing h.zstep)
    ∷ stretch 852 6 (Integer 1)
    ∷ stretch 858 6 (Integer columns)
    ∷ stretch 864 160 Kept
    ∷ []

-- past the last one, the block's end
abbrev pub block_end : Stretch
block_end = stretch 1024 0 Kept

-- ---- one turn

-- as the machine holds a number that is written
abbrev pub capped : ℕ → ℤ
capped n = pos (min n 9223372036854775807)

unfoldable pub text_by : Content → List ℕ → List ℕ → List ℕ
text_by Kept kept field = kept
text_by (Integer n) kept field = cond (integer_fits (length field) (capped n)) (integer_text (length field) (capped n)) field
text_by (Real z) kept field = cond (real_fits 15 (length field) z) (real_text 15 68 (length field) z) field
text_by (Spacing n) kept field = cond (real_fits 6 (length field) (capped n)) (real_text 6 69 (length field) (capped n)) field

-- the stretch of a text
abbrev pub within : Stretch → List ℕ → List ℕ
within s text = take (width_of s) (drop (start_of s) text)

abbrev pub stretch_after : List ℕ → Stretch → List ℕ → List ℕ
stretch_after template s block = put_mid (start_of s) (width_of s) block (text_by (content_of s) (within s template) (within s block))

-- the first i of them
unfoldable pub stretches_to : List ℕ → List Stretch → ℕ → List ℕ → List ℕ
stretches_to template stretches zero block = block
stretches_to template stretches (suc i) block = stretch_after template (get_or stretches i block_end) (stretches_to template stretches i block)
