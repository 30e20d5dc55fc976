-- 02, request 4: the paper's record A as an old tape carries it, with no point in any real that has a value. It means the same sheet, and as a
-- template it sends the same block 0: each number with its point. By computing the definitions.
use mathlib.Core.List.{List, [], ◌∷◌}
use mathlib.Core.Path.{◌≡◌, refl}
use Prim.Native.Nat.{ℕ}
use Rattle.laws.specs.Digits.{places, short}
use Rattle.laws.specs.Lists.{joined}
use Rattle.laws.specs.Texts.{bytes}
use Rattle.number.specs.Integer.{integer}
use Rattle.number.specs.Real.{real, billionths}
use Rattle.lattice.specs.Lattice.{lattice_of}
use Rattle.field.specs.Field.{stretch}
use Rattle.heading.specs.Heading.{header_of}
use Rattle.sheet.specs.RecordA.{record_of, usgs_front, back}
use Rattle.numerals.specs.Numerals.{spell, count}
use Rattle.spell.specs.Spell.{integer_text, real_text}
use Rattle.meaning.specs.PaperSheet.{paper_a, paper_cells, field, words}
use Rattle.written.specs.Cells.{can_send, sendable, voids_before, up_to_last, profile_cells, start_at}
use Rattle.written.specs.Sending.{objection, sheet_objection, block_objection}
use Rattle.written.specs.Blocks.{pieces_by, block_zero}

-- integers, texts and the fifteen reals, of which only the form counts, as the paper's sheet has them
unfoldable pub tape_a : List ℕ
tape_a =
    joined
    (stretch 1 546 paper_a
    -- corners, extremes and angle: 15 digits behind the point in 24 bytes
    ∷ field 24 "600000000000000000"
    ∷ field 24 "900D+15"
    ∷ field 24 "600000000000000D+03"
    ∷ field 24 "960000000000000000"
    ∷ field 24 "6300000000000000000D-01"
    ∷ words 24 "960E15"
    ∷ field 24 "+630000000000000000D+00"
    ∷ field 24 "9D17"
    ∷ field 24 "9D+15"
    ∷ field 24 "12000000000000000"
    ∷ field 24 "0"
    ∷ stretch 811 6 paper_a
    -- spacings: 6 in 12 bytes
    ∷ field 12 "300000E+02"
    ∷ field 12 "30000000"
    ∷ field 12 "1E6"
    ∷ stretch 853 172 paper_a
    ∷ [])

pub tape-means : header_of tape_a ≡ header_of paper_a
unfolding tape_a paper_a header_of lattice_of integer real billionths places short
tape-means = refl

pub tape-fine : block_objection tape_a paper_cells 0 1024 ≡ objection 0 0
unfolding block_objection sheet_objection record_of usgs_front back header_of lattice_of integer real billionths places short tape_a paper_a can_send sendable start_at profile_cells up_to_last voids_before
tape-fine = refl

-- "a template's spacing is read anew and rewritten": and so is every other number of it
pub tape-sent : block_zero tape_a (header_of tape_a) paper_cells ≡ block_zero paper_a (header_of paper_a) paper_cells
unfolding tape_a paper_a header_of lattice_of integer real billionths places short block_zero pieces_by
tape-sent = refl

pub spacing-sent : stretch 817 12 (block_zero tape_a (header_of tape_a) paper_cells) ≡ bytes "0.300000E+02"
unfolding tape_a paper_a header_of lattice_of integer real billionths places short block_zero pieces_by integer_text real_text spell count
spacing-sent = refl
