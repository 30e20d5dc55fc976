-- Runs computed: the paper's sheet in one call, and its neighbours that a retry or a poor line makes of it.
use mathlib.Core.List.{List, [], ◌∷◌, ◌++◌}
use mathlib.Core.Path.{◌≡◌, refl}
use Prim.Native.Nat.{ℕ}
use lib.IntN.{pos}
use lib.ListN.{drop}
use Rattle.laws.specs.Digits.{places, short}
use Rattle.number.specs.Integer.{integer}
use Rattle.number.specs.Real.{real, billionths}
use Rattle.lattice.specs.Lattice.{lattice_of, place_of}
use Rattle.heading.specs.Heading.{header_of}
use Rattle.sheet.specs.RecordA.{record_of, usgs_front, back}
use Rattle.profile.specs.RecordB.{record_b}
use Rattle.session.specs.Session.{begun, fresh, sound}
use Rattle.ground.specs.Posts.{void}
use Rattle.delivery.specs.declared.Answer.TheVariants.{Taken, Held, Refused}
use Rattle.delivery.specs.Deliver.{lend, verdict_of}
use Rattle.runs.specs.Run.{running, run_to, run_of}
use Rattle.meaning.specs.PaperSheet.{paper_header, paper_a, profile1, profile2, paper_session, paper_lent, paper_cells}

-- the three blocks, one behind the other
abbrev paper_blocks : List ℕ
paper_blocks = paper_a ++ (profile1 ++ profile2)

-- in one call: all taken, the paper's session and cells
pub paper-run : run_of fresh 0 paper_blocks (lend paper_lent) ≡ running Taken paper_session (lend paper_cells) 3
unfolding run_to verdict_of sound record_of usgs_front back header_of record_b lattice_of place_of integer real billionths places short paper_a profile1 profile2
paper-run = refl

-- once more: all held, and nothing read
pub run-again : run_of paper_session 0 paper_blocks (lend paper_cells) ≡ running Held paper_session (lend paper_cells) 3
unfolding run_to verdict_of sound lattice_of places short paper_a profile1 profile2
run-again = refl

-- the last block twice: the first of them is held, the second is one too many
pub one-too-many : run_of paper_session 2 (profile2 ++ profile2) (lend paper_cells) ≡ running (Refused 4 3 0) paper_session (lend paper_cells) 1
unfolding run_to verdict_of sound lattice_of places short profile2
one-too-many = refl

-- the profiles exchanged: block 0 stays taken, and the second profile is refused in the first one's place
pub exchanged : run_of fresh 0 (paper_a ++ (profile2 ++ profile1)) (lend paper_lent)
    ≡ running (Refused 9 1 7) (begun 0 paper_header) (lend (void ∷ void ∷ void ∷ void ∷ void ∷ void ∷ pos 7 ∷ [])) 1
unfolding run_to verdict_of sound record_of usgs_front back header_of record_b lattice_of place_of integer real billionths places short paper_a profile1 profile2
exchanged = refl

-- a byte short: none of the whole blocks is taken
pub a-byte-short : run_of fresh 0 (drop 1 paper_blocks) (lend paper_lent) ≡ running (Refused 1 0 0) fresh (lend paper_lent) 0
unfolding paper_a profile1 profile2
a-byte-short = refl

-- without block 0: early
pub without-block-0 : run_of fresh 1 (profile1 ++ profile2) (lend paper_lent) ≡ running (Refused 3 1 0) fresh (lend paper_lent) 0
unfolding run_to verdict_of sound places short profile1 profile2
without-block-0 = refl
