-- The paper's sheet, delivered: each block is taken, and the session and the cells afterwards are those the paper tells. Computing the
-- three verdicts carries it.
use mathlib.Core.List.{[], ◌∷◌, List}
use lib.IntN.{pos, ℤ}
use mathlib.Core.Path.{◌≡◌, refl, ◌∙◌, ap, ap₂}
use Rattle.laws.specs.Digits.{places, short}
use Rattle.number.specs.Integer.{integer}
use Rattle.number.specs.Real.{real, billionths}
use Rattle.lattice.specs.Lattice.{lattice_of, place_of}
use Rattle.heading.specs.Heading.{header_of}
use Rattle.sheet.specs.RecordA.{record_of, usgs_front, back}
use Rattle.profile.specs.RecordB.{record_b}
use Rattle.session.specs.Session.{begun, no_profile, fresh, sound}
use Rattle.ground.specs.Posts.{void}
use Rattle.delivery.specs.Deliver.{verdict_of, lend, room_of, begins, fills, Verdict, answer_of, lent_by}
use Rattle.delivery.specs.declared.Answer.{Answer}
use Rattle.delivery.specs.declared.Answer.TheVariants.{Taken}
use Rattle.meaning.specs.Deliveries.{Delivery}
use Rattle.meaning.proofs.Desks.{Desk, desk, at_first, answered, after, after_all, all_answered}
use Rattle.meaning.specs.PaperSheet.{paper_header, paper_a, profile1, profile2, paper_session, block0, block1, block2, paper_sheet, paper_lent, paper_cells}

-- ---- the desk between the blocks

-- block 0 sets the sheet's six cells void
abbrev pub desk1 : Desk
desk1 =
    record { session = begun 0 paper_header; lent = lend (void ∷ void ∷ void ∷ void ∷ void ∷ void ∷ pos 7 ∷ []) }

-- profile 1 fills the western column
abbrev pub desk2 : Desk
desk2 =
    record {
      session =
          record {
            header = paper_header;
            taken = 2;
            closed = 1;
            posts = 3;
            filled = 2;
            low = pos 1000;
            high = pos 1200;
            column = 0;
            finished = 0;
            profile = no_profile;
            sum = pos 2200;
            family = 0;
          };
      lent = lend (pos 1000 ∷ void ∷ pos 1200 ∷ void ∷ void ∷ void ∷ pos 7 ∷ []);
    }

-- the desk by the verdict
by-verdict : (k : Desk) (d : Delivery) (v : Verdict) → verdict_of k.session d.number d.bytes (room_of k.lent) ≡ v
    → after k d ≡ desk (answer_of k.session v).session (lent_by k.lent v)
by-verdict k d v is = λ i. desk (answer_of k.session (is i)).session (lent_by k.lent (is i))

-- ---- the three verdicts

-- the heights of the two profiles
abbrev western : List ℤ
western = pos 1000 ∷ void ∷ pos 1200 ∷ []

abbrev eastern : List ℤ
eastern = pos 1100 ∷ pos 900 ∷ []

verdict0 : verdict_of fresh 0 paper_a (record { cells = 7 }) ≡ begins paper_header
unfolding verdict_of sound record_of usgs_front back header_of lattice_of integer real billionths places short paper_a
verdict0 = refl

verdict1 : verdict_of desk1.session 1 profile1 (record { cells = 7 }) ≡ fills desk2.session 0 western
unfolding verdict_of sound record_b lattice_of place_of integer real billionths places short profile1
verdict1 = refl

verdict2 : verdict_of desk2.session 2 profile2 (record { cells = 7 }) ≡ fills paper_session 4 eastern
unfolding verdict_of sound record_b lattice_of place_of integer real billionths places short profile2
verdict2 = refl

-- ---- delivered

pub block0-taken : answered (at_first 0 paper_lent) block0 ≡ Taken
block0-taken = ap (λ (v : Verdict). (answer_of fresh v).answer) verdict0

pub after-block0 : after (at_first 0 paper_lent) block0 ≡ desk1
unfolding lattice_of
after-block0 = by-verdict (at_first 0 paper_lent) block0 (begins paper_header) verdict0

pub after-block1 : after desk1 block1 ≡ desk2
after-block1 = by-verdict desk1 block1 (fills desk2.session 0 western) verdict1

pub after-block2 : after desk2 block2 ≡ desk paper_session (lend paper_cells)
after-block2 = by-verdict desk2 block2 (fills paper_session 4 eastern) verdict2

-- each of the three blocks is taken, in turn
pub paper-answers : all_answered (at_first 0 paper_lent) paper_sheet ≡ Taken ∷ Taken ∷ Taken ∷ []
paper-answers =
    ap₂ (λ (a : Answer) (k : Desk). a ∷ all_answered k (block1 ∷ block2 ∷ [])) block0-taken after-block0
    ∙ ap₂ (λ (v : Verdict) (k : Desk). Taken ∷ (answer_of desk1.session v).answer ∷ all_answered k (block2 ∷ [])) verdict1 after-block1
    ∙ ap (λ (v : Verdict). Taken ∷ Taken ∷ (answer_of desk2.session v).answer ∷ []) verdict2

-- the session and the cells afterwards
pub paper-desk : after_all (at_first 0 paper_lent) paper_sheet ≡ desk paper_session (lend paper_cells)
paper-desk =
    ap (λ (k : Desk). after_all k (block1 ∷ block2 ∷ [])) after-block0
    ∙ ap (λ (k : Desk). after_all k (block2 ∷ [])) after-block1
    ∙ after-block2
