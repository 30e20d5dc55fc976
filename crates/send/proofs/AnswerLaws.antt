-- From a judged sheet to what the writers ask, and from what they give to the public answer.
use mathlib.Core.List.{List}
use mathlib.Core.Path.{◌≡◌, refl, ap, sym, ◌∙◌, subst}
use Prim.Native.Nat.{ℕ, ◌≤◌, ◌<◌, ◌-◌}
use lib.IntN.{ℤ}
use mathlib.Core.Bool.{false, true}
use native.Mathlib.Omega.{arith}
use borrow.Author.Tests.{eq-eqb, ne_eqb, le-leb, lt-leb}
use lib.Dec.{eqb, leb}
use lib.ListN.{length}
use Rattle.laws.proofs.Tests.{by-test}
use Rattle.frame.specs.declared.Header.{Header}
use Rattle.frame.specs.Frame.{columns_of, rows_of}
use Rattle.heading.specs.Heading.{header_of}
use Rattle.sheet.proofs.SheetObeys.{sheet-obeys}
use Rattle.written.specs.Sending.{sheet_objection, Objection, block_objection, block_after, count_of, sent_by}
use Rattle.written.specs.Cells.{block_count, column_with}
use Rattle.written.specs.Blocks.{profile_block, block_zero, block_sent}
use Rattle.written.proofs.SheetPasses.{fine-passes}
use Rattle.written.proofs.SheetSent.{start-next, with-start, with-below, with-end}
use Rattle.columns.specs.Judging.Judged.{Good, Bad}
use Rattle.columns.specs.Judging.{judged_by}
use Rattle.columns.proofs.Verdicts.{judged-good, judged-bad}
use Rattle.census.specs.Census.{counted, found_by, found_at}
use Rattle.census.specs.declared.Found.{Found}
use Rattle.census.proofs.CensusLaws.{sheet-counted, sheet-found}
use Rattle.send.specs.WholeSteps.{FitAsked}
use Rattle.written.specs.Sending.{Sent}
use Rattle.written.specs.Sending.Sent.{Refused, Written}
use Rattle.send.specs.SendSteps.{SendableSheet, ZeroAsked, ProfileAsked}
use Rattle.send.specs.AnswerSteps.{count_objection, numbered, LaterAsked, later_block}

-- ---- a sheet that nothing stands against can be sent

pub fine-fits : (template : List ℕ) (grid : List ℤ) → (sheet_objection template grid).kind ≡ 0 → FitAsked template (header_of template) grid
fine-fits template grid z =
    let p = fine-passes template grid z in
    record {
      sheet = record { obeys = sheet-obeys template (header_of template) p.sheet; room = p.room; all = p.all };
      template-long = p.long;
    }

pub counts : {h : Header} {grid : List ℤ} → SendableSheet h grid → counted h grid ≡ block_count h grid
counts {h} {grid} s = sheet-counted h grid s.obeys s.room

-- ---- what the judge's answer says

module _ (template : List ℕ) (grid : List ℤ) where
  module _ (h : Header) (e : Good h ≡ judged_by (header_of template) (sheet_objection template grid)) where
    good_none : (sheet_objection template grid).kind ≡ 0
    good_none = (judged-good (header_of template) (sheet_objection template grid) h e).0

    pub good-header : h ≡ header_of template
    good-header = (judged-good (header_of template) (sheet_objection template grid) h e).1

    pub good-fine : eqb (sheet_objection template grid).kind 0 ≡ true
    good-fine = eq-eqb (sheet_objection template grid).kind 0 good_none

    pub good-fits : FitAsked template h grid
    good-fits = subst (λ (k : Header). FitAsked template k grid) (sym good-header) (fine-fits template grid good_none)

    pub good-asked : (block : List ℕ) → length block ≡ 1024 → ZeroAsked template h grid block
    good-asked block l = record { sheet = good-fits.sheet; template-long = good-fits.template-long; long = l }

    pub good-count : block_count h grid ≡ count_of template grid
    unfolding count_of
    good-count = rw good-fine (ap (λ (k : Header). block_count k grid) good-header)

    -- the number decides
    pub good-answer : (number : ℕ) (block after : List ℕ) (r : Sent) → length block ≡ 1024
        → (r ≡ sent_by (count_objection h grid number)) × (after ≡ numbered template h grid number block)
        → (r ≡ sent_by (block_objection template grid number (length block))) × (after ≡ block_after template grid number block)
    unfolding block_objection
    good-answer number block after r l a =
        let k = header_of template in
        let long = eq-eqb (length block) 1024 l in
        let s : block_objection template grid number (length block) ≡ count_objection k grid number = rw (long, good-fine) in
        let p : count_objection h grid number ≡ block_objection template grid number (length block)
        = ap (λ (x : Header). count_objection x grid number) good-header ∙ sym s in
        let q : numbered template k grid number block ≡ block_after template grid number block
        = by-test (leb (block_count k grid) number) (λ t. rw (s, t)) (λ t. rw (s, t)) in (
          a.0 ∙ ap sent_by p,
          a.1 ∙ ap (λ (x : Header). numbered template x grid number block) good-header ∙ q,
        )

  module _ (kind n : ℕ) (e : Bad kind n ≡ judged_by (header_of template) (sheet_objection template grid)) where
    pub bad-count : 0 ≡ count_of template grid
    unfolding count_of
    bad-count = rw (judged-bad (header_of template) (sheet_objection template grid) kind n e).0

    -- a refused sheet leaves the block
    pub bad-answer : (number : ℕ) (block : List ℕ) → length block ≡ 1024
        → (Refused kind n ≡ sent_by (block_objection template grid number (length block)))
        × (block ≡ block_after template grid number block)
    unfolding block_objection
    bad-answer number block l =
        let j = judged-bad (header_of template) (sheet_objection template grid) kind n e in
        let s : block_objection template grid number (length block) ≡ sheet_objection template grid
        = rw (eq-eqb (length block) 1024 l, j.0) in
        let p : Refused (sheet_objection template grid).kind (sheet_objection template grid).number ≡ sent_by (sheet_objection template grid) = rw j.0 in
        (ap (λ (x : Objection). Refused x.kind x.number) j.1 ∙ p ∙ ap sent_by (sym s), rw (s, j.0))

  -- "1 lent block length (number 0)" comes first
  pub length-answer : (number : ℕ) (block : List ℕ) → (length block ≡ 1024 → ⊥)
      → (Refused 1 0 ≡ sent_by (block_objection template grid number (length block)))
      × (block ≡ block_after template grid number block)
  unfolding block_objection
  length-answer number block n =
      let t = ne_eqb (length block) 1024 n in
      (rw t, rw t)

-- ---- a later block is one of a profile

module _ {h : Header} {grid : List ℤ} {number : ℕ} {block : List ℕ} (a : LaterAsked h grid number block) (r : Found)
    (e : r ≡ found_by h grid number) where
  abbrev here : ℕ
  here = column_with h grid (columns_of h) number

  found-is : r ≡ found_at (rows_of h) grid here
  found-is = e ∙ sheet-found h grid a.sheet.obeys a.sheet.room number a.later a.below

  pub found_before : r.start ≤ number
  found_before = rw found-is (with-start (rows_of h) grid (columns_of h) number a.later)

  pub found-asked : ProfileAsked h grid r.column r.row r.posts (number - r.start) block
  found-asked =
      let k = with-start (rows_of h) grid (columns_of h) number a.later in
      let end = with-end (rows_of h) grid (columns_of h) number a.below in
      subst (λ (x : Found). ProfileAsked h grid x.column x.row x.posts (number - x.start) block) (sym found-is)
      (record {
        sheet = a.sheet;
        inside = with-below (rows_of h) grid (columns_of h) number a.later a.below;
        row_is = refl;
        posts-are = refl;
        within = omega (arith, k, end, start-next (rows_of h) grid here);
        long = a.long;
      })

  pub found-block : (after : List ℕ) → after ≡ profile_block h grid r.column (number - r.start) → after ≡ later_block h grid number
  found-block after b = b ∙ ap (λ (x : Found). profile_block h grid x.column (number - x.start)) found-is

-- ---- a numbered block

module _ (template : List ℕ) (h : Header) (grid : List ℤ) (number : ℕ) (block : List ℕ) where
  pub past_end : (count : ℕ) → count ≡ block_count h grid → count ≤ number
      → (Refused 14 count ≡ sent_by (count_objection h grid number)) × (block ≡ numbered template h grid number block)
  past_end count e p =
      let t : leb (block_count h grid) number ≡ true = le-leb (block_count h grid) number (omega (arith, e, p)) in
      (rw (t, e), rw t)

  pub written-zero : (after : List ℕ) → number < block_count h grid → number ≡ 0 → after ≡ block_zero template h grid
      → (Written ≡ sent_by (count_objection h grid number)) × (after ≡ numbered template h grid number block)
  unfolding block_sent
  written-zero after p z a =
      let t : leb (block_count h grid) number ≡ false = lt-leb (block_count h grid) number p in
      let y = eq-eqb number 0 z in
      (rw t, rw (t, y) a)

  pub written-later : (after : List ℕ) → number < block_count h grid → (number ≡ 0 → ⊥) → after ≡ later_block h grid number
      → (Written ≡ sent_by (count_objection h grid number)) × (after ≡ numbered template h grid number block)
  unfolding block_sent
  written-later after p z a =
      let t : leb (block_count h grid) number ≡ false = lt-leb (block_count h grid) number p in
      let y = ne_eqb number 0 z in
      (rw t, rw (t, y) a)
