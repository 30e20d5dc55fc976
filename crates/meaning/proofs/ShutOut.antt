-- Document 01, "How much a promise says": no reader that it names keeps the promise of `deliver`. Calls that deliver the paper's sheet
-- shut each of them out.
use mathlib.Core.Bool.{Bool, true, false}
use mathlib.Core.List.{List, [], ◌∷◌}
use lib.IntN.{ℤ, pos}
use lib.ListN.{get_or}
use lib.Dec.{eqb}
use mathlib.Core.Path.{◌≡◌, sym, ◌∙◌, ap}
use Rattle.laws.specs.Sign.{same_z, ◌and◌}
use Rattle.laws.proofs.Tests.{clash}
use Rattle.session.specs.declared.Session.{Session}
use Rattle.session.specs.Session.{fresh}
use Rattle.ground.specs.Posts.{void}
use Rattle.delivery.specs.declared.Answer.{Answer}
use Rattle.delivery.specs.declared.Answer.TheVariants.{Taken, Held, Refused}
use Rattle.delivery.specs.Deliver.{lend}
use Rattle.meaning.specs.Deliveries.{Call, Calls, called, Delivery, Fresh, deliveries, answers, session_after, grid_after}
use Rattle.meaning.specs.PaperSheet.{block0, paper_sheet, paper_lent, paper_session, paper_cells}
use Rattle.meaning.proofs.Desks.{Desk, desk, at_first, after, after_all, all_answered, call-desk, calls-desk, calls-answers}
use Rattle.meaning.proofs.Witness.{after-block0, paper-answers, paper-desk}

abbrev pub is_refused : Answer → Bool
is_refused Taken = false
is_refused Held = false
is_refused (Refused kind block byte) = true

abbrev pub is_held : Answer → Bool
is_held Taken = false
is_held Held = true
is_held (Refused kind block byte) = false

abbrev pub all_are : (Answer → Bool) → List Answer → Bool
all_are is [] = true
all_are is (a ∷ rest) = is a and all_are is rest

-- is the sheet's first cell void
abbrev southwest_void : List ℤ → Bool
southwest_void g = same_z (get_or g 0 (pos 0)) void

-- has the session taken block 0 and no other
abbrev one_taken : Session → Bool
one_taken s = eqb s.taken 1

-- ---- calls that deliver the paper's three blocks

module _ (cs : List Call) (kept : Fresh 0 paper_lent cs) (paper : deliveries cs ≡ paper_sheet) where
  pub all-taken : answers cs ≡ Taken ∷ Taken ∷ Taken ∷ []
  all-taken = calls-answers kept ∙ ap (all_answered (at_first 0 paper_lent)) paper ∙ paper-answers

  at-the-end : desk (session_after fresh cs) (lend (grid_after paper_lent cs)) ≡ desk paper_session (lend paper_cells)
  at-the-end = calls-desk kept ∙ ap (after_all (at_first 0 paper_lent)) paper ∙ paper-desk

  pub session-is : session_after fresh cs ≡ paper_session
  session-is = ap (λ (k : Desk). k.session) at-the-end

  pub cells_are : grid_after paper_lent cs ≡ paper_cells
  cells_are = ap (λ (k : Desk). k.lent.grid) at-the-end

  -- not all refused, nor all held
  pub not-all-refused : all_are is_refused (answers cs) ≡ true → ⊥
  not-all-refused all = clash (sym all ∙ ap (all_are is_refused) all-taken)

  pub not-all-held : all_are is_held (answers cs) ≡ true → ⊥
  not-all-held all = clash (sym all ∙ ap (all_are is_held) all-taken)

-- ---- block 0 and what comes behind it

abbrev first_or : List Delivery → Delivery
first_or [] = block0
first_or (d ∷ ds) = d

module _ (c : Call) (cs : List Call) (kept : Fresh 0 paper_lent (c ∷ cs)) (paper : deliveries (c ∷ cs) ≡ paper_sheet) where
  first-is : c.sent ≡ block0
  first-is = ap first_or paper

  first-desk : desk c.returned.session c.left ≡ after (at_first 0 paper_lent) c.sent
  first-desk = go kept
    where
      go : Calls fresh (lend paper_lent) (c ∷ cs) → desk c.returned.session c.left ≡ after (at_first 0 paper_lent) c.sent
      go (called p rest) = call-desk p

  -- takes blocks and places nothing: the grid stays as block 0 left it
  pub places-what-it-takes : grid_after c.left.grid cs ≡ c.left.grid → ⊥
  places-what-it-takes idle =
      clash
      (ap southwest_void
      (sym (ap (λ (k : Desk). k.lent.grid) (first-desk ∙ ap (after (at_first 0 paper_lent)) first-is ∙ after-block0))
      ∙ sym idle
      ∙ cells_are (c ∷ cs) kept paper))

  -- works on the first block and idles afterwards: the session stays as block 0 left it
  pub works-after-first : session_after c.returned.session cs ≡ c.returned.session → ⊥
  works-after-first idle =
      clash
      (ap one_taken
      (sym (ap (λ (k : Desk). k.session) (first-desk ∙ ap (after (at_first 0 paper_lent)) first-is ∙ after-block0))
      ∙ sym idle
      ∙ session-is (c ∷ cs) kept paper))
