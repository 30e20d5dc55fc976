-- The verdict on the next block of a sheet that is not complete is the first rule that the text with it breaks, whatever it belongs to.
use mathlib.Core.Bool.{Bool, true, false, cond}
use mathlib.Core.List.{List, [], ◌∷◌, ◌++◌, map}
use mathlib.Core.Path.{◌≡◌, refl, sym, ◌∙◌, ap, ap₂}
use Prim.Native.Nat.{ℕ, suc, ◌+◌, ◌-◌, ◌≤◌, ◌<◌}
use native.Mathlib.Omega.{arith}
use borrow.Author.Tests.{ltb-true, ltb-false, lt-ltb, le-ltb, le-leb, lt-leb, leb-true, leb-false, eq-eqb, ne_eqb}
use lib.Dec.{leb, ltb, eqb}
use lib.ListN.{length}
use Rattle.ground.specs.Blocks.{block_at, blocks_in}
use Rattle.ground.proofs.BlocksJoined.{Extends}
use Rattle.laws.specs.Lists.{below, joined}
use Rattle.laws.proofs.Tests.{by-test}
use Rattle.laws.proofs.Lists.{append-brackets}
use Rattle.frame.specs.declared.Header.{Header}
use Rattle.sheet.specs.RecordA.{fault_of}
use Rattle.profile.specs.RecordB.{record_b, head_fault}
use Rattle.profile.specs.RecordC.{record_c}
use Rattle.session.specs.Session.{busy, complete}
use Rattle.session.specs.declared.Session.{Session}
use Rattle.ground.specs.Posts.{filled_in}
use Rattle.ground.specs.Extremes.{filled_only, least_of, greatest_of, sum_of}
use Rattle.delivery.specs.Deliver.{fills, unless, later, further, opening, filling, next_cell, finished_session}
use Rattle.meaning.specs.Text.{header_in, profiles_in, start_of, column_in, number_on}
use Rattle.meaning.specs.Rules.{Breach, breach, in_block, rule, when, first_broken, first_breach, sheet_rules, end_rules, block_rules, place_rules, end_of, blocks_of_sheet, is_complete}
use Rattle.meaning.specs.Means.{closed_in, is_open, begun_session}
use Rattle.meaning.proofs.Lists.{Kept, kept-rest}
use Rattle.meaning.proofs.Starts.{closed-most, closed-start, closed-next, closed_is, start-order, start-from}
use Rattle.meaning.proofs.Joined.{Here, start-same, header-same, column-same, new_heights}
use Rattle.meaning.proofs.SessionGrows.{read_so_far, closed-here}
use Rattle.meaning.proofs.Verdicts.{by_breach, by-cons, by_append, is-idle, is-busy, filling-rules}
use Rattle.meaning.proofs.LaterBlocks.{further-rules, opening-rules}
use Rattle.meaning.proofs.Placed.{some-profiles, first-kept, behind-kept, begun_rules, last_rules, behind_a}
use Rattle.meaning.proofs.RulesGrow.{closing_due, further-due, opening-due, end-due}
use Rattle.meaning.proofs.GridGrows.{heights-idle}

module _ (family : ℕ) (text more block : List ℕ) (k : ℕ) (x : Extends text more block k) (some : 1 ≤ k) (kept : (first_breach family text).kind ≡ 0) where
  -- ---- a profile's block

  module _ (c : ℕ) (here : Here text k c) where
    idle-or-busy : (b : Bool) → busy (begun_session family text) ≡ b → ltb (begun_session family text).closed (profiles_in text) ≡ true
        → later (begun_session family text) k block
        ≡ cond b (further (begun_session family text) k block) (opening (begun_session family text) k block (record_b family ((begun_session family text).closed + 1) block))
    idle-or-busy true e l = rw e
    idle-or-busy false e l = rw (e, l)

    pub profile-verdict :
        later (begun_session family text) k block
        ≡ by_breach (first_breach family more)
        (fills (begun_session family more) (next_cell (begun_session family text) (column_in more 0) (read_so_far text more c)) (new_heights text more block k x some c here))
    profile-verdict =
        let s = begun_session family text in
        let fill = filling s k (column_in more 0) (read_so_far text more c) (new_heights text more block k x some c here) in
        let after = fills (begun_session family more) (next_cell s (column_in more 0) (read_so_far text more c)) (new_heights text more block k x some c here) in
        let n : ltb s.closed (profiles_in text) ≡ true
        = lt-ltb s.closed (profiles_in text) (omega (arith, closed-here family text more block k x some c here, here.below-n)) in
        by-test (ltb (start_of text c) k)
        (λ t.
        let lt = ltb-true (start_of text c) k t in
        let rules = block_rules more c (k - start_of text c) in
        idle-or-busy true (is-busy family text more block k x some c here lt) n
        ∙ further-rules family text more block k x some c here lt
        ∙ ap (by_breach (first_broken rules)) (filling-rules family text more block k x some c here)
        ∙ sym (by_append rules (closing_due more c) after)
        ∙ ap (λ (b : Breach). by_breach b after) (sym (further-due family text more block k x some c here kept lt)))
        (λ t.
        let e : start_of text c ≡ k = omega (arith, ltb-false (start_of text c) k t, here.begins) in
        let head = in_block k (head_fault family (suc c) block) in
        let first = block_rules more c 0 in
        let place = place_rules more c in
        idle-or-busy false (is-idle family text more block k x some c here e) n
        ∙ opening-rules family text more block k x some c here e
        ∙ ap (by_breach (first_broken (head ∷ (first ++ place)))) (filling-rules family text more block k x some c here)
        ∙ sym (by_append (head ∷ (first ++ place)) (closing_due more c) after)
        ∙ ap (λ (l : List Breach). by_breach (first_broken (head ∷ l)) after) (append-brackets first place (closing_due more c))
        ∙ ap (λ (b : Breach). by_breach b after) (sym (opening-due family text more block k x some c here kept e)))

  -- ---- record C

  module _ (all : closed_in text ≡ profiles_in text) where
    pub behind : end_of text ≤ k
    behind =
        let e : start_of text (closed_in text) ≡ end_of text = ap (start_of text) all in
        omega (arith, e, closed-start text (profiles_in text) (omega (arith, some, x.many)), x.many)

    end_same : end_of more ≡ end_of text
    end_same =
        ap (λ (h : Header). start_of more h.profiles) (header-same text more block k x some)
        ∙ start-same text more block k x (profiles_in text) behind

    same-n : profiles_in more ≡ profiles_in text
    same-n = ap (λ (h : Header). h.profiles) (header-same text more block k x some)

    not-open : (t : List ℕ) → closed_in t ≡ profiles_in t → is_open t ≡ false
    not-open t e =
        let b : ltb (profiles_in t) (profiles_in t) ≡ false = le-ltb (profiles_in t) (profiles_in t) (omega arith) in rw (e, b)

    all_closed : closed_in more ≡ profiles_in more
    all_closed =
        closed_is more (profiles_in more) (profiles_in more) (omega arith) (omega (arith, end_same, behind, x.one_more))
        (λ lt. absurd (omega (arith, lt)))
        (omega (arith, x.one_more))

    pub idle : busy (begun_session family text) ≡ false
    idle = rw (not-open text all)

    pub session-finished : end_of text ≡ k → finished_session (begun_session family text) ≡ begun_session family more
    session-finished e =
        let two : 1 < k = omega (arith, e, start-from text (profiles_in text), some-profiles family text kept) in
        let hs = sym (heights-idle family text more block k x some behind) in
        let taken : blocks_in text + 1 ≡ blocks_in more = omega (arith, x.many, x.one_more) in
        let a : ltb 1 (blocks_in text) ≡ true = lt-ltb 1 (blocks_in text) (omega (arith, two, x.many)) in
        let b : ltb 1 (blocks_in more) ≡ true = lt-ltb 1 (blocks_in more) (omega (arith, two, x.one_more)) in
        let column : (begun_session family text).column ≡ (begun_session family more).column
        = rw (a, b) (ap number_on (sym (column-same text more block k x some 0 two))) in
        let f : ltb (end_of more) (blocks_in more) ≡ true = lt-ltb (end_of more) (blocks_in more) (omega (arith, end_same, e, x.one_more)) in
        let finished : 1 ≡ (begun_session family more).finished = rw f in
        let o = not-open text all in
        let p = not-open more all_closed in
        let profile : (begun_session family text).profile ≡ (begun_session family more).profile = rw (o, p) in
        λ i.
        record {
          header = sym (header-same text more block k x some) i;
          taken = taken i;
          closed = (all ∙ sym same-n ∙ sym all_closed) i;
          posts = length (hs i);
          filled = filled_in (hs i);
          low = least_of (filled_only (hs i));
          high = greatest_of (filled_only (hs i));
          column = column i;
          finished = finished i;
          profile = profile i;
          sum = sum_of (filled_only (hs i));
          family = family;
        }

    -- no more blocks than the sheet has
    whole-blocks : k ≤ blocks_of_sheet text
    whole-blocks =
        by-test (ltb (end_of text) (blocks_in text))
        (λ t.
        let last = kept-rest (joined (map (begun_rules family text) (below (profiles_in text)))) (last_rules text)
        (behind-kept (in_block 0 (fault_of family (block_at text 0))) (behind_a family text) kept) in
        let rules : Kept (when (ltb (end_of text) (blocks_in text)) (end_rules text))
        = kept-rest (when (leb (end_of text) (blocks_in text)) (sheet_rules text)) (when (ltb (end_of text) (blocks_in text)) (end_rules text)) last in
        let asked : Kept (end_rules text) = rw t at rules in
        within (leb (blocks_in text) (blocks_of_sheet text)) refl
        (first-kept (rule (leb (blocks_in text) (blocks_of_sheet text)) (breach 4 (blocks_of_sheet text) 0))
        (in_block (end_of text) (record_c (block_at text (end_of text))) ∷ []) asked))
        (λ t. omega (arith, ltb-false (end_of text) (blocks_in text) t, x.many))
      where
        within : (b : Bool) → leb (blocks_in text) (blocks_of_sheet text) ≡ b → (rule b (breach 4 (blocks_of_sheet text) 0)).kind ≡ 0
            → k ≤ blocks_of_sheet text
        within true e z = omega (arith, leb-true (blocks_in text) (blocks_of_sheet text) e, x.many)
        within false e z = absurd (omega (arith, z))

    all-complete : complete (begun_session family text) ≡ is_complete text
    all-complete =
        let m : eqb (begun_session family text).taken 0 ≡ false = ne_eqb (begun_session family text).taken 0 (λ e. omega (arith, e, x.many, some)) in
        let n : eqb (begun_session family text).closed (profiles_in text) ≡ true = eq-eqb (begun_session family text).closed (profiles_in text) all in
        rw (m, n)
        (by-test (eqb (header_in text).accuracy 1)
        (λ a.
        by-test (ltb (end_of text) (blocks_in text))
        (λ t.
        let i : leb (end_of text + 1) (blocks_in text) ≡ true
        = le-leb (end_of text + 1) (blocks_in text) (omega (arith, ltb-true (end_of text) (blocks_in text) t)) in
        rw (a, t, i))
        (λ t.
        let i : leb (end_of text + 1) (blocks_in text) ≡ false
        = lt-leb (end_of text + 1) (blocks_in text) (omega (arith, ltb-false (end_of text) (blocks_in text) t)) in
        rw (a, t, i)))
        (λ a.
        let i : leb (end_of text + 0) (blocks_in text) ≡ true = le-leb (end_of text + 0) (blocks_in text) (omega (arith, behind, x.many)) in
        rw (a, i)))

    -- record C is due: accuracy 1, and the last profile just closed
    due-now : is_complete text ≡ false → (end_of text ≡ k) × (blocks_of_sheet text ≡ suc k)
    due-now i =
        let less = leb-false (blocks_of_sheet text) (blocks_in text) i in
        by-test (eqb (header_in text).accuracy 1)
        (λ a.
        let b : blocks_of_sheet text ≡ end_of text + 1 = rw a in
        (omega (arith, b, less, behind, x.many), omega (arith, b, less, behind, x.many)))
        (λ a.
        let b : blocks_of_sheet text ≡ end_of text + 0 = rw a in
        absurd (omega (arith, b, less, behind, x.many)))

    pub finish-verdict : is_complete text ≡ false
        → later (begun_session family text) k block ≡ by_breach (first_breach family more) (fills (begun_session family more) 0 [])
    finish-verdict i =
        let d = due-now i in
        let v = fills (begun_session family more) 0 [] in
        let n : ltb (begun_session family text).closed (profiles_in text) ≡ false
        = le-ltb (begun_session family text).closed (profiles_in text) (omega (arith, all)) in
        let r : leb (suc k) (blocks_of_sheet text) ≡ true = le-leb (suc k) (blocks_of_sheet text) (omega (arith, d.1)) in
        let e : first_breach family more ≡ first_broken (in_block k (record_c block) ∷ [])
        = end-due family text more block k x some kept behind
        ∙ ap
        (λ (b : Bool).
        first_broken (rule b (breach 4 (blocks_of_sheet text) 0) ∷ (in_block (end_of text) (record_c (block_at more (end_of text))) ∷ []))) r
        ∙ ap₂ (λ (b : ℕ) (l : List ℕ). first_broken (in_block b (record_c l) ∷ [])) d.0 (ap (block_at more) d.0 ∙ x.next) in
        idle-later n
        ∙ ap (λ (s : Session). by_breach (in_block k (record_c block)) (fills s 0 [])) (session-finished d.0)
        ∙ sym (by-cons (in_block k (record_c block)) [] v)
        ∙ ap (λ (b : Breach). by_breach b v) (sym e)
      where
        idle-later : ltb (begun_session family text).closed (profiles_in text) ≡ false
            → later (begun_session family text) k block ≡ unless (record_c block) k (fills (finished_session (begun_session family text)) 0 [])
        idle-later n = rw (idle, n)

    pub complete-breach : is_complete text ≡ true → first_breach family more ≡ breach 4 k 0
    complete-breach i =
        let e : blocks_of_sheet text ≡ k = omega (arith, leb-true (blocks_of_sheet text) (blocks_in text) i, whole-blocks, x.many) in
        let r : leb (suc k) (blocks_of_sheet text) ≡ false = lt-leb (suc k) (blocks_of_sheet text) (omega (arith, e)) in
        end-due family text more block k x some kept behind
        ∙ ap
        (λ (b : Bool).
        first_broken (rule b (breach 4 (blocks_of_sheet text) 0) ∷ (in_block (end_of text) (record_c (block_at more (end_of text))) ∷ []))) r
        ∙ ap (λ (b : ℕ). breach 4 b 0) e

  -- ---- which of the two

  pub here-now : closed_in text < profiles_in text → Here text k (closed_in text)
  here-now lt =
      record {
        below-n = lt;
        begins = omega (arith, closed-start text (profiles_in text) (omega (arith, some, x.many)), x.many);
        ends = omega (arith, closed-next text (profiles_in text) lt, x.many);
      }

  pub all-now : (closed_in text < profiles_in text → ⊥) → closed_in text ≡ profiles_in text
  all-now none = omega (arith, none, closed-most text (profiles_in text))

  pub incomplete : closed_in text < profiles_in text → is_complete text ≡ false
  incomplete lt =
      let h = here-now lt in
      let o = start-order text (suc (closed_in text)) (profiles_in text) lt in
      by-test (eqb (header_in text).accuracy 1)
      (λ a. let b : blocks_of_sheet text ≡ end_of text + 1 = rw a in lt-leb (blocks_of_sheet text) (blocks_in text) (omega (arith, b, o, h.ends, x.many)))
      (λ a. let b : blocks_of_sheet text ≡ end_of text + 0 = rw a in lt-leb (blocks_of_sheet text) (blocks_in text) (omega (arith, b, o, h.ends, x.many)))

  pub complete-is : complete (begun_session family text) ≡ is_complete text
  complete-is =
      by-test (ltb (closed_in text) (profiles_in text))
      (λ t.
      let lt = ltb-true (closed_in text) (profiles_in text) t in
      let n : eqb (begun_session family text).closed (profiles_in text) ≡ false
      = ne_eqb (begun_session family text).closed (profiles_in text) (λ e. omega (arith, e, lt)) in
      let m : eqb (begun_session family text).taken 0 ≡ false = ne_eqb (begun_session family text).taken 0 (λ e. omega (arith, e, x.many, some)) in
      rw (m, n) (sym (incomplete lt)))
      (λ t.
      all-complete (all-now (λ lt. omega (arith, lt, ltb-false (closed_in text) (profiles_in text) t))))
