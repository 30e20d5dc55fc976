-- The verdict on a good block's place in a profile is the first rule that the text with it breaks: what each test of a delivery asks
-- is a rule of the text. Sessions grown by a block (SessionGrows) carry it.
use mathlib.Core.Bool.{cond, Bool, true, false, not}
use lib.Dec.{eqb, leb, ltb}
use mathlib.Core.List.{List, ◌∷◌, [], ◌++◌}
use mathlib.Core.Path.{◌≡◌, refl, sym, ◌∙◌, ap, ap₂}
use Prim.Native.Nat.{ℕ, ◌+◌, suc, ◌-◌, ◌/◌, ◌≤◌, ◌<◌}
use native.Mathlib.Omega.{arith}
use borrow.Author.Tests.{ltb-true, ltb-false, lt-ltb, le-ltb, le-leb, lt-leb, ne_eqb, eqb-true, eqb-false}
use Rattle.ground.specs.Blocks.{blocks_in}
use Rattle.ground.proofs.BlocksJoined.{Extends}
use Rattle.laws.specs.Sign.{same_z}
use Rattle.laws.proofs.Tests.{by-test}
use Rattle.frame.specs.declared.Header.{Header}
use Rattle.session.specs.Session.{busy, open_blocks, no_profile}
use Rattle.session.specs.declared.Profile.{Profile}
use Rattle.session.specs.declared.Session.{Session}
use Rattle.ground.specs.Extremes.{least_stated, greatest_stated}
use Rattle.delivery.specs.Deliver.{Verdict, wrong, close_verdict, refusal, close_fault, fills, closed_session, filling, next_cell}
use Rattle.meaning.specs.Rules.{Breach, first_broken, breach, rule, when, closing_rules, sheet_rules, is_whole, end_of}
use Rattle.meaning.specs.Text.{header_in, profiles_in, start_of, head_in, heights_in, all_heights, posts_in, column_in}
use Rattle.meaning.specs.Means.{is_open, open_profile, begun_session}
use Rattle.meaning.proofs.Counted.{stated-least, stated-greatest}
use Rattle.meaning.proofs.SessionGrows.{open_session, read_so_far, closed-here, session-filled, session-open, session-closed, last-or-not, read_is, exactly}
use Rattle.meaning.proofs.Starts.{next_start, start-order}
use Rattle.meaning.proofs.Joined.{Here, header-same, same_start, new_heights}

-- refused for a broken rule, or else
abbrev pub by_breach : Breach → Verdict → Verdict
by_breach b v = cond (eqb b.kind 0) v (wrong b.kind b.block b.byte)

pub by-cons : (b : Breach) (bs : List Breach) (v : Verdict) → by_breach (first_broken (b ∷ bs)) v ≡ by_breach b (by_breach (first_broken bs) v)
by-cons b bs v = by-test (eqb b.kind 0) (λ e. rw e) (λ e. rw (e, e))

pub by_append : (xs ys : List Breach) (v : Verdict)
    → by_breach (first_broken (xs ++ ys)) v ≡ by_breach (first_broken xs) (by_breach (first_broken ys) v)
by_append [] ys v = refl
by_append (b ∷ xs) ys v =
    by-cons b (xs ++ ys) v ∙ ap (by_breach b) (by_append xs ys v) ∙ sym (by-cons b xs (by_breach (first_broken ys) v))

-- ---- closing

-- five rules, the last three asked with the last profile only
close-order : (a b last d e : Bool) (block : ℕ) (v : Verdict)
    → close_verdict
    (cond a
    (cond b (cond last (cond d (cond e (refusal 0 0 0) (refusal 11 0 763)) (refusal 11 0 739)) (refusal 0 0 0)) (refusal 11 block 121))
    (refusal 11 block 97)) v
    ≡ by_breach
    (first_broken
    ((rule a (breach 11 block 97) ∷ (rule b (breach 11 block 121) ∷ []))
    ++ when last (rule d (breach 11 0 739) ∷ (rule e (breach 11 0 763) ∷ [])))) v
close-order false b last d e block v = refl
close-order true false last d e block v = refl
close-order true true false d e block v = refl
close-order true true true false e block v = refl
close-order true true true true false block v = refl
close-order true true true true true block v = refl

-- the closing rules of a profile and, with the last one, of the sheet
close-rules : (family : ℕ) (text : List ℕ) (c block : ℕ) (v : Verdict) → block ≡ start_of text c
    → close_verdict (close_fault block (open_session family text c)) v
    ≡ by_breach (first_broken (closing_rules text c ++ when (eqb (c + 1) (profiles_in text)) (sheet_rules text))) v
close-rules family text c block v e =
    rw (e, stated-least (heights_in text c), stated-greatest (heights_in text c), stated-least (all_heights text), stated-greatest (all_heights text))
    (close-order (same_z (head_in text c).least (least_stated (heights_in text c)))
    (same_z (head_in text c).greatest (greatest_stated (heights_in text c))) (eqb (c + 1) (profiles_in text))
    (same_z (header_in text).least (least_stated (all_heights text))) (same_z (header_in text).greatest (greatest_stated (all_heights text)))
    (start_of text c) v)

module _ (family : ℕ) (text more block : List ℕ) (k : ℕ) (x : Extends text more block k) (some : 1 ≤ k) (c : ℕ) (here : Here text k c) where
  -- the profile's first block behind the others: none is open
  pub idle-profile : start_of text c ≡ k → (begun_session family text).profile ≡ no_profile
  idle-profile e =
      let a : ltb c (profiles_in text) ≡ true = lt-ltb c (profiles_in text) here.below-n in
      let b : ltb (start_of text c) (blocks_in text) ≡ false = le-ltb (start_of text c) (blocks_in text) (omega (arith, e, x.many)) in
      let o : is_open text ≡ false = rw (closed-here family text more block k x some c here, a, b) in
      rw o

  pub busy-profile : start_of text c < k → (begun_session family text).profile ≡ open_profile text c
  busy-profile lt =
      let a : ltb c (profiles_in text) ≡ true = lt-ltb c (profiles_in text) here.below-n in
      let b : ltb (start_of text c) (blocks_in text) ≡ true = lt-ltb (start_of text c) (blocks_in text) (omega (arith, lt, x.many)) in
      let o : is_open text ≡ true = rw (closed-here family text more block k x some c here, a, b) in
      rw (o, closed-here family text more block k x some c here)

  pub is-idle : start_of text c ≡ k → busy (begun_session family text) ≡ false
  is-idle e = ap (λ (p : Profile). not (eqb p.posts 0)) (idle-profile e)

  pub is-busy : start_of text c < k → busy (begun_session family text) ≡ true
  is-busy lt =
      let n : eqb (head_in text c).posts 0 ≡ false = ne_eqb (head_in text c).posts 0 (λ z. omega (arith, z, here.ends, lt)) in
      ap (λ (p : Profile). not (eqb p.posts 0)) (busy-profile lt) ∙ ap not n

  -- the profile's first block, told from the blocks that it has
  pub first_block : k - open_blocks (begun_session family text) ≡ start_of more c
  first_block =
      by-test (ltb (start_of text c) k)
      (λ t.
      let lt = ltb-true (start_of text c) k t in
      let r : (begun_session family text).profile.read ≡ posts_in text c = ap (λ (p : Profile). p.read) (busy-profile lt) in
      let o : open_blocks (begun_session family text) ≡ ((begun_session family text).profile.read - 146) / 170 + 1 = rw (is-busy lt) in
      omega (arith, o, r, read_is family text more block k x some c here lt, same_start text more block k x some c here, lt))
      (λ t.
      let e : start_of text c ≡ k = omega (arith, ltb-false (start_of text c) k t, here.begins) in
      let o : open_blocks (begun_session family text) ≡ 0 = rw (is-idle e) in
      omega (arith, o, same_start text more block k x some c here, e))

  -- the block's posts placed, and the profile closed with its last
  pub filling-rules :
      let s = begun_session family text in
      let p = read_so_far text more c in
      let hs = new_heights text more block k x some c here in
      filling s k (column_in more 0) p hs
      ≡ by_breach (first_broken (when (is_whole more c) (closing_rules more c) ++ when (leb (end_of more) (blocks_in more)) (sheet_rules more)))
      (fills (begun_session family more) (next_cell s (column_in more 0) p) hs)
  filling-rules =
      let s = begun_session family text in
      let p = read_so_far text more c in
      let hs = new_heights text more block k x some c here in
      let at = next_cell s (column_in more 0) p in
      let n : profiles_in more ≡ profiles_in text = ap (λ (h : Header). h.profiles) (header-same text more block k x some) in
      ap₂
      (λ (b : Bool) (z : Session).
      cond b (fills z at hs) (close_verdict (close_fault (k - open_blocks s) z) (fills (closed_session z) at hs)))
      (last-or-not family text more block k x some c here) (session-filled family text more block k x some c here)
      ∙ (by-test (ltb (blocks_in more) (start_of more (suc c)))
      (λ t.
      let lt = ltb-true (blocks_in more) (start_of more (suc c)) t in
      let w : is_whole more c ≡ false = lt-leb (start_of more (suc c)) (blocks_in more) lt in
      let l : leb (end_of more) (blocks_in more) ≡ false
      = lt-leb (end_of more) (blocks_in more)
      (omega (arith, lt, start-order more (suc c) (profiles_in more) (omega (arith, n, here.below-n)))) in
      rw (t, w, l) (ap (λ (z : Session). fills z at hs) (session-open family text more block k x some c here lt)))
      (λ t.
      let le = ltb-false (blocks_in more) (start_of more (suc c)) t in
      let ex = exactly family text more block k x some c here le in
      let w : is_whole more c ≡ true = le-leb (start_of more (suc c)) (blocks_in more) le in
      let l : leb (end_of more) (blocks_in more) ≡ eqb (c + 1) (profiles_in more) = last-profile n ex in
      rw (t, w, l)
      (ap (λ (z : Session). close_verdict (close_fault (k - open_blocks s) (open_session family more c)) (fills z at hs)) (session-closed family text more block k x some c here le)
      ∙ close-rules family more c (k - open_blocks s) (fills (begun_session family more) at hs) first_block)))
    where
      last-profile : profiles_in more ≡ profiles_in text → start_of more (suc c) ≡ blocks_in more
          → leb (end_of more) (blocks_in more) ≡ eqb (c + 1) (profiles_in more)
      last-profile n ex =
          by-test (eqb (c + 1) (profiles_in more))
          (λ t.
          let e : profiles_in more ≡ suc c = (sym (eqb-true (c + 1) (profiles_in more) t)) ∙ (omega arith) in
          le-leb (end_of more) (blocks_in more) (rw e (omega (arith, ex))) ∙ sym t)
          (λ t.
          let ne = eqb-false (c + 1) (profiles_in more) t in
          lt-leb (end_of more) (blocks_in more)
          (omega (arith, ex, ne, n, here.below-n, next_start more (suc c), start-order more (suc (suc c)) (profiles_in more) (omega (arith, ne, n, here.below-n))))
          ∙ sym t)
