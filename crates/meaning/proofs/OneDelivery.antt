-- One delivery to a desk whose session and grid are what a text means: it is answered as the text says, and session and grid are then
-- what the text with the block, if taken, means. The verdicts of LaterVerdict, test by test, carry it.
use mathlib.Core.Bool.{true, Bool, false, cond, not}
use mathlib.Core.List.{List, ◌++◌, []}
use mathlib.Core.Path.{◌≡◌, refl, sym, ◌∙◌, ap, ap₂, subst⁻¹, subst}
use Prim.Native.Nat.{ℕ, ◌*◌, ◌≤◌, ◌+◌, ◌<◌}
use lib.IntN.{ℤ}
use lib.ListN.{length, drop, replicate, length-append}
use native.Mathlib.Nat.{add_assoc}
use native.Mathlib.Omega.{arith}
use borrow.Author.Tests.{ltb-true, ltb-false, le-ltb, eq-eqb, ne_eqb, eqb-true, eqb-false}
use lib.Dec.{ltb, eqb}
use lib.Seq.{sets}
use Rattle.ground.specs.Blocks.{blocks_in, block_at}
use Rattle.ground.proofs.BlocksJoined.{Extends, join-extends}
use Rattle.laws.specs.Family.{known}
use Rattle.laws.proofs.Tests.{by-test}
use Rattle.laws.proofs.Lists.{append-nil, joined-empty}
use Rattle.frame.specs.Frame.{rows_of, cells_of}
use Rattle.frame.specs.declared.Header.{Header}
use Rattle.heading.specs.Heading.{header_of}
use Rattle.sheet.specs.RecordA.{fault_of, record_of}
use Rattle.session.specs.Session.{sound, no_profile, begun, complete}
use Rattle.session.proofs.Sound.{opened-sound}
use Rattle.session.specs.declared.Session.{Session}
use Rattle.ground.specs.Posts.{void, filled_in}
use Rattle.ground.specs.Extremes.{filled_only, least_of, greatest_of, sum_of}
use Rattle.delivery.specs.Deliver.{Verdict, Room, lend, room_of, too_short, answer_of, lent_by, again, wrong, begins, fills, beginning, later, next_cell, verdict_of, deliver_of}
use Rattle.delivery.specs.declared.Answer.{Answer}
use Rattle.delivery.specs.declared.Answer.TheVariants.{Taken, Held, Refused}
use Rattle.delivery.specs.declared.Delivered.{Delivered}
use Rattle.delivery.proofs.SoundOut.{sound-out}
use Rattle.meaning.specs.Text.{cells_in, header_in, profiles_in, rows_in, start_of, posts_in, heights_in, all_heights, column_in, row_in, cell_of_post}
use Rattle.meaning.specs.Rules.{first_breach, Breach, is_complete, in_block, end_of}
use Rattle.meaning.specs.Means.{session_of, grid_of, closed_in, is_open, begun_session}
use Rattle.meaning.specs.Deliveries.{bytes_if, refused_by, answer_to, Delivery}
use Rattle.meaning.proofs.Desks.{Desk, at_first, answered, after}
use Rattle.meaning.proofs.Starts.{next_start, start-from, none_yet, closed_is}
use Rattle.meaning.proofs.Joined.{header-same, same_start, new_heights}
use Rattle.meaning.proofs.SessionGrows.{read_so_far}
use Rattle.meaning.proofs.Verdicts.{by_breach}
use Rattle.meaning.proofs.Placed.{placed_at}
use Rattle.meaning.proofs.EachPost.{length-kept}
use Rattle.meaning.proofs.RulesGrow.{first-due-broken, first-due-kept}
use Rattle.meaning.proofs.GridGrows.{grid-grows, grid-idle, grid-begun}
use Rattle.meaning.proofs.LaterVerdict.{profile-verdict, finish-verdict, here-now, all-now, complete-is, behind}

-- whole blocks that break no rule, in a grid long enough for their sheet; the session that they mean is sound
pub record Good (family : ℕ) (text : List ℕ) (lent : List ℤ) : Type 0 where
  pub whole : length text ≡ 1024 * blocks_in text
  pub kept : 1 ≤ blocks_in text → (first_breach family text).kind ≡ 0
  pub room : 1 ≤ blocks_in text → cells_in text ≤ length lent
  pub sound-is : sound (session_of family text) ≡ true

-- what a verdict and an answer have to do with each other, for a block delivered after a text
record Fits (family : ℕ) (text : List ℕ) (lent : List ℤ) (block : List ℕ) (v : Verdict) (a : Answer) : Type 0 where
  answer-is : (answer_of (session_of family text) v).answer ≡ a
  session-is : (answer_of (session_of family text) v).session ≡ session_of family (text ++ bytes_if a block)
  grid-is : (lent_by (lend (grid_of text lent)) v).grid ≡ grid_of (text ++ bytes_if a block) lent
  whole_is : length (text ++ bytes_if a block) ≡ 1024 * blocks_in (text ++ bytes_if a block)
  kept-is : 1 ≤ blocks_in (text ++ bytes_if a block) → (first_breach family (text ++ bytes_if a block)).kind ≡ 0
  room-is : 1 ≤ blocks_in (text ++ bytes_if a block) → cells_in (text ++ bytes_if a block) ≤ length lent

module _ (family : ℕ) (text : List ℕ) (lent : List ℤ) (block : List ℕ) where
  family-is : (session_of family text).family ≡ family
  family-is = by-test (eqb (blocks_in text) 0) (λ e. rw e) (λ e. rw e)

  pick : (b : Bool) {v w : Verdict} {a d : Answer} → (b ≡ true → Fits family text lent block v a) → (b ≡ false → Fits family text lent block w d)
      → Fits family text lent block (cond b v w) (cond b a d)
  pick true f g = f refl
  pick false f g = g refl

  same-fits : {v w : Verdict} {a d : Answer} → v ≡ w → a ≡ d → Fits family text lent block w d → Fits family text lent block v a
  same-fits p q f = rw (p, q) f

  module _ (good : Good family text lent) where
    nothing : (a : Answer) → bytes_if a block ≡ [] → (v : Verdict) → answer_of (session_of family text) v ≡ record { answer = a; session = session_of family text }
        → (lent_by (lend (grid_of text lent)) v).grid ≡ grid_of text lent → Fits family text lent block v a
    nothing a none v e g =
        let t : text ++ bytes_if a block ≡ text = ap (λ (l : List ℕ). text ++ l) none ∙ append-nil text in
        record {
          answer-is = ap (λ d. d.answer) e;
          session-is = ap (λ d. d.session) e ∙ ap (session_of family) (sym t);
          grid-is = g ∙ ap (λ (l : List ℕ). grid_of l lent) (sym t);
          whole_is = rw t good.whole;
          kept-is = λ some. subst⁻¹ (λ (x : List ℕ). (first_breach family x).kind ≡ 0) t (good.kept (rw t at some));
          room-is = λ some. rw t (good.room (rw t at some));
        }

    refused : (kind number byte : ℕ) → Fits family text lent block (wrong kind number byte) (Refused kind number byte)
    refused kind number byte = nothing (Refused kind number byte) refl (wrong kind number byte) refl refl

    held : Fits family text lent block again Held
    held = nothing Held refl again refl refl

    by-breach : (b : Breach) {v : Verdict} {a : Answer} → (b.kind ≡ 0 → Fits family text lent block v a)
        → Fits family text lent block (by_breach b v) (refused_by b a)
    by-breach b f = pick (eqb b.kind 0) (λ e. f (eqb-true b.kind 0 e)) (λ e. refused b.kind b.block b.byte)

    module _ (one : length block ≡ 1024) where
      joins : Extends text (text ++ block) block (blocks_in text)
      joins = join-extends text block (blocks_in text) good.whole one

      whole-more : length (text ++ block) ≡ 1024 * blocks_in (text ++ block)
      whole-more = omega (arith, good.whole, one, length-append text block, joins.one_more)

      more-begun : session_of family (text ++ block) ≡ begun_session family (text ++ block)
      more-begun =
          let e : eqb (blocks_in (text ++ block)) 0 ≡ false = ne_eqb (blocks_in (text ++ block)) 0 (λ z. omega (arith, z, joins.one_more)) in rw e

      -- ---- block 0

      module _ (none : blocks_in text ≡ 0) where
        text-lent : grid_of text lent ≡ lent
        text-lent = let e : eqb (blocks_in text) 0 ≡ true = eq-eqb (blocks_in text) 0 none in rw e

        this-block : block_at (text ++ block) 0 ≡ block
        this-block = ap (block_at (text ++ block)) (sym none) ∙ joins.next

        header-here : header_of block ≡ header_in (text ++ block)
        header-here = ap header_of (sym this-block)

        begun-is : begun family (header_of block) ≡ session_of family (text ++ block)
        begun-is =
            let more = text ++ block in
            let n : blocks_in more ≡ 1 = omega (arith, joins.one_more, none) in
            let closed : closed_in more ≡ 0
            = closed_is more (profiles_in more) 0 (omega arith) (omega (arith, n)) (λ lt. omega (arith, n, next_start more 0)) (omega (arith, n)) in
            let empty : all_heights more ≡ []
            = joined-empty (heights_in more) 0 (profiles_in more)
            (λ j p. rw (none_yet more j (omega (arith, n, start-from more j)))) in
            let col : ltb 1 (blocks_in more) ≡ false = le-ltb 1 (blocks_in more) (omega (arith, n)) in
            let fin : ltb (end_of more) (blocks_in more) ≡ false
            = le-ltb (end_of more) (blocks_in more) (omega (arith, n, start-from more (profiles_in more))) in
            let opn : is_open more ≡ false
            = by-test (ltb 0 (profiles_in more))
            (λ t. let b : ltb 1 (blocks_in more) ≡ false = col in rw (closed, t, b))
            (λ t. rw (closed, t)) in
            let c : 0 ≡ (begun_session family more).column = rw col in
            let f : 0 ≡ (begun_session family more).finished = rw fin in
            let p : no_profile ≡ (begun_session family more).profile = rw opn in
            (λ i.
            record {
              header = header-here i;
              taken = sym n i;
              closed = sym closed i;
              posts = length (sym empty i);
              filled = filled_in (sym empty i);
              low = least_of (filled_only (sym empty i));
              high = greatest_of (filled_only (sym empty i));
              column = c i;
              finished = f i;
              profile = p i;
              sum = sum_of (filled_only (sym empty i));
              family = family;
            })
            ∙ sym more-begun

        begin-verdict : (m : Room)
            → beginning m (record_of family block)
            ≡ by_breach (in_block 0 (fault_of family block)) (cond (too_short m (header_of block)) (wrong 12 0 0) (begins (header_of block)))
        unfolding record_of
        begin-verdict m = by-test (eqb (fault_of family block).kind 0) (λ e. rw e) (λ e. rw e)

        begin-fits : Fits family text lent block (beginning (room_of (lend lent)) (record_of family block))
            (refused_by (first_breach family (text ++ block)) (cond (ltb (length lent) (cells_in (text ++ block))) (Refused 12 0 0) Taken))
        begin-fits =
            let more = text ++ block in
            let same : cells_of (header_of block) ≡ cells_in more = ap cells_of header-here in
            let short : ltb (length lent) (cells_of (header_of block)) ≡ ltb (length lent) (cells_in more) = ap (ltb (length lent)) same in
            same-fits (begin-verdict (room_of (lend lent))) refl
            (by-test (eqb (fault_of family block).kind 0)
            (λ e.
            let z = eqb-true (fault_of family block).kind 0 e in
            let kept = first-due-kept family text more block (blocks_in text) joins none z in
            let k : eqb (first_breach family more).kind 0 ≡ true = eq-eqb (first_breach family more).kind 0 kept in
            rw (e, k, short)
            (pick (ltb (length lent) (cells_in more)) (λ s. refused 12 0 0)
            (λ s.
            record {
              answer-is = refl;
              session-is = ap (λ (n : ℕ). begun n (header_of block)) family-is ∙ begun-is;
              grid-is =
                  ap₂ (λ (n : ℕ) (g : List ℤ). replicate n void ++ drop n g) same text-lent
                  ∙ grid-begun family text more block (blocks_in text) joins none lent;
              whole_is = whole-more;
              kept-is = λ q. kept;
              room-is = λ q. ltb-false (length lent) (cells_in more) s;
            })))
            (λ e.
            let bad = eqb-false (fault_of family block).kind 0 e in
            let b : first_breach family more ≡ in_block 0 (fault_of family block) = first-due-broken family text more block (blocks_in text) joins none bad in
            rw (b, e) (refused (fault_of family block).kind 0 (fault_of family block).byte)))

      -- ---- a later block

      module _ (some : 1 ≤ blocks_in text) where
        text-begun : session_of family text ≡ begun_session family text
        text-begun =
            let e : eqb (blocks_in text) 0 ≡ false = ne_eqb (blocks_in text) 0 (λ z. omega (arith, z, some)) in rw e

        same-cells : cells_in (text ++ block) ≡ cells_in text
        same-cells = ap cells_of (header-same text (text ++ block) block (blocks_in text) joins some)

        taken_as : (at : ℕ) (hs : List ℤ) → (first_breach family (text ++ block)).kind ≡ 0 → sets (grid_of text lent) at hs ≡ grid_of (text ++ block) lent
            → Fits family text lent block (fills (begun_session family (text ++ block)) at hs) Taken
        taken_as at hs kept g =
            record {
              answer-is = refl;
              session-is = sym more-begun;
              grid-is = g;
              whole_is = whole-more;
              kept-is = λ q. kept;
              room-is = λ q. omega (arith, same-cells, good.room some);
            }

        later-fits : is_complete text ≡ false → Fits family text lent block (later (begun_session family text) (blocks_in text) block) (refused_by (first_breach family (text ++ block)) Taken)
        later-fits i =
            let k = blocks_in text in
            let more = text ++ block in
            let x = joins in
            by-test (ltb (closed_in text) (profiles_in text))
            (λ t.
            let lt = ltb-true (closed_in text) (profiles_in text) t in
            let c = closed_in text in
            let here = here-now family text more block k x some (good.kept some) lt in
            let hs = new_heights text more block k x some c here in
            let at = next_cell (begun_session family text) (column_in more 0) (read_so_far text more c) in
            same-fits (profile-verdict family text more block k x some (good.kept some) c here) refl
            (by-breach (first_breach family more)
            (λ kept.
            let h = header-same text more block k x some in
            let n : profiles_in more ≡ profiles_in text = ap (λ (a : Header). a.profiles) h in
            let begun : start_of more c < blocks_in more = omega (arith, same_start text more block k x some c here, here.begins, x.one_more) in
            let p = placed_at family more kept c (omega (arith, n, lt)) begun in
            let e : at ≡ cell_of_post more c (posts_in text c)
            = ap₂ (λ (a : ℕ) (r : ℕ). a * r + row_in more c + posts_in text c) (sym p.column) (ap rows_of (sym h))
            ∙ add_assoc (column_in more c * rows_in more) (row_in more c) (posts_in text c) in
            taken_as at hs kept
            (ap (λ (a : ℕ). sets (grid_of text lent) a hs) e
            ∙ grid-grows family text more block k x some c here kept lent (omega (arith, same-cells, good.room some))))))
            (λ t.
            let all = all-now family text more block k x some (good.kept some) (λ lt. omega (arith, lt, ltb-false (closed_in text) (profiles_in text) t)) in
            same-fits (finish-verdict family text more block k x some (good.kept some) all i) refl
            (by-breach (first_breach family more)
            (λ kept.
            taken_as 0 [] kept (sym (grid-idle family text more block k x some (behind family text more block k x some (good.kept some) all) lent)))))

  -- ---- any delivery

  taken_is : (session_of family text).taken ≡ blocks_in text
  taken_is = by-test (eqb (blocks_in text) 0) (λ e. rw e (sym (eqb-true (blocks_in text) 0 e))) (λ e. rw e)

  -- a block of 1,024 bytes, past the first two tests
  past_two : Good family text lent → (number : ℕ) → eqb (length block) 1024 ≡ true
      → verdict_of (session_of family text) number block (room_of (lend lent))
      ≡ cond (ltb number (blocks_in text)) again
      (cond (ltb (blocks_in text) number) (wrong 3 number 0)
      (cond (eqb number 0) (beginning (room_of (lend lent)) (record_of family block))
      (cond (complete (session_of family text)) (wrong 4 number 0)
      (cond (ltb (length lent) (cells_of (session_of family text).header)) (wrong 12 number 0) (later (session_of family text) number block)))))
  unfolding verdict_of
  past_two good number l =
      let s = session_of family text in
      λ i.
      cond (not (l i)) (wrong 1 number 0)
      (cond (not (good.sound-is i)) (wrong 2 number 0)
      (cond (ltb number (taken_is i)) again
      (cond (ltb (taken_is i) number) (wrong 3 number 0)
      (cond (eqb number 0) (beginning (room_of (lend lent)) (record_of (family-is i) block))
      (cond (complete s) (wrong 4 number 0)
      (cond (ltb (length lent) (cells_of s.header)) (wrong 12 number 0) (later s number block)))))))

  wrong-length : (number : ℕ) → eqb (length block) 1024 ≡ false
      → verdict_of (session_of family text) number block (room_of (lend lent)) ≡ wrong 1 number 0
  unfolding verdict_of
  wrong-length number l = rw l

  next_fits : (good : Good family text lent) (one : length block ≡ 1024) (some : 1 ≤ blocks_in text) (number : ℕ) → number ≡ blocks_in text
      → Fits family text lent block
      (cond (complete (session_of family text)) (wrong 4 number 0)
      (cond (ltb (length lent) (cells_of (session_of family text).header)) (wrong 12 number 0) (later (session_of family text) number block)))
      (cond (is_complete text) (Refused 4 number 0)
      (cond (ltb (length lent) (cells_in (text ++ block))) (Refused 12 number 0) (refused_by (first_breach family (text ++ block)) Taken)))
  next_fits good one some number e =
      let more = text ++ block in
      let begun = text-begun good one some in
      let c : complete (session_of family text) ≡ is_complete text
      = ap complete begun ∙ complete-is family text more block (blocks_in text) (joins good one) some (good.kept some) in
      let s : cells_of (session_of family text).header ≡ cells_in more
      = ap (λ (w : Session). cells_of w.header) begun ∙ sym (same-cells good one some) in
      same-fits
      (ap₂
      (λ (a : Bool) (n : ℕ).
      cond a (wrong 4 number 0) (cond (ltb (length lent) n) (wrong 12 number 0) (later (session_of family text) number block))) c s)
      refl
      (pick (is_complete text) (λ q. refused good 4 number 0)
      (λ q.
      pick (ltb (length lent) (cells_in more)) (λ r. refused good 12 number 0)
      (λ r. same-fits (ap₂ (λ (w : Session) (m : ℕ). later w m block) begun e) refl (later-fits good one some q))))

  verdict-fits : Good family text lent → (number : ℕ)
      → Fits family text lent block (verdict_of (session_of family text) number block (room_of (lend lent))) (answer_to family text number block (room_of (lend lent)))
  verdict-fits good number =
      let broken = first_breach family (text ++ block) in
      let short = ltb (length lent) (cells_in (text ++ block)) in
      let rest = cond (ltb number (blocks_in text)) Held
      (cond (ltb (blocks_in text) number) (Refused 3 number 0)
      (cond (eqb number 0) (refused_by broken (cond short (Refused 12 0 0) Taken))
      (cond (is_complete text) (Refused 4 number 0) (cond short (Refused 12 number 0) (refused_by broken Taken))))) in
      by-test (eqb (length block) 1024)
      (λ l.
      let one = eqb-true (length block) 1024 l in
      same-fits (past_two good number l) (λ i. cond (not (l i)) (Refused 1 number 0) rest)
      (pick (ltb number (blocks_in text)) (λ a. held good)
      (λ a.
      pick (ltb (blocks_in text) number) (λ b. refused good 3 number 0)
      (λ b.
      let e : number ≡ blocks_in text = omega (arith, ltb-false number (blocks_in text) a, ltb-false (blocks_in text) number b) in
      pick (eqb number 0) (λ z. begin-fits good one (sym e ∙ eqb-true number 0 z))
      (λ z. let n = eqb-false number 0 z in next_fits good one (omega (arith, n, e)) number e)))))
      (λ l. same-fits (wrong-length number l) (λ i. cond (not (l i)) (Refused 1 number 0) rest) (refused good 1 number 0))

-- ---- a desk whose session and grid are what a text means

pub record Stands (family : ℕ) (text : List ℕ) (lent : List ℤ) (k : Desk) : Type 0 where
  pub good : Good family text lent
  pub session-is : k.session ≡ session_of family text
  pub grid-is : k.lent.grid ≡ grid_of text lent

pub stands-first : (family : ℕ) → known family ≡ true → (lent : List ℤ) → Stands family [] lent (at_first family lent)
stands-first family known lent =
    record {
      good = record { whole = refl; kept = λ q. absurd (omega (arith, q)); room = λ q. absurd (omega (arith, q)); sound-is = opened-sound family known };
      session-is = refl;
      grid-is = refl;
    }

module _ (family : ℕ) (text : List ℕ) (lent : List ℤ) (k : Desk) (at : Stands family text lent k) (d : Delivery) where
  fit : Fits family text lent d.bytes (verdict_of (session_of family text) d.number d.bytes (room_of (lend lent))) (answer_to family text d.number d.bytes (room_of (lend lent)))
  fit = verdict-fits family text lent d.bytes at.good d.number

  same-verdict : verdict_of k.session d.number d.bytes (room_of k.lent)
      ≡ verdict_of (session_of family text) d.number d.bytes (room_of (lend lent))
  same-verdict =
      ap₂ (λ (s : Session) (n : ℕ). verdict_of s d.number d.bytes (record { cells = n })) at.session-is
      (ap length at.grid-is ∙ length-kept text lent at.good.room)

  told : deliver_of k.session d.number d.bytes k.lent
      ≡ answer_of (session_of family text) (verdict_of (session_of family text) d.number d.bytes (room_of (lend lent)))
  told = ap₂ answer_of at.session-is same-verdict

  pub answer-told : answered k d ≡ answer_to family text d.number d.bytes (room_of (lend lent))
  answer-told = ap (λ (w : Delivered). w.answer) told ∙ fit.answer-is

  session-told : (after k d).session ≡ session_of family (text ++ bytes_if (answered k d) d.bytes)
  session-told =
      ap (λ (w : Delivered). w.session) told ∙ fit.session-is
      ∙ ap (λ (a : Answer). session_of family (text ++ bytes_if a d.bytes)) (sym answer-told)

  pub stands-next : Stands family (text ++ bytes_if (answered k d) d.bytes) lent (after k d)
  stands-next =
      let e : answer_to family text d.number d.bytes (room_of (lend lent)) ≡ answered k d = sym answer-told in
      record {
        good =
            record {
              whole = rw (← e) fit.whole_is;
              kept = subst (λ (a : Answer). 1 ≤ blocks_in (text ++ bytes_if a d.bytes) → (first_breach family (text ++ bytes_if a d.bytes)).kind ≡ 0) e fit.kept-is;
              room = subst (λ (a : Answer). 1 ≤ blocks_in (text ++ bytes_if a d.bytes) → cells_in (text ++ bytes_if a d.bytes) ≤ length lent) e fit.room-is;
              sound-is =
                  ap sound (sym session-told)
                  ∙ sound-out k.session d.number d.bytes k.lent (ap sound at.session-is ∙ at.good.sound-is);
            };
        session-is = session-told;
        grid-is =
            ap₂ (λ (g : List ℤ) (v : Verdict). (lent_by (lend g) v).grid) at.grid-is same-verdict
            ∙ fit.grid-is
            ∙ ap (λ (a : Answer). grid_of (text ++ bytes_if a d.bytes) lent) e;
      }

-- what is not taken changes nothing, whatever the desk
pub not-taken-nothing : (k : Desk) (d : Delivery) → (answered k d ≡ Taken → ⊥) → after k d ≡ k
not-taken-nothing k d not = go (verdict_of k.session d.number d.bytes (room_of k.lent)) not
  where
    go : (v : Verdict) → ((answer_of k.session v).answer ≡ Taken → ⊥)
        → record { session = (answer_of k.session v).session; lent = lent_by k.lent v } ≡ k
    go again n = refl
    go (wrong kind block byte) n = refl
    go (begins h) n = absurd (n refl)
    go (fills s at hs) n = absurd (n refl)
