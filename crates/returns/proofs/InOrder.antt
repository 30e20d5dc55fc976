-- Blocks that follow the layout, delivered in order from a fresh session: each is taken, the sheet is complete, and every cell of it is
-- the one that they hold. Demand 3 (meaning) carries it.
use mathlib.Core.List.{List, [], ◌∷◌, ◌++◌, map}
use mathlib.Core.Path.{◌≡◌, sym, ◌∙◌, ap, refl, ap₂}
use Prim.Native.Nat.{ℕ, suc, zero, ◌+◌, ◌*◌, ◌-◌, ◌≤◌, ◌<◌}
use mathlib.Core.Bool.{true, false, cond}
use native.Mathlib.Omega.{arith}
use native.Mathlib.Nat.{mul-le-mul_right, suc-mul}
use borrow.Author.Tests.{ne_eqb}
use lib.Dec.{leb, eqb}
use lib.IntN.{ℤ}
use lib.ListN.{length, get_or, drop, replicate}
use Rattle.ground.specs.Blocks.{blocks_in}
use Rattle.ground.proofs.BlocksJoined.{join-extends}
use Rattle.laws.specs.Lists.{below}
use Rattle.laws.proofs.Lists.{append-nil, append-brackets, below_more, map-append}
use Rattle.frame.specs.Frame.{columns_of, rows_of, cells_of}
use Rattle.frame.specs.declared.Header.{Header}
use Rattle.session.specs.Session.{complete}
use Rattle.session.specs.declared.Session.{Session}
use Rattle.ground.specs.Posts.{void}
use Rattle.delivery.specs.declared.Answer.{Answer}
use Rattle.delivery.specs.declared.Answer.TheVariants.{Taken}
use Rattle.meaning.specs.Deliveries.{Delivery, bytes_if, Due}
use Rattle.meaning.proofs.Desks.{Desk, answered, after, after_all, text_after, all_answered, at_first}
use Rattle.meaning.proofs.OneDelivery.{Stands, answer-told}
use Rattle.meaning.proofs.Runs.{stands_after, due-taken}
use Rattle.meaning.specs.Text.{cells_in}
use Rattle.meaning.specs.Rules.{first_breach}
use Rattle.meaning.specs.Means.{begun_session, session_of}
use Rattle.meaning.proofs.EachPost.{grid-cell, past-the-sheet, length-kept}
use Rattle.meaning.proofs.LaterVerdict.{complete-is}
use Rattle.returns.proofs.Following.{Follows, start_by, text_to, header_at, text-length, prefix-kept, prefix-blocks, prefix-next, whole-header, whole-complete, cell-back}

-- a list of deliveries with one more: the text taken, and the desk
taken_more : (k : Desk) (ds : List Delivery) (d : Delivery)
    → text_after k (ds ++ (d ∷ [])) ≡ text_after k ds ++ bytes_if (answered (after_all k ds) d) d.bytes
taken_more k [] d = append-nil (bytes_if (answered k d) d.bytes)
taken_more k (e ∷ ds) d =
    ap (λ (l : List ℕ). bytes_if (answered k e) e.bytes ++ l) (taken_more (after k e) ds d)
    ∙ sym (append-brackets (bytes_if (answered k e) e.bytes) (text_after (after k e) ds)
    (bytes_if (answered (after_all (after k e) ds) d) d.bytes))

answers-more : (k : Desk) (ds : List Delivery) (d : Delivery)
    → all_answered k (ds ++ (d ∷ [])) ≡ all_answered k ds ++ (answered (after_all k ds) d ∷ [])
answers-more k [] d = refl
answers-more k (e ∷ ds) d = ap (λ (l : List Answer). answered k e ∷ l) (answers-more (after k e) ds d)

replicate_more : (k : ℕ) (a : Answer) → replicate k a ++ (a ∷ []) ≡ replicate (suc k) a
replicate_more zero a = refl
replicate_more (suc k) a = ap (λ (l : List Answer). a ∷ l) (replicate_more k a)

-- the first k blocks, numbered from 0
abbrev pub delivery : (ℕ → List ℕ) → ℕ → Delivery
delivery at b = record { number = b; bytes = at b }

abbrev pub in_order : (ℕ → List ℕ) → ℕ → List Delivery
in_order at k = map (delivery at) (below k)

in-order-more : (at : ℕ → List ℕ) (k : ℕ) → in_order at (suc k) ≡ in_order at k ++ (delivery at k ∷ [])
in-order-more at k = ap (map (delivery at)) (below_more k) ∙ map-append (delivery at) (below k) (k ∷ [])

module _ (at : ℕ → List ℕ) (cells : ℕ → List ℤ) (row : ℕ → ℕ) (h : Header) (w : Follows at cells row h)
    (lent : List ℤ) (room : cells_of h ≤ length lent) where
  abbrev count : ℕ
  count = start_by cells (columns_of h)

  abbrev text : ℕ → List ℕ
  text k = text_to at cells row h w k

  due : (k : ℕ) → k < count → Due 0 (text k) lent (delivery at k)
  due k lt =
      let t = prefix-next at cells row h w k in
      let c : cells_in (text (suc k)) ≡ cells_of h = ap cells_of (header_at at cells row h w (suc k) lt (omega arith)) in
      record {
        next = sym (prefix-blocks at cells row h w k (omega (arith, lt)));
        block = w.long k lt;
        kept = ap (λ (l : List ℕ). (first_breach 0 l).kind) (sym t) ∙ prefix-kept at cells row h w k lt;
        room = omega (arith, ap cells_in t, c, room);
      }

  stands : (k : ℕ) → text_after (at_first 0 lent) (in_order at k) ≡ text k → Stands 0 (text k) lent (after_all (at_first 0 lent) (in_order at k))
  stands k e = rw (← e) (stands_after 0 refl lent (in_order at k))

  -- the next block is taken, behind the text of those before it
  next-taken : (k : ℕ) → k < count → text_after (at_first 0 lent) (in_order at k) ≡ text k
      → answered (after_all (at_first 0 lent) (in_order at k)) (delivery at k) ≡ Taken
  next-taken k lt e =
      let there = stands k e in
      answer-told 0 (text k) lent (after_all (at_first 0 lent) (in_order at k)) there (delivery at k)
      ∙ due-taken 0 (text k) lent there.good (delivery at k) (due k lt)

  text-taken : (k : ℕ) → k ≤ count → text_after (at_first 0 lent) (in_order at k) ≡ text k
  text-taken zero le = refl
  text-taken (suc k) le =
      let ds = in_order at k in
      let before = text-taken k (omega (arith, le)) in
      let taken : answered (after_all (at_first 0 lent) ds) (delivery at k) ≡ Taken
      = next-taken k le before in
      ap (text_after (at_first 0 lent)) (in-order-more at k)
      ∙ taken_more (at_first 0 lent) ds (delivery at k)
      ∙ ap₂ (λ (l : List ℕ) (a : Answer). l ++ bytes_if a (at k)) before taken
      ∙ sym (prefix-next at cells row h w k)

  -- every block is taken in its turn
  pub each-taken : (k : ℕ) → k < count → answered (after_all (at_first 0 lent) (in_order at k)) (delivery at k) ≡ Taken
  each-taken k lt = next-taken k lt (text-taken k (omega (arith, lt)))

  pub all-taken : (k : ℕ) → k ≤ count → all_answered (at_first 0 lent) (in_order at k) ≡ replicate k Taken
  all-taken zero le = refl
  all-taken (suc k) le =
      ap (all_answered (at_first 0 lent)) (in-order-more at k)
      ∙ answers-more (at_first 0 lent) (in_order at k) (delivery at k)
      ∙ ap₂ (λ (l : List Answer) (a : Answer). l ++ (a ∷ [])) (all-taken k (omega (arith, le))) (each-taken k le)
      ∙ replicate_more k Taken

  abbrev desk : Desk
  desk = after_all (at_first 0 lent) (in_order at count)

  some-blocks : 1 ≤ blocks_in (text count)
  some-blocks = omega (arith, prefix-blocks at cells row h w count (omega arith), begins (columns_of h))
    where
      begins : (c : ℕ) → 1 ≤ start_by cells c
      begins zero = omega arith
      begins (suc c) = omega (arith, begins c)

  begun : session_of 0 (text count) ≡ begun_session 0 (text count)
  begun =
      let e : eqb (blocks_in (text count)) 0 ≡ false = ne_eqb (blocks_in (text count)) 0 (λ z. omega (arith, z, some-blocks)) in rw e

  -- the header afterwards is the one that the blocks hold
  pub same-header : desk.session.header ≡ h
  same-header =
      ap (λ (s : Session). s.header) ((stands count (text-taken count (omega arith))).session-is ∙ begun) ∙ whole-header at cells row h w

  -- the session afterwards is complete
  pub completes : complete desk.session ≡ true
  completes =
      let t = text-taken count (omega arith) in
      let n = text count in
      let k = prefix-blocks at cells row h w count (omega arith) in
      let zero-long : length (at 0) ≡ 1024 = w.long 0 (omega (arith, k, some-blocks)) in
      let x = join-extends n (at 0) (blocks_in n) (text-length at cells row h w count (omega arith) ∙ ap (λ (m : ℕ). 1024 * m) (sym k)) zero-long in
      let kept : (first_breach 0 n).kind ≡ 0 = last-kept in
      ap complete ((stands count t).session-is ∙ begun)
      ∙ complete-is 0 n (n ++ at 0) (at 0) (blocks_in n) x some-blocks kept
      ∙ whole-complete at cells row h w
    where
      last-kept : (first_breach 0 (text count)).kind ≡ 0
      last-kept =
          let k = prefix-blocks at cells row h w count (omega arith) in
          let e : suc (count - 1) ≡ count = omega (arith, k, some-blocks) in
          ap (λ (m : ℕ). (first_breach 0 (text m)).kind) (sym e) ∙ prefix-kept at cells row h w (count - 1) (omega (arith, e))

  -- every cell of the sheet is the one that the blocks hold
  pub each-cell : (j i : ℕ) → j < columns_of h → i < rows_of h
      → get_or desk.lent.grid (j * rows_of h + i) void ≡ cond (leb (row j) i) (get_or (cells j) (i - row j) void) void
  each-cell j i lt less =
      let t = text-taken count (omega arith) in
      let c : cells_in (text count) ≡ cells_of h = ap cells_of (whole-header at cells row h w) in
      let up : suc j * rows_of h ≤ columns_of h * rows_of h = mul-le-mul_right (rows_of h) lt in
      let inside : j * rows_of h + i < cells_in (text count) = omega (arith, c, up, suc-mul j (rows_of h), less) in
      ap (λ (g : List ℤ). get_or g (j * rows_of h + i) void) (stands count t).grid-is
      ∙ grid-cell (text count) lent (j * rows_of h + i) some-blocks inside
      ∙ cell-back at cells row h w j i lt less

  -- cells past the sheet are as lent, and none is added or lost
  pub past-cells : drop (cells_of h) desk.lent.grid ≡ drop (cells_of h) lent
  past-cells =
      let t = text-taken count (omega arith) in
      let c : cells_in (text count) ≡ cells_of h = ap cells_of (whole-header at cells row h w) in
      ap₂ (λ (n : ℕ) (g : List ℤ). drop n g) (sym c) (stands count t).grid-is
      ∙ past-the-sheet (text count) lent some-blocks
      ∙ ap (λ (n : ℕ). drop n lent) c

  pub same_length : length desk.lent.grid ≡ length lent
  same_length =
      let t = text-taken count (omega arith) in
      ap length (stands count t).grid-is ∙ length-kept (text count) lent (stands count t).good.room
