-- Lists of deliveries: what stands after each, by induction on the list; and when a delivery is taken, read off what it is answered.
use Prim.Native.Nat.{ℕ, ◌≤◌, ◌<◌, suc}
use mathlib.Core.Path.{◌≡◌, ap, sym, ◌∙◌, refl}
use native.Mathlib.Omega.{arith}
use mathlib.Core.Bool.{true, false, Bool, cond, not}
use mathlib.Core.List.{List, ◌++◌, [], ◌∷◌}
use lib.IntN.{ℤ}
use lib.ListN.{length}
use borrow.Author.Tests.{ltb-false, le-ltb, eq-eqb, eqb-true, eqb-false}
use lib.Dec.{ltb, eqb}
use Rattle.laws.specs.Family.{known}
use Rattle.ground.specs.Blocks.{blocks_in}
use Rattle.ground.proofs.BlocksJoined.{Extends, join-extends}
use Rattle.laws.proofs.Tests.{clash, by-test}
use Rattle.laws.proofs.Lists.{append-nil, append-brackets}
use Rattle.delivery.specs.declared.Answer.{Answer}
use Rattle.delivery.specs.declared.Answer.TheVariants.{Taken, Held, Refused}
use Rattle.delivery.specs.Deliver.{Lent, lend, room_of}
use Rattle.meaning.specs.Text.{cells_in}
use Rattle.meaning.specs.Rules.{Breach, breach, first_breach, is_complete}
use Rattle.session.specs.declared.Session.{Session}
use Rattle.meaning.specs.Deliveries.{Delivery, Due, refused_by, answer_to, Call, Calls, no_call, called, deliveries, Disturbed, ended, sent, disturbed, bytes_if, twice}
use Rattle.meaning.proofs.Desks.{Desk, desk, at_first, answered, after, after_all, text_after, call-desk, call-answer}
use Rattle.meaning.proofs.LaterVerdict.{complete-breach, all-now, incomplete}
use Rattle.meaning.proofs.OneDelivery.{Good, Stands, stands-first, stands-next, answer-told, not-taken-nothing}

-- ---- answers told apart

code_of : Answer → ℕ
code_of Taken = 0
code_of Held = 1
code_of (Refused kind block byte) = 2

not-held : {X : Type 0} → Held ≡ Taken → X
unfolding code_of
not-held e = let z : ◌≡◌ {A = ℕ} 1 0 = ap code_of e in absurd (omega (arith, z))

not-refused : {X : Type 0} (kind block byte : ℕ) → Refused kind block byte ≡ Taken → X
unfolding code_of
not-refused kind block byte e = let z : ◌≡◌ {A = ℕ} 2 0 = ap code_of e in absurd (omega (arith, z))

-- ---- a complete sheet takes no block

module _ (family : ℕ) (text : List ℕ) (lent : List ℤ) (good : Good family text lent) (block : List ℕ) (one : length block ≡ 1024) (some : 1 ≤ blocks_in text) where
  joins : Extends text (text ++ block) block (blocks_in text)
  joins = join-extends text block (blocks_in text) good.whole one

  pub complete-first : is_complete text ≡ true → first_breach family (text ++ block) ≡ breach 4 (blocks_in text) 0
  complete-first i =
      complete-breach family text (text ++ block) block (blocks_in text) joins some (good.kept some)
      (all-now family text (text ++ block) block (blocks_in text) joins some (good.kept some)
      (λ lt. clash (sym i ∙ incomplete family text (text ++ block) block (blocks_in text) joins some (good.kept some) lt))) i

  not-complete : (first_breach family (text ++ block)).kind ≡ 0 → is_complete text ≡ false
  not-complete kept =
      by-test (is_complete text)
      (λ i.
      let z : ◌≡◌ {A = ℕ} 4 0 = sym (ap (λ (b : Breach). b.kind) (complete-first i)) ∙ kept in absurd (omega (arith, z)))
      (λ i. i)

-- ---- taken exactly when

module _ (family : ℕ) (text : List ℕ) (lent : List ℤ) (good : Good family text lent) (d : Delivery) where
  abbrev broken : Breach
  broken = first_breach family (text ++ d.bytes)

  abbrev short : Bool
  short = ltb (length lent) (cells_in (text ++ d.bytes))

  -- past the tests of length and number
  next-number : length d.bytes ≡ 1024 → d.number ≡ blocks_in text
      → answer_to family text d.number d.bytes (room_of (lend lent))
      ≡ cond (eqb d.number 0) (refused_by broken (cond short (Refused 12 0 0) Taken))
      (cond (is_complete text) (Refused 4 d.number 0) (cond short (Refused 12 d.number 0) (refused_by broken Taken)))
  next-number one e =
      let l : eqb (length d.bytes) 1024 ≡ true = eq-eqb (length d.bytes) 1024 one in
      let a : ltb d.number (blocks_in text) ≡ false = le-ltb d.number (blocks_in text) (omega (arith, e)) in
      let b : ltb (blocks_in text) d.number ≡ false = le-ltb (blocks_in text) d.number (omega (arith, e)) in
      let rest = cond (eqb d.number 0) (refused_by broken (cond short (Refused 12 0 0) Taken))
      (cond (is_complete text) (Refused 4 d.number 0) (cond short (Refused 12 d.number 0) (refused_by broken Taken))) in
      λ i. cond (not (l i)) (Refused 1 d.number 0) (cond (a i) Held (cond (b i) (Refused 3 d.number 0) rest))

  pub due-taken : Due family text lent d → answer_to family text d.number d.bytes (room_of (lend lent)) ≡ Taken
  due-taken due =
      let k : eqb broken.kind 0 ≡ true = eq-eqb broken.kind 0 due.kept in
      let s : short ≡ false = le-ltb (length lent) (cells_in (text ++ d.bytes)) due.room in
      next-number due.block due.next
      ∙ by-test (eqb d.number 0)
      (λ z. λ i. cond (z i) (cond (k i) (cond (s i) (Refused 12 0 0) Taken) (Refused broken.kind broken.block broken.byte))
      (cond (is_complete text) (Refused 4 d.number 0) (cond short (Refused 12 d.number 0) (refused_by broken Taken))))
      (λ z.
      let n = eqb-false d.number 0 z in
      let c = not-complete family text lent good d.bytes due.block (omega (arith, n, due.next)) due.kept in
      λ i. cond (z i) (refused_by broken (cond short (Refused 12 0 0) Taken))
      (cond (c i) (Refused 4 d.number 0)
      (cond (s i) (Refused 12 d.number 0) (cond (k i) Taken (Refused broken.kind broken.block broken.byte)))))

  -- what is said past a refusal
  past : (b : Bool) (kind block byte : ℕ) {a : Answer} → cond b (Refused kind block byte) a ≡ Taken → (b ≡ false) × (a ≡ Taken)
  past true kind block byte e = not-refused kind block byte e
  past false kind block byte e = (refl, e)

  past-breach : (b : Breach) {a : Answer} → refused_by b a ≡ Taken → (b.kind ≡ 0) × (a ≡ Taken)
  past-breach b {a} e = go (eqb b.kind 0) refl
    where
      go : (t : Bool) → eqb b.kind 0 ≡ t → (b.kind ≡ 0) × (a ≡ Taken)
      go true z = (eqb-true b.kind 0 z, rw z at e)
      go false z = not-refused b.kind b.block b.byte (rw z at e)

  pub taken-due : answer_to family text d.number d.bytes (room_of (lend lent)) ≡ Taken → Due family text lent d
  taken-due e =
      by-test (eqb (length d.bytes) 1024)
      (λ l.
      let one = eqb-true (length d.bytes) 1024 l in
      by-test (ltb d.number (blocks_in text))
      (λ a. not-held (sym (λ i. cond (not (l i)) (Refused 1 d.number 0) (cond (a i) Held third-part)) ∙ e))
      (λ a.
      by-test (ltb (blocks_in text) d.number)
      (λ b. not-refused 3 d.number 0 (sym (λ i. cond (not (l i)) (Refused 1 d.number 0) (cond (a i) Held (cond (b i) (Refused 3 d.number 0) last-part))) ∙ e))
      (λ b.
      let n : d.number ≡ blocks_in text = omega (arith, ltb-false d.number (blocks_in text) a, ltb-false (blocks_in text) d.number b) in
      let f = sym (next-number one n) ∙ e in
      by-test (eqb d.number 0)
      (λ z.
      let g : refused_by broken (cond short (Refused 12 0 0) Taken) ≡ Taken
      = sym (λ i. cond (z i) (refused_by broken (cond short (Refused 12 0 0) Taken)) past_first) ∙ f in
      let p = past-breach broken g in
      let q = past short 12 0 0 p.1 in
      record { next = n; block = one; kept = p.0; room = ltb-false (length lent) (cells_in (text ++ d.bytes)) q.0 })
      (λ z.
      let g : past_first ≡ Taken = sym (λ i. cond (z i) (refused_by broken (cond short (Refused 12 0 0) Taken)) past_first) ∙ f in
      let c = past (is_complete text) 4 d.number 0 g in
      let q = past short 12 d.number 0 c.1 in
      let p = past-breach broken q.1 in
      record { next = n; block = one; kept = p.0; room = ltb-false (length lent) (cells_in (text ++ d.bytes)) q.0 }))))
      (λ l. not-refused 1 d.number 0 (sym (λ i. cond (not (l i)) (Refused 1 d.number 0) later-part) ∙ e))
    where
      past_first : Answer
      past_first = cond (is_complete text) (Refused 4 d.number 0) (cond short (Refused 12 d.number 0) (refused_by broken Taken))

      last-part : Answer
      last-part = cond (eqb d.number 0) (refused_by broken (cond short (Refused 12 0 0) Taken)) past_first

      third-part : Answer
      third-part = cond (ltb (blocks_in text) d.number) (Refused 3 d.number 0) last-part

      later-part : Answer
      later-part = cond (ltb d.number (blocks_in text)) Held third-part

  -- a number that is not the next is not taken
  pub late-not-taken : d.number < blocks_in text → answer_to family text d.number d.bytes (room_of (lend lent)) ≡ Taken → ⊥
  late-not-taken lt e = omega (arith, lt, (taken-due e).next)

  -- the next block with a grid long enough: the first rule that it breaks, or taken
  pub next-answer : length d.bytes ≡ 1024 → d.number ≡ blocks_in text → cells_in (text ++ d.bytes) ≤ length lent
      → answer_to family text d.number d.bytes (room_of (lend lent)) ≡ refused_by broken Taken
  next-answer one e room =
      let s : short ≡ false = le-ltb (length lent) (cells_in (text ++ d.bytes)) room in
      next-number one e
      ∙ by-test (eqb d.number 0)
      (λ z. λ i. cond (z i) (refused_by broken (cond (s i) (Refused 12 0 0) Taken))
      (cond (is_complete text) (Refused 4 d.number 0) (cond short (Refused 12 d.number 0) (refused_by broken Taken))))
      (λ z.
      let n = eqb-false d.number 0 z in
      by-test (is_complete text)
      (λ c.
      let b : broken ≡ breach 4 (blocks_in text) 0 = complete-first family text lent good d.bytes one (omega (arith, n, e)) c in
      (λ i. cond (z i) (refused_by broken (cond short (Refused 12 0 0) Taken))
      (cond (c i) (Refused 4 d.number 0) (cond short (Refused 12 d.number 0) (refused_by broken Taken))))
      ∙ ap (λ (m : ℕ). Refused 4 m 0) e
      ∙ sym (ap (λ (w : Breach). refused_by w Taken) b))
      (λ c.
      λ i. cond (z i) (refused_by broken (cond short (Refused 12 0 0) Taken))
      (cond (c i) (Refused 4 d.number 0) (cond (s i) (Refused 12 d.number 0) (refused_by broken Taken)))))

-- ---- lists of deliveries

pub stands-all : (family : ℕ) (text : List ℕ) (lent : List ℤ) (k : Desk) → Stands family text lent k → (ds : List Delivery)
    → Stands family (text ++ text_after k ds) lent (after_all k ds)
stands-all family text lent k at [] = rw (append-nil text) at
stands-all family text lent k at (d ∷ ds) =
    let bytes = bytes_if (answered k d) d.bytes in
    rw (← append-brackets text bytes (text_after (after k d) ds))
    (stands-all family (text ++ bytes) lent (after k d) (stands-next family text lent k at d) ds)

pub stands_after : (family : ℕ) → known family ≡ true → (lent : List ℤ) (ds : List Delivery)
    → Stands family (text_after (at_first family lent) ds) lent (after_all (at_first family lent) ds)
stands_after family known lent ds = stands-all family [] lent (at_first family lent) (stands-first family known lent) ds

pub after-append : (k : Desk) (ds es : List Delivery) → after_all k (ds ++ es) ≡ after_all (after_all k ds) es
after-append k [] es = refl
after-append k (d ∷ ds) es = after-append (after k d) ds es

-- a block just taken is not taken again
pub second-nothing : (family : ℕ) (text : List ℕ) (lent : List ℤ) (k : Desk) → Stands family text lent k → (d : Delivery)
    → after (after k d) d ≡ after k d
second-nothing family text lent k at d = go (answered k d) refl
  where
    go : (a : Answer) → answered k d ≡ a → after (after k d) d ≡ after k d
    go Taken e =
        let due = taken-due family text lent at.good d (sym (answer-told family text lent k at d) ∙ e) in
        let more = text ++ bytes_if (answered k d) d.bytes in
        let then = stands-next family text lent k at d in
        let x = join-extends text d.bytes (blocks_in text) at.good.whole due.block in
        let b : blocks_in more ≡ suc (blocks_in text) = ap (λ (w : Answer). blocks_in (text ++ bytes_if w d.bytes)) e ∙ x.one_more in
        not-taken-nothing (after k d) d
        (λ t.
        late-not-taken family more lent then.good d (omega (arith, b, due.next))
        (sym (answer-told family more lent (after k d) then d) ∙ t))
    go Held e =
        let n = not-taken-nothing k d (λ t. not-held (sym e ∙ t)) in ap (λ (w : Desk). after w d) n
    go (Refused kind block byte) e =
        let n = not-taken-nothing k d (λ t. not-refused kind block byte (sym e ∙ t)) in ap (λ (w : Desk). after w d) n

pub twice-once : (family : ℕ) (text : List ℕ) (lent : List ℤ) (k : Desk) → Stands family text lent k → (ds : List Delivery)
    → after_all k (twice ds) ≡ after_all k ds
twice-once family text lent k at [] = refl
twice-once family text lent k at (d ∷ ds) =
    ap (λ (w : Desk). after_all w (twice ds)) (second-nothing family text lent k at d)
    ∙ twice-once family (text ++ bytes_if (answered k d) d.bytes) lent (after k d) (stands-next family text lent k at d) ds

pub disturbed-same : {s : Session} {lent : Lent} {es : List Call} {ds : List Delivery} → Calls s lent es → Disturbed es ds
    → after_all (desk s lent) (deliveries es) ≡ after_all (desk s lent) ds
disturbed-same no_call ended = refl
disturbed-same (called p rest) (sent {c} {es} {ds} more) =
    ap (λ (k : Desk). after_all k (deliveries es)) (sym (call-desk p))
    ∙ disturbed-same rest more
    ∙ ap (λ (k : Desk). after_all k ds) (call-desk p)
disturbed-same (called {s} {lent} p rest) (disturbed {c} {es} {ds} none more) =
    ap (λ (k : Desk). after_all k (deliveries es)) (sym (call-desk p))
    ∙ disturbed-same rest more
    ∙ ap (λ (k : Desk). after_all k ds) (call-desk p ∙ not-taken-nothing (desk s lent) c.sent (λ t. none (call-answer p ∙ t)))
