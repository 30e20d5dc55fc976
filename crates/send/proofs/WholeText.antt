-- A whole sheet by its columns is its blocks in order: each column's blocks stand from its start on, and one more is one more piece put.
use mathlib.Core.List.{List, ◌++◌, append_assoc, [], map}
use Prim.Native.Nat.{◌≤◌, ℕ, ◌+◌, ◌*◌, zero, suc, ◌<◌}
use native.Mathlib.Omega.{arith}
use lib.IntN.{ℤ}
use mathlib.Core.Path.{◌≡◌, subst, sym, ◌∙◌, ap, ap₂}
use lib.ListN.{length, take, drop, length-append, length-drop}
use lib.Seq.{take_at, length-take-le, take_all}
use native.Mathlib.Numerals.{add-one}
use Rattle.laws.specs.Lists.{from, below, joined}
use Rattle.laws.proofs.Lists.{joined-more, from-append, map-append, map-shift, joined-append, append-brackets}
use Rattle.numerals.specs.Pieces.{Puts}
use Rattle.numerals.proofs.Pieces.{joined as both}
use Rattle.frame.specs.Frame.{columns_of, rows_of}
use Rattle.frame.specs.declared.Header.{Header}
use Rattle.ground.specs.Posts.{blocks_for}
use Rattle.written.specs.Cells.{block_count, cells_sent, start_sent}
use Rattle.written.specs.Blocks.{block_zero, profile_block, block_sent}
use Rattle.written.proofs.SheetSent.{start-next, first-start}
use Rattle.written.proofs.BlocksSent.{zero_is, profile-is}
use Rattle.census.proofs.CensusLaws.{sheet-sizes, start-most}
use Rattle.send.specs.SendSteps.{SendableSheet}
use Rattle.send.specs.WholeSteps.{blocks_text, column_text, columns_text, whole_text}

-- ---- sizes

pub count_most : {h : Header} {grid : List ℤ} → SendableSheet h grid → block_count h grid ≤ 26625
count_most {h} {grid} s =
    let z = sheet-sizes h grid s.obeys s.room in
    omega (arith, start-most z (columns_of h) (omega arith), z.columns-most)

-- ---- pieces put

-- the same piece by another name
pub named : {before after piece other : List ℕ} {at end : ℕ} → piece ≡ other → Puts before at piece after end
    → Puts before at other after end
named {before} {after} {piece} {other} {at} {end} e p = subst (λ (t : List ℕ). Puts before at t after end) e p

-- the stretch that was lent is back with a text in it
stretch-put : (l text : List ℕ) (at width k : ℕ) → at + width ≤ length l → length text ≡ width → k ≡ width
    → Puts l at text (take at l ++ (text ++ drop k (drop at l))) (at + width)
stretch-put l text at width k room long e =
    let rest = drop k (drop at l) in
    let front : length (take at l) ≡ at = length-take-le at l (omega arith) in
    let head : length (take at l ++ text) ≡ at + width = length-append (take at l) text ∙ omega arith in
    record {
      kept =
          omega (
            arith,
            length-append (take at l) (text ++ rest),
            length-append text rest,
            length-drop k (drop at l),
            length-drop at l,
          );
      place = omega arith;
      text =
          ap (take (at + width)) (sym (append_assoc (take at l) text rest))
          ∙ take_at (take at l ++ text) rest (at + width) head;
    }

-- the stretch that is lent comes back with a block in it
pub block-put : (l text : List ℕ) (at k : ℕ) → at + 1024 ≤ length l → k ≡ 1024 → (block : List ℕ) → block ≡ text
    → length block ≡ length (take k (drop at l)) → Puts l at text (take at l ++ (block ++ drop k (drop at l))) (at + 1024)
block-put l text at k room e block is long =
    let wide : length (take k (drop at l)) ≡ k = length-take-le k (drop at l) (omega (arith, length-drop at l)) in
    named is (stretch-put l block at 1024 k room (long ∙ wide ∙ e) e)

module _ (h : Header) (grid : List ℤ) where
  -- one block more of a column's
  pub block_more : (c k : ℕ) {before out after : List ℕ} {at mid end : ℕ} → Puts before at (blocks_text h grid c k) out mid
      → Puts out mid (profile_block h grid c k) after end → Puts before at (blocks_text h grid c (k + 1)) after end
  block_more c k p q = rw (add-one k) (named (sym (joined-more (profile_block h grid c) k)) (both p q))

  -- one column more
  pub column-more : (n : ℕ) {before out after : List ℕ} {at mid end : ℕ} → Puts before at (columns_text h grid n) out mid
      → Puts out mid (column_text h grid n) after end → Puts before at (columns_text h grid (n + 1)) after end
  column-more n p q = rw (add-one n) (named (sym (joined-more (column_text h grid) n)) (both p q))

  -- where the next column starts
  pub next_start : (c at next : ℕ) → at ≡ 1024 * start_sent h grid c → next ≡ at + 1024 * blocks_for (length (cells_sent h grid c))
      → next ≡ 1024 * start_sent h grid (c + 1)
  next_start c at next e f = rw (add-one c, start-next (rows_of h) grid c) (omega (arith, e, f))

  -- behind the last column nothing is left
  pub all_there : (n at long : ℕ) → at ≡ 1024 * start_sent h grid n → n ≡ columns_of h → long ≡ 1024 * block_count h grid → at ≡ long
  all_there n at long e f g = e ∙ ap (λ (k : ℕ). 1024 * start_sent h grid k) f ∙ sym g

  -- block 0 and every column's: nothing else is left of the buffer
  pub whole-put : (template : List ℕ) {before out after : List ℕ} {end : ℕ} → Puts before 0 (block_zero template h grid) out 1024
      → Puts out 1024 (columns_text h grid (columns_of h)) after end → end ≡ length out → after ≡ whole_text template h grid
  unfolding whole_text
  whole-put template {before} {out} {after} {end} p q e =
      sym (take_all end after (omega (arith, e, q.kept))) ∙ (both p q).text

-- ---- the blocks of the sheet, in order

module _ (template : List ℕ) (h : Header) (grid : List ℤ) where
  abbrev sent : ℕ → List ℕ
  sent = block_sent template h grid

  -- the blocks from a column's start on are its profile's
  column-is : (c : ℕ) → c < columns_of h
      → joined (map sent (from (start_sent h grid c) (blocks_for (length (cells_sent h grid c))))) ≡ column_text h grid c
  column-is c lt =
      ap joined
      (map-shift sent (profile_block h grid c) (start_sent h grid c) 0 (blocks_for (length (cells_sent h grid c)))
      (λ q less. let e : q ≡ 0 + q = omega arith in profile-is template h grid c q lt less ∙ ap (profile_block h grid c) e))

  columns-are : (n : ℕ) → n ≤ columns_of h
      → joined (map sent (below (start_sent h grid n))) ≡ block_zero template h grid ++ columns_text h grid n
  columns-are zero le =
      ap (λ (k : ℕ). joined (map sent (below k))) (first-start (rows_of h) grid) ∙ ap (λ (l : List ℕ). l ++ []) (zero_is template h grid)
  columns-are (suc n) le =
      let s = start_sent h grid n in
      let b = blocks_for (length (cells_sent h grid n)) in
      let z : 0 + s ≡ s = omega arith in
      ap (λ (k : ℕ). joined (map sent (below k))) (start-next (rows_of h) grid n)
      ∙ ap (λ (l : List ℕ). joined (map sent l)) (from-append 0 s b)
      ∙ ap joined (map-append sent (below s) (from (0 + s) b))
      ∙ joined-append (map sent (below s)) (map sent (from (0 + s) b))
      ∙ ap (λ (a : ℕ). joined (map sent (below s)) ++ joined (map sent (from a b))) z
      ∙ ap₂ (λ (x y : List ℕ). x ++ y) (columns-are n (omega (arith, le))) (column-is n le)
      ∙ append-brackets (block_zero template h grid) (columns_text h grid n) (column_text h grid n)
      ∙ ap (λ (l : List ℕ). block_zero template h grid ++ l) (sym (joined-more (column_text h grid) n))

  -- the same bytes as the single calls write, in order
  pub whole_is : whole_text template h grid ≡ joined (map (block_sent template h grid) (below (block_count h grid)))
  unfolding whole_text
  whole_is = sym (columns-are (columns_of h) (omega arith))
