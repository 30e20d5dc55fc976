-- The cells of the bytes read so far, and those of the bytes after them: a turn sets the next cell, of four bytes.
use mathlib.Core.List.{List, ◌∷◌, [], ◌++◌}
use mathlib.Core.Path.{◌≡◌, sym, ◌∙◌, ap, refl}
use Prim.Native.Nat.{ℕ, ◌+◌, ◌<◌, ◌≤◌, zero, suc, ◌*◌, ◌%◌, ◌/◌}
use native.Mathlib.Numerals.{add-one}
use lib.ListN.{length, get_or, drop, take, set, length-set}
use lib.Seq.{drop-cons, take-suc-set, append_snoc, drop-length, take-length}
use native.Mathlib.Omega.{arith}
use borrow.Author.Tests.{lt-leb, le-leb, eq-eqb}
use lib.IntN.{ℤ}
use Rattle.words.specs.Words.{cell_at}
use Rattle.sender.specs.Input.{cells_from, count_of}
use Rattle.std.specs.Prelude.{Some, None}

next : (text : List ℕ) (j k : ℕ) → k ≡ j + 1 → j < length text → drop j text ≡ get_or text j 0 ∷ drop k text
next text j k e h = drop-cons text j 0 h ∙ ap (λ (i : ℕ). get_or text j 0 ∷ drop i text) (sym (e ∙ add-one j))

-- four bytes say the next cell
pub four : (text : List ℕ) (at : ℕ) → at + 4 ≤ length text → cells_from (drop at text) ≡ cell_at text at ∷ cells_from (drop (at + 4) text)
unfolding cells_from
four text at h =
    ap cells_from
    (next text at (at + 1) refl (omega arith)
    ∙ ap (λ (l : List ℕ). get_or text at 0 ∷ l)
    (next text (at + 1) (at + 2) (omega arith) (omega arith)
    ∙ ap (λ (l : List ℕ). get_or text (at + 1) 0 ∷ l)
    (next text (at + 2) (at + 3) (omega arith) (omega arith)
    ∙ ap (λ (l : List ℕ). get_or text (at + 2) 0 ∷ l) (next text (at + 3) (at + 4) (omega arith) (omega arith)))))

-- as many cells as fours
pub cells-many : (n : ℕ) (text : List ℕ) → length text ≡ 4 * n → length (cells_from text) ≡ n
unfolding cells_from
cells-many zero [] h = refl
cells-many zero (a ∷ l) h = absurd (omega arith)
cells-many (suc n) [] h = absurd (omega arith)
cells-many (suc n) (a ∷ []) h = absurd (omega arith)
cells-many (suc n) (a ∷ (b ∷ [])) h = absurd (omega arith)
cells-many (suc n) (a ∷ (b ∷ (c ∷ []))) h = absurd (omega arith)
cells-many (suc n) (a ∷ (b ∷ (c ∷ (d ∷ rest)))) h = ap suc (cells-many n rest (omega arith))

-- the tests of `good_input`, one after the other
pub too_many : (text : List ℕ) → 60000 < length text → count_of text ≡ None
too_many text h = simp (lt-leb (length text) 60000 h)

pub all-fours : (text : List ℕ) → length text % 4 ≡ 0 → length text ≡ 4 * (length text / 4)
all-fours text k = omega arith

pub good-count : (text : List ℕ) → length text ≤ 60000 → length text % 4 ≡ 0 → count_of text ≡ Some (length text / 4)
good-count text h k =
    simp (le-leb (length text) 60000 h, eq-eqb (length text % 4) 0 k, cells-many (length text / 4) text (all-fours text k))

-- i cells are set: they and the cells of the bytes that are left are all cells
pub record Decoding (text : List ℕ) (grid₀ grid : List ℤ) (i : ℕ) : Type 0 where
  pub many : length grid ≡ length grid₀
  pub inside : i ≤ length grid
  pub so_far : take i grid ++ cells_from (drop (4 * i) text) ≡ cells_from text

pub decoding-turn : {text : List ℕ} {grid₀ grid : List ℤ} {i : ℕ}
    → Decoding text grid₀ grid i
    → i < length grid
    → length text ≡ 4 * length grid₀
    → (z : ℤ)
    → z ≡ cell_at text (4 * i)
    → Decoding text grid₀ (set grid i z) (i + 1)
decoding-turn {text} {grid₀} {grid} {i} d room whole z e =
    let left : 4 * i + 4 ≤ length text = omega (arith, d.many) in
    let on : 4 * (i + 1) ≡ 4 * i + 4 = omega arith in
    let rest = cells_from (drop (4 * (i + 1)) text) in
    record {
      many = length-set grid i z ∙ d.many;
      inside = omega (arith, length-set grid i z);
      so_far =
          ap (λ (l : List ℤ). l ++ rest) (ap (λ (j : ℕ). take j (set grid i z)) (add-one i) ∙ take-suc-set grid i z room)
          ∙ append_snoc (take i grid) z rest
          ∙ ap (λ (l : List ℤ). take i grid ++ l)
          (ap (λ (y : ℤ). y ∷ rest) e
          ∙ ap (λ (k : ℕ). cell_at text (4 * i) ∷ cells_from (drop k text)) on
          ∙ sym (four text (4 * i) left))
          ∙ d.so_far;
    }

nothing_left : (l : List ℤ) → l ++ [] ≡ l
nothing_left [] = refl
nothing_left (z ∷ l) = ap (λ (k : List ℤ). z ∷ k) (nothing_left l)

pub decoding-end : {text : List ℕ} {grid₀ grid : List ℤ} {i : ℕ}
    → Decoding text grid₀ grid i
    → length grid ≤ i
    → length text ≡ 4 * length grid₀
    → grid ≡ cells_from text
unfolding cells_from
decoding-end {text} {grid₀} {grid} {i} d past whole =
    let all : i ≡ length grid = omega (arith, d.inside) in
    let end : 4 * i ≡ length text = omega (arith, d.many) in
    sym
    (ap (λ (j : ℕ). take j grid ++ cells_from (drop (4 * i) text)) all
    ∙ ap (λ (l : List ℤ). l ++ cells_from (drop (4 * i) text)) (take-length grid)
    ∙ ap (λ (k : ℕ). grid ++ cells_from (drop k text)) end
    ∙ ap (λ (l : List ℕ). grid ++ cells_from l) (drop-length text)
    ∙ nothing_left grid)
    ∙ d.so_far
