-- A column's profile is a stretch of it: how the cells up to the last filled one are found from the end, and the first from the front.
use Prim.Native.Nat.{ℕ, ◌+◌, ◌<◌, suc, ◌≤◌, zero, ◌-◌}
use mathlib.Core.List.{List, ◌∷◌, []}
use mathlib.Core.Path.{◌≡◌, refl, sym, ◌∙◌, ap}
use lib.IntN.{ℤ, pos}
use lib.ListN.{drop, length, get_or, take, length-drop}
use lib.Seq.{take-nil}
use mathlib.Core.Bool.{true, false}
use native.Mathlib.Omega.{arith}
use native.Mathlib.Nat.{sub-zero}
use Rattle.std.proofs.lemmas.Iterator.{index_from_first}
use Rattle.std.specs.List.{AllWithin, HoldsAt}
use Rattle.std.proofs.Common.{Option, Bool}
use Rattle.std.specs.Option.{MatchOption, unwrap_or}
use Rattle.laws.specs.Sign.{same_z, ◌and◌}
use Rattle.laws.proofs.Tests.{by-test, clash}
use Rattle.laws.proofs.SameNumbers.{same_z-is}
use Rattle.ground.specs.Posts.{void}
use Rattle.written.specs.Cells.{voids_before, is_none, up_to_last, first_row, profile_cells}
use Rattle.written.proofs.ColumnsSent.{voids-room}

-- ---- from the front

-- the first place that has Yes, as an iterator finds it
abbrev pub FirstWhere : (ℤ → Type 0) → (ℤ → Type 0) → List ℤ → Option ℕ → Type 0
FirstWhere Yes No cells found =
    MatchOption found (AllWithin No cells 0 (length cells)) (λ i. (i < length cells) × HoldsAt Yes cells i × AllWithin No cells 0 i)

pub voids-first : (column : List ℤ) (found : Option ℕ)
    → FirstWhere (λ cell. same_z cell void ≡ false) (λ cell. same_z cell void ≡ true) column found
    → unwrap_or found (length column) ≡ voids_before column
unfolding voids_before
voids-first column found first =
    sym
    (index_from_first voids_before (λ cell. same_z cell void ≡ false) (λ cell. same_z cell void ≡ true) refl (λ x xs e. rw e)
    (λ x xs e. rw e (omega arith)) column found first)

-- ---- from the end

none_of : (l : List ℤ) → length l ≡ 0 → is_none l ≡ true
none_of [] e = refl
none_of (x ∷ l) e = absurd (omega arith)

some_of : (l : List ℤ) → (length l ≡ 0 → ⊥) → is_none l ≡ false
some_of [] f = absurd (f refl)
some_of (x ∷ l) f = refl

abbrev pub void_at : List ℤ → ℕ → Bool
void_at column k = same_z (get_or column k (pos 0)) void

pub all-void : (column : List ℤ) → ((k : ℕ) → k < length column → void_at column k ≡ true) → up_to_last column ≡ []
unfolding up_to_last
all-void [] each = refl
all-void (c ∷ cs) each =
    let v : same_z c void ≡ true = each 0 (omega arith) in
    let e : up_to_last cs ≡ [] = all-void cs (λ k h. each (suc k) (omega (arith, h))) in
    rw (v, e)

pub last-filled : (column : List ℤ) (i : ℕ) → i < length column → void_at column i ≡ false
    → ((k : ℕ) → i < k → k < length column → void_at column k ≡ true) → length (up_to_last column) ≡ i + 1
unfolding up_to_last
last-filled [] i h f behind = absurd (omega arith)
last-filled (c ∷ cs) zero h f behind =
    let e : up_to_last cs ≡ [] = all-void cs (λ k b. behind (suc k) (omega arith) (omega (arith, b))) in
    rw (f, e)
last-filled (c ∷ cs) (suc i) h f behind =
    let e : length (up_to_last cs) ≡ i + 1 = last-filled cs i (omega (arith, h)) f (λ k a b. behind (suc k) (omega (arith, a)) (omega (arith, b))) in
    let some : is_none (up_to_last cs) ≡ false = some_of (up_to_last cs) (λ z. omega (arith, z, e)) in
    rw some (by-test (same_z c void) (λ q. rw q (omega (arith, e))) (λ q. rw q (omega (arith, e))))

-- ---- a profile's place

-- the cells up to the last filled one stand at the front
last-front : (column : List ℤ) → up_to_last column ≡ take (length (up_to_last column)) column
unfolding up_to_last
last-front [] = refl
last-front (c ∷ cs) =
    by-test (same_z c void and is_none (up_to_last cs)) (λ e. rw e) (λ e. rw e (ap (λ l. c ∷ l) (last-front cs)))

-- where there is none, the first cell is void
first-void : (c : ℤ) (cs : List ℤ) → is_none (up_to_last (c ∷ cs)) ≡ true → c ≡ void
unfolding up_to_last
first-void c cs e =
    by-test (same_z c void) (λ v. (same_z-is c void).0 v) (λ v. clash (sym (rw v at e)))

pub drop-take : (v k : ℕ) (l : List ℤ) → drop v (take k l) ≡ take (k - v) (drop v l)
drop-take zero k l = rw (sub-zero k)
drop-take (suc v) zero l =
    let e : 0 - suc v ≡ 0 = omega arith in
    rw e
drop-take (suc v) (suc k) [] = sym (take-nil (suc k - suc v))
drop-take (suc v) (suc k) (x ∷ l) =
    let e : suc k - suc v ≡ k - v = omega arith in
    rw e (drop-take v k l)

one-void : (column : List ℤ) → 1 ≤ length column → is_none (up_to_last column) ≡ true → void ∷ [] ≡ take 1 column
one-void [] h e = absurd (omega arith)
one-void (c ∷ cs) h e = ap (λ (x : ℤ). x ∷ []) (sym (first-void c cs e))

-- a profile's cells stand in its column from its first row on
pub profile-place : (column : List ℤ) → 1 ≤ length column → profile_cells column ≡ take (length (profile_cells column)) (drop (first_row column) column)
unfolding profile_cells first_row
profile-place column h =
    let v = voids_before column in
    let u = up_to_last column in
    by-test (is_none (up_to_last column)) (λ e. rw e (one-void column h e))
    (λ e.
    rw e
    (ap (drop v) (last-front column)
    ∙ drop-take v (length u) column
    ∙ ap (λ (n : ℕ). take n (drop v column)) (sym (length-drop v u))))

-- ---- a column by how many cells there are up to its last filled one

module _ (column : List ℤ) where
  pub void-column : length (up_to_last column) ≡ 0 → (0 ≡ first_row column) × (1 ≡ length (profile_cells column))
  unfolding profile_cells first_row
  void-column z =
      let e = none_of (up_to_last column) z in
      (rw e, rw e)

  module _ (f : length (up_to_last column) ≡ 0 → ⊥) where
    pub first-row : voids_before column ≡ first_row column
    unfolding first_row
    first-row = rw (some_of (up_to_last column) f)

    pub posts-left : length (up_to_last column) - voids_before column ≡ length (profile_cells column)
    unfolding profile_cells
    posts-left = rw (some_of (up_to_last column) f) (sym (length-drop (voids_before column) (up_to_last column)))

    pub row_before : voids_before column < length (up_to_last column)
    row_before = voids-room column (some_of (up_to_last column) f)
