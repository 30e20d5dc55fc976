-- A column and its profile: the profile's cells are the column's from its first row on, all else is void. Inductions on the column.
use mathlib.Core.Bool.{true, false, cond}
use mathlib.Core.List.{List, [], ◌∷◌}
use mathlib.Core.Path.{◌≡◌, refl, sym, ◌∙◌, ap}
use lib.IntN.{ℤ}
use Prim.Native.Nat.{ℕ, zero, suc, ◌≤◌, ◌<◌, ◌+◌, ◌-◌}
use lib.ListN.{get_or, length, drop, length-drop}
use native.Mathlib.Omega.{arith}
use borrow.Author.Tests.{leb-true, leb-false, le-leb}
use lib.Dec.{leb}
use lib.Seq.{get_or-drop}
use Rattle.laws.specs.Sign.{◌and◌, same_z}
use Rattle.laws.proofs.Tests.{clash, and_first, and_second, by-test}
use Rattle.laws.proofs.SameNumbers.{same_z-is}
use Rattle.ground.specs.Posts.{void}
use Rattle.ground.specs.Extremes.{filled_only}
use Rattle.written.specs.Cells.{is_none, up_to_last, voids_before, first_row, profile_cells, can_send, sendable}

-- ---- up to the last filled cell, and the voids before the first

none_is : (cells : List ℤ) → is_none cells ≡ true → cells ≡ []
none_is [] t = refl
none_is (c ∷ cs) t = clash (sym t)

last-cell : (column : List ℤ) (r : ℕ) → get_or (up_to_last column) r void ≡ get_or column r void
unfolding up_to_last
last-cell [] r = refl
last-cell (c ∷ cs) r =
    by-test (same_z c void and is_none (up_to_last cs))
    (λ e.
    let here = (same_z-is c void).0 (and_first (same_z c void) _ e) in
    rw e (voids r (sym here) (none_is (up_to_last cs) (and_second (same_z c void) _ e)) (last-cell cs)))
    (λ e. rw e (cells r (last-cell cs)))
  where
    voids : (r : ℕ) → void ≡ c → up_to_last cs ≡ [] → ((i : ℕ) → get_or (up_to_last cs) i void ≡ get_or cs i void)
        → void ≡ get_or (c ∷ cs) r void
    voids zero e n h = e
    voids (suc r) e n h = ap (λ (l : List ℤ). get_or l r void) (sym n) ∙ h r

    cells : (r : ℕ) → ((i : ℕ) → get_or (up_to_last cs) i void ≡ get_or cs i void) → get_or (c ∷ up_to_last cs) r void ≡ get_or (c ∷ cs) r void
    cells zero h = refl
    cells (suc r) h = h r

pub last-length : (column : List ℤ) → length (up_to_last column) ≤ length column
unfolding up_to_last
last-length [] = omega arith
last-length (c ∷ cs) =
    let h = last-length cs in
    by-test (same_z c void and is_none (up_to_last cs)) (λ e. rw e (omega arith)) (λ e. rw e (omega (arith, h)))

voids-void : (column : List ℤ) (r : ℕ) → r < voids_before column → get_or column r void ≡ void
unfolding voids_before
voids-void [] r h = refl
voids-void (c ∷ cs) r h =
    by-test (same_z c void) (λ e. voids r ((same_z-is c void).0 e) (rw e at h) (voids-void cs))
    (λ e. let k : r < 0 = rw e at h in absurd (omega (arith, k)))
  where
    voids : (r : ℕ) → c ≡ void → r < suc (voids_before cs) → ((i : ℕ) → i < voids_before cs → get_or cs i void ≡ void)
        → get_or (c ∷ cs) r void ≡ void
    voids zero e k f = e
    voids (suc r) e k f = f r (omega (arith, k))

pub voids-room : (column : List ℤ) → is_none (up_to_last column) ≡ false → voids_before column < length (up_to_last column)
unfolding voids_before up_to_last
voids-room [] h = clash h
voids-room (c ∷ cs) h =
    let rest = voids-room cs in
    by-test (same_z c void)
    (λ e.
    by-test (is_none (up_to_last cs)) (λ n. clash (rw (e, n) at h)) (λ n. rw (e, n) (omega (arith, rest n))))
    (λ e. rw e (omega arith))

-- ---- the profile's cells

module _ (column : List ℤ) where
  -- where no cell is filled, one void post at row 0
  void-row : is_none (up_to_last column) ≡ true → first_row column ≡ 0
  unfolding first_row
  void-row e = rw e

  void-profile : is_none (up_to_last column) ≡ true → profile_cells column ≡ void ∷ []
  unfolding profile_cells
  void-profile e = rw e

  filled_row : is_none (up_to_last column) ≡ false → first_row column ≡ voids_before column
  unfolding first_row
  filled_row e = rw e

  filled-profile : is_none (up_to_last column) ≡ false → profile_cells column ≡ drop (voids_before column) (up_to_last column)
  unfolding profile_cells
  filled-profile e = rw e

  pub some-cells : 1 ≤ length (profile_cells column)
  some-cells =
      by-test (is_none (up_to_last column)) (λ e. rw (void-profile e) (omega arith))
      (λ e.
      rw (filled-profile e)
      (omega (arith, length-drop (voids_before column) (up_to_last column), voids-room column e)))

  pub cells-room : 1 ≤ length column → first_row column + length (profile_cells column) ≤ length column
  cells-room some =
      by-test (is_none (up_to_last column)) (λ e. rw (void-row e, void-profile e) (omega (arith, some)))
      (λ e.
      rw (filled_row e, filled-profile e)
      (omega (arith, length-drop (voids_before column) (up_to_last column), voids-room column e, last-length column)))

  -- no more than the column has, or one
  pub cells-most : length (profile_cells column) ≤ 1 + length column
  cells-most =
      by-test (is_none (up_to_last column)) (λ e. rw (void-profile e) (omega arith))
      (λ e.
      rw (filled-profile e)
      (omega (arith, length-drop (voids_before column) (up_to_last column), last-length column)))

  -- the cell at any row: the profile's from its first row on, and void south of it and past its last post
  pub cell-sent : (r : ℕ)
      → get_or column r void ≡ cond (leb (first_row column) r) (get_or (profile_cells column) (r - first_row column) void) void
  cell-sent r = by-test (is_none (up_to_last column)) voids cells
    where
      one : (i : ℕ) → void ≡ get_or (void ∷ []) i void
      one zero = refl
      one (suc i) = refl

      voids : is_none (up_to_last column) ≡ true
          → get_or column r void ≡ cond (leb (first_row column) r) (get_or (profile_cells column) (r - first_row column) void) void
      voids e =
          rw (void-row e, void-profile e, le-leb 0 r (omega arith))
          (sym (last-cell column r) ∙ ap (λ (l : List ℤ). get_or l r void) (none_is (up_to_last column) e) ∙ one (r - 0))

      cells : is_none (up_to_last column) ≡ false
          → get_or column r void ≡ cond (leb (first_row column) r) (get_or (profile_cells column) (r - first_row column) void) void
      cells e =
          let v = voids_before column in
          rw (filled_row e, filled-profile e)
          (by-test (leb v r)
          (λ t.
          let at : r ≡ v + (r - v) = omega (arith, leb-true v r t) in
          rw t
          (sym (last-cell column r)
          ∙ ap (λ (i : ℕ). get_or (up_to_last column) i void) at
          ∙ sym (get_or-drop v (up_to_last column) (r - v) void)))
          (λ t. rw t (voids-void column r (leb-false v r t))))

  -- the same, from the profile's side
  pub cell-of-profile : (i : ℕ) → get_or (profile_cells column) i void ≡ get_or column (first_row column + i) void
  cell-of-profile i =
      let f = first_row column in
      let less : f + i - f ≡ i = omega arith in
      let here = cell-sent (f + i) in
      let reached = le-leb f (f + i) (omega arith) in
      sym (here ∙ (rw (reached, less)))

-- ---- what is filled

filled-last : (column : List ℤ) → filled_only (up_to_last column) ≡ filled_only column
unfolding up_to_last
filled-last [] = refl
filled-last (c ∷ cs) =
    let rest = filled-last cs in
    by-test (same_z c void)
    (λ e.
    by-test (is_none (up_to_last cs)) (λ n. rw (e, n) (ap filled_only (sym (none_is (up_to_last cs) n)) ∙ rest)) (λ n. rw (e, n, e) rest))
    (λ e. rw (e, e) (ap (λ (l : List ℤ). c ∷ l) rest))

filled-behind : (column : List ℤ) → filled_only (drop (voids_before column) (up_to_last column)) ≡ filled_only (up_to_last column)
unfolding voids_before up_to_last
filled-behind [] = refl
filled-behind (c ∷ cs) =
    let rest = filled-behind cs in
    by-test (same_z c void)
    (λ e. by-test (is_none (up_to_last cs)) (λ n. rw (e, n)) (λ n. rw (e, n, e) rest))
    (λ e. rw e)

module _ (column : List ℤ) where
  pub filled-sent : filled_only (profile_cells column) ≡ filled_only column
  filled-sent =
      by-test (is_none (up_to_last column))
      (λ e.
      ap filled_only (void-profile column e) ∙ ap filled_only (sym (none_is (up_to_last column) e)) ∙ filled-last column)
      (λ e. ap filled_only (filled-profile column e) ∙ filled-behind column ∙ filled-last column)

-- ---- what can be sent

pub void-sends : (z : ℕ) → can_send z void ≡ true
unfolding can_send
void-sends z = refl

-- each of these cells can be sent
abbrev pub EachSends : ℕ → List ℤ → Type 0
EachSends z cells = (i : ℕ) → i < length cells → can_send z (get_or cells i void) ≡ true

module _ (z : ℕ) where
  pub each-sends : (cells : List ℤ) → sendable z cells ≡ length cells → EachSends z cells
  unfolding sendable
  each-sends [] h i k = void-sends z
  each-sends (c ∷ cs) h i k =
      by-test (can_send z c)
      (λ e.
      let n : suc (sendable z cs) ≡ suc (length cs) = rw e at h in
      one i k e (each-sends cs (omega (arith, n))))
      (λ e. let n : 0 ≡ suc (length cs) = rw e at h in absurd (omega (arith, n)))
    where
      one : (i : ℕ) → i < suc (length cs) → can_send z c ≡ true → EachSends z cs → can_send z (get_or (c ∷ cs) i void) ≡ true
      one zero k e f = e
      one (suc i) k e f = f i (omega (arith, k))

  pub all-send : (cells : List ℤ) → EachSends z cells → sendable z cells ≡ length cells
  unfolding sendable
  all-send [] h = refl
  all-send (c ∷ cs) h =
      let first : can_send z c ≡ true = h 0 (omega arith) in
      let rest = all-send cs (λ i k. h (suc i) (omega (arith, k))) in
      rw first (ap suc rest)

  pub sendable-sent : (column : List ℤ) → 1 ≤ length column → sendable z column ≡ length column
      → sendable z (profile_cells column) ≡ length (profile_cells column)
  sendable-sent column some h =
      all-send (profile_cells column)
      (λ i k.
      ap (can_send z) (cell-of-profile column i)
      ∙ each-sends column h (first_row column + i) (omega (arith, k, cells-room column some)))
