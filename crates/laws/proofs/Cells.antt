-- Writes to a list of cells: filled from the front, and values placed one behind the other. Each law is one induction on a list.
use mathlib.Core.List.{List, [], ◌∷◌, ◌++◌}
use mathlib.Core.Path.{◌≡◌, refl, sym, ◌∙◌, ap}
use Prim.Native.Nat.{ℕ, zero, suc, ◌+◌, ◌≤◌, ◌<◌}
use native.Mathlib.Nat.{add-zero, not-suc-le-zero, le_of_suc-le-suc}
use native.Mathlib.Numerals.{add-one}
use native.Mathlib.Omega.{arith}
use lib.ListN.{length, take, drop, get_or, set, replicate, length-set}
use lib.Seq.{sets, take-suc, length-take-le, get_or-set_same, get_or-set_other}

module _ {ℓ} {A : Type ℓ} where
  -- one more cell filled
  fill_suc : (v : A) (g : List A) (n : ℕ) → n < length g → set (replicate n v ++ drop n g) n v ≡ replicate (suc n) v ++ drop (suc n) g
  fill_suc v [] n h = absurd (not-suc-le-zero h)
  fill_suc v (x ∷ g) zero h = refl
  fill_suc v (x ∷ g) (suc n) h = ap (λ (l : List A). v ∷ l) (fill_suc v g n (le_of_suc-le-suc h))

  pub fill_more : (v : A) (g : List A) (n : ℕ) → n < length g → set (replicate n v ++ drop n g) n v ≡ replicate (n + 1) v ++ drop (n + 1) g
  fill_more v g n h = rw (add-one n) (fill_suc v g n h)

  -- one more value placed
  sets_last : (g : List A) (at : ℕ) (vs : List A) (v : A) → sets g at (vs ++ (v ∷ [])) ≡ set (sets g at vs) (at + length vs) v
  sets_last g at [] v = rw (add-zero at)
  sets_last g at (x ∷ vs) v =
      let e : suc at + length vs ≡ at + suc (length vs) = omega arith in
      rw (← e) (sets_last (set g at x) (suc at) vs v)

  pub place-more : (g : List A) (at : ℕ) (vs : List A) (i : ℕ) (d : A) → i < length vs
      → set (sets g at (take i vs)) (at + i) (get_or vs i d) ≡ sets g at (take (i + 1) vs)
  place-more g at vs i d h =
      let e : length (take i vs) ≡ i = length-take-le i vs (omega arith) in
      rw (add-one i, take-suc vs i d h)
      (ap (λ (j : ℕ). set (sets g at (take i vs)) (at + j) (get_or vs i d)) (sym e) ∙ sym (sets_last g at (take i vs) (get_or vs i d)))

  -- ---- a cell read back

  pub sets-before : (g : List A) (at : ℕ) (vs : List A) (i : ℕ) (d : A) → i < at → get_or (sets g at vs) i d ≡ get_or g i d
  sets-before g at [] i d h = refl
  sets-before g at (v ∷ vs) i d h =
      sets-before (set g at v) (suc at) vs i d (omega arith) ∙ get_or-set_other g at i v d (omega arith)

  pub sets-after : (g : List A) (at : ℕ) (vs : List A) (i : ℕ) (d : A) → at + length vs ≤ i → get_or (sets g at vs) i d ≡ get_or g i d
  sets-after g at [] i d h = refl
  sets-after g at (v ∷ vs) i d h =
      sets-after (set g at v) (suc at) vs i d (omega arith) ∙ get_or-set_other g at i v d (omega arith)

  pub sets-inside : (g : List A) (at : ℕ) (vs : List A) (i : ℕ) (d : A) → at + length vs ≤ length g → i < length vs
      → get_or (sets g at vs) (at + i) d ≡ get_or vs i d
  sets-inside g at [] i d room h = absurd (not-suc-le-zero h)
  sets-inside g at (v ∷ vs) zero d room h =
      rw (add-zero at) (sets-before (set g at v) (suc at) vs at d (omega arith) ∙ get_or-set_same g at v d (omega arith))
  sets-inside g at (v ∷ vs) (suc i) d room h =
      let e : at + suc i ≡ suc at + i = omega arith in
      rw e (sets-inside (set g at v) (suc at) vs i d (omega (arith, length-set g at v)) (le_of_suc-le-suc h))
