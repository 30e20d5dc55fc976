-- Which cells can be sent, by their size and sign, and what is sent of them.
use Prim.Native.Nat.{◌≤◌, ℕ, ◌/◌, ◌^◌, ◌<◌, ◌%◌}
use native.Mathlib.Omega.{arith}
use lib.IntN.{ℤ, pos, negsuc, nat_abs}
use mir.Syntax.{w32}
use mir.Val.{SFits}
use mathlib.Core.Path.{◌≡◌, refl, sym}
use native.Mathlib.Nat.{div-le_self}
use mathlib.Core.Bool.{true, false}
use borrow.Author.Tests.{ltb-true, eq-eqb, ne_eqb}
use lib.Dec.{leb}
use lib.Signed.{lt_z}
use mathlib.Core.List.{List}
use lib.ListN.{length}
use Rattle.std.proofs.Common.{Option}
use Rattle.std.specs.Option.{unwrap_or}
use Rattle.std.proofs.lemmas.Iterator.{index_from_first}
use Rattle.laws.specs.Sign.{same_z, signed}
use Rattle.laws.proofs.Tests.{clash}
use Rattle.lattice.specs.Lattice.{multiple_of}
use Rattle.ground.specs.Posts.{void, void_post}
use Rattle.columns.proofs.Columns.{FirstWhere}
use Rattle.written.specs.Cells.{quotient_fits, can_send, post_of, sendable}

-- ---- a cell as the machine carries it

cell-small : (cell : ℤ) → SFits w32 cell → nat_abs cell ≤ 2147483648
cell-small (pos n) f = omega (arith, f.sfits)
cell-small (negsuc n) f = omega (arith, f.sfits)

pub quotient-small : (cell : ℤ) → SFits w32 cell → (z : ℕ) → nat_abs cell / z < 2 ^ 63
quotient-small cell f z = omega (arith, div-le_self (nat_abs cell) z, cell-small cell f)

-- ---- one cell

quotient-below : (z : ℕ) (cell : ℤ) → lt_z cell (pos 0) ≡ true → leb (nat_abs cell / z) 32766 ≡ quotient_fits z cell
quotient-below z (pos n) t = absurd (omega (arith, ltb-true n 0 t))
quotient-below z (negsuc n) t = refl

quotient-above : (z : ℕ) (cell : ℤ) → lt_z cell (pos 0) ≡ false → leb (nat_abs cell / z) 32767 ≡ quotient_fits z cell
quotient-above z (pos n) t = refl
quotient-above z (negsuc n) t = clash t

module _ (z : ℕ) (cell : ℤ) where
  pub send-void : same_z cell void ≡ true → true ≡ can_send z cell
  unfolding can_send
  send-void v = rw v

  module _ (v : same_z cell void ≡ false) where
    pub send-rest : (nat_abs cell % z ≡ 0 → ⊥) → false ≡ can_send z cell
    unfolding can_send
    send-rest f = rw (v, ne_eqb (nat_abs cell % z) 0 f)

    pub send-below : nat_abs cell % z ≡ 0 → lt_z cell (pos 0) ≡ true → leb (nat_abs cell / z) 32766 ≡ can_send z cell
    unfolding can_send
    send-below e t = rw (v, eq-eqb (nat_abs cell % z) 0 e) (quotient-below z cell t)

    pub send-above : nat_abs cell % z ≡ 0 → lt_z cell (pos 0) ≡ false → leb (nat_abs cell / z) 32767 ≡ can_send z cell
    unfolding can_send
    send-above e t = rw (v, eq-eqb (nat_abs cell % z) 0 e) (quotient-above z cell t)

-- ---- its post

multiple-below : (z : ℕ) (cell : ℤ) → lt_z cell (pos 0) ≡ true → signed true (nat_abs cell / z) ≡ multiple_of cell z
multiple-below z (pos n) t = absurd (omega (arith, ltb-true n 0 t))
multiple-below z (negsuc n) t = refl

multiple-above : (z : ℕ) (cell : ℤ) → lt_z cell (pos 0) ≡ false → pos (nat_abs cell / z) ≡ multiple_of cell z
multiple-above z (pos n) t = refl
multiple-above z (negsuc n) t = clash t

module _ (z : ℕ) (cell : ℤ) where
  pub post-void : same_z cell void ≡ true → void_post ≡ post_of z cell
  unfolding post_of
  post-void v = rw v

  module _ (v : same_z cell void ≡ false) where
    pub post-below : lt_z cell (pos 0) ≡ true → signed true (nat_abs cell / z) ≡ post_of z cell
    unfolding post_of
    post-below t = rw v (multiple-below z cell t)

    pub post-above : lt_z cell (pos 0) ≡ false → pos (nat_abs cell / z) ≡ post_of z cell
    unfolding post_of
    post-above t = rw v (multiple-above z cell t)

-- ---- cells in order

-- as many as stand before the first that cannot be sent
pub sendable-first : (z : ℕ) (cells : List ℤ) (found : Option ℕ)
    → FirstWhere (λ cell. can_send z cell ≡ false) (λ cell. can_send z cell ≡ true) cells found
    → unwrap_or found (length cells) ≡ sendable z cells
unfolding sendable
sendable-first z cells found first =
    sym
    (index_from_first (sendable z) (λ cell. can_send z cell ≡ false) (λ cell. can_send z cell ≡ true) refl (λ x xs e. rw e)
    (λ x xs e. rw e (omega arith)) cells found first)
