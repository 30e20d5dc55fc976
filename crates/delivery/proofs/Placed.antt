-- What a profile's place gives: its rows and its columns have room.
use Rattle.std.specs.Prelude.{None, Option, Some}
use mathlib.Core.Bool.{true, Bool, false}
use mathlib.Core.Path.{◌≡◌, sym, refl}
use Prim.Native.Nat.{ℕ, ◌+◌, ◌≤◌, ◌<◌}
use borrow.Author.Tests.{leb-true, eqb-false}
use native.Mathlib.Omega.{arith}
use lib.Dec.{eqb}
use Rattle.laws.proofs.Tests.{clash}
use Rattle.lattice.specs.Lattice.{place_number}
use Rattle.frame.specs.Frame.{rows_of, columns_of}
use Rattle.session.specs.declared.Session.{Session}
use Rattle.delivery.specs.Deliver.{row_fits, column_fits, column_from}

pub row_room : (s : Session) (posts : ℕ) (p : Option ℕ) → row_fits s posts p ≡ true → place_number p + posts ≤ rows_of s.header
row_room s posts (Some r) t = leb-true (r + posts) (rows_of s.header) t
row_room s posts None t = clash (sym t)

pub column-room : (s : Session) (p : Option ℕ) → (0 < s.closed → s.column + s.header.profiles ≤ columns_of s.header)
    → column_fits s p ≡ true → column_from s p + s.header.profiles ≤ columns_of s.header
column-room s None q t = clash (sym t)
column-room s (Some c) q t = go (eqb s.closed 0) refl
  where
    go : (b : Bool) → eqb s.closed 0 ≡ b → column_from s (Some c) + s.header.profiles ≤ columns_of s.header
    go true e = rw e (leb-true (c + s.header.profiles) (columns_of s.header) (rw e at t))
    go false e =
        let n : s.closed ≡ 0 → ⊥ = eqb-false s.closed 0 e in
        rw e (q (omega arith))
