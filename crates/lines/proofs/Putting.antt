-- Pieces of a line put one after another, each of a bounded length, and a text given to lent bytes.
use mathlib.Core.List.{List, ◌++◌}
use Prim.Native.Nat.{ℕ, ◌+◌, ◌≤◌}
use native.Mathlib.Omega.{arith}
use lib.ListN.{length, drop}
use mathlib.Core.Bool.{cond}
use mathlib.Core.Path.{◌≡◌, ◌∙◌, ap, subst}
use lib.Dec.{leb}
use Rattle.numerals.specs.Pieces.{GivenAt}
use Rattle.numerals.proofs.Pieces.{joined, puts}
use Rattle.lines.specs.Pieces.{Within}
use Rattle.lines.specs.Lines.{Given}

-- ---- pieces of a bounded length

pub then : {a b : ℕ} {f g h p q : List ℕ} {at mid end : ℕ} → Within a f at p g mid → Within b g mid q h end
    → Within (a + b) f at (p ++ q) h end
then x y = record { puts = joined x.puts y.puts; short = omega (arith, x.short, y.short) }

-- a piece that is shorter than need be
pub wider : {a b : ℕ} {f g p : List ℕ} {at end : ℕ} → a ≤ b → Within a f at p g end → Within b f at p g end
wider h x = record { puts = x.puts; short = omega (arith, h, x.short) }

-- a piece that was put, of at most so many bytes, where they have room
pub within : (most : ℕ) {f g p : List ℕ} {at end : ℕ} → GivenAt at p f g end → length p ≤ most → at + most ≤ length f
    → Within most f at p g end
within most g l h =
    let p = puts g (omega arith) in
    record { puts = p; short = omega (arith, p.place) }

-- the same with those behind it, where all have room
pub put : (a : ℕ) {b : ℕ} {f g h p q : List ℕ} {at mid end : ℕ} → GivenAt at p f g mid → length p ≤ a
    → (mid + b ≤ length g → Within b g mid q h end) → at + (a + b) ≤ length f → Within (a + b) f at (p ++ q) h end
put a x l rest h =
    let w = within a x l (omega arith) in
    then w (rest (omega (arith, w.short, w.puts.kept)))

-- ---- a text given to lent bytes

-- a piece at the front
pub given-front : {text out after : List ℕ} {r : ℕ} → GivenAt 0 text out after r → Given text out after r
given-front {text} {out} g =
    let e : 0 + length text ≡ length text = omega arith in
    (g.end ∙ ap (λ (k : ℕ). cond (leb k (length out)) k 0) e, g.bytes ∙ ap (λ (k : ℕ). cond (leb k (length out)) (text ++ drop k out) out) e)

-- what is given of a text, said of the pieces it was built from
pub given-of : (out : List ℕ) {text named after : List ℕ} {r : ℕ} → text ≡ named → Given text out after r → Given named out after r
given-of out {text} {named} {after} {r} e h = subst (λ (t : List ℕ). Given t out after r) e h
