-- Heights tallied: in parts, how many are filled, and their extremes. Each law is one induction on the heights.
use mathlib.Core.List.{List, [], ◌∷◌, ◌++◌}
use mathlib.Core.Path.{◌≡◌, refl, sym, ◌∙◌}
use lib.IntN.{ℤ, pos, negsuc, nat_abs}
use mathlib.Core.Bool.{Bool, true, false, cond}
use Prim.Native.Nat.{◌+◌, suc, ◌≤◌, ◌<◌, ℕ, suc-le-suc}
use native.Mathlib.Omega.{arith}
use lib.ListN.{length, get_or}
use lib.Dec.{T, eqb}
use lib.Signed.{◌≤ℤ◌, le_z, lt_z, lt_z_no, ≤ℤ_refl}
use borrow.Author.Tests.{ltb-true, eqb-false}
use mathlib.Core.Logic.{inl, inr}
use Rattle.laws.specs.Sign.{same_z, lesser, greater}
use Rattle.laws.proofs.Integers.{parts-le, le-through}
use Rattle.laws.proofs.Tests.{clash}
use Rattle.laws.proofs.SameNumbers.{same_z-is}
use Rattle.ground.specs.Posts.{tally_one, tally_all, void, filled_in}
use Rattle.ground.specs.declared.Tally.{Tally}
use Rattle.ground.proofs.Heights.{Cell}

pub tally-append : (t : Tally) (xs ys : List ℤ) → tally_all t (xs ++ ys) ≡ tally_all (tally_all t xs) ys
tally-append t [] ys = refl
tally-append t (x ∷ xs) ys = tally-append (tally_one t x) xs ys

one-filled : (t : Tally) (h : ℤ) → (tally_one t h).filled ≡ t.filled + cond (same_z h void) 0 1
one-filled t h = go (same_z h void) refl
  where
    go : (b : Bool) → same_z h void ≡ b → (tally_one t h).filled ≡ t.filled + cond (same_z h void) 0 1
    go true e = rw e (omega arith)
    go false e = rw e

pub tally-filled : (t : Tally) (hs : List ℤ) → (tally_all t hs).filled ≡ t.filled + filled_in hs
tally-filled t [] = omega arith
tally-filled t (h ∷ hs) = omega (arith, tally-filled (tally_one t h) hs, one-filled t h)

pub filled_within : (hs : List ℤ) → filled_in hs ≤ length hs
filled_within [] = omega arith
filled_within (h ∷ hs) = go (filled_within hs) (same_z h void) refl
  where
    go : filled_in hs ≤ length hs → (b : Bool) → same_z h void ≡ b → filled_in (h ∷ hs) ≤ suc (length hs)
    go k true e = rw e (omega arith)
    go k false e = rw e (omega arith)

-- ---- extremes

told : (a b : ℤ) → a ≤ℤ b → le_z a b ≡ true
told a b h = go (le_z a b) h.le
  where
    go : (t : Bool) → T t → t ≡ true
    go true k = refl
    go false k = absurd k

less-le : (a b : ℤ) → lt_z a b ≡ true → a ≤ℤ b
less-le (pos a) (pos b) t = parts-le (pos a) (pos b) (omega (arith, ltb-true a b t))
less-le (pos a) (negsuc b) t = clash (sym t)
less-le (negsuc a) (pos b) t = record { le = tt }
less-le (negsuc a) (negsuc b) t = parts-le (negsuc a) (negsuc b) (omega (arith, ltb-true b a t))

not-less-le : (a b : ℤ) → lt_z a b ≡ false → b ≤ℤ a
not-less-le a b t = lt_z_no (rw t tt)

-- the extremes as a sound session has them: in order, neither further than 4,276,700 from zero
pub record InOrder (low high : ℤ) : Type 0 where
  pub ordered : le_z low high ≡ true
  pub low-most : nat_abs low ≤ 4276700
  pub high-most : nat_abs high ≤ 4276700

-- "where any are filled"
abbrev pub Fair : Tally → Type 0
Fair t = 0 < t.filled → InOrder t.low t.high

alone : (h : ℤ) → nat_abs h ≤ 4276700 → InOrder h h
alone h k = record { ordered = told h h (≤ℤ_refl h); low-most = k; high-most = k }

joined : (low high h : ℤ) → InOrder low high → nat_abs h ≤ 4276700 → InOrder (lesser low h) (greater high h)
joined low high h o k = go (lt_z h low) refl (lt_z high h) refl
  where
    through : low ≤ℤ high
    through = record { le = rw o.ordered tt }

    go : (b : Bool) → lt_z h low ≡ b → (d : Bool) → lt_z high h ≡ d → InOrder (lesser low h) (greater high h)
    go true p true q = rw (p, q) (alone h k)
    go true p false q =
        rw (p, q)
        (record { ordered = told h high (le-through h low high (less-le h low p) through); low-most = k; high-most = o.high-most })
    go false p true q =
        rw (p, q) (record { ordered = told low h (not-less-le h low p); low-most = o.low-most; high-most = k })
    go false p false q = rw (p, q) o

one-fair : (t : Tally) (h : ℤ) → Cell h → Fair t → Fair (tally_one t h)
one-fair t h c f = go (same_z h void) refl c
  where
    size : same_z h void ≡ false → Cell h → nat_abs h ≤ 4276700
    size e (inl v) = clash (sym ((same_z-is h void).1 v) ∙ e)
    size e (inr k) = k

    further : same_z h void ≡ false → nat_abs h ≤ 4276700 → (b : Bool) → eqb t.filled 0 ≡ b
        → InOrder (tally_one t h).low (tally_one t h).high
    further e k true p = rw (e, p) (alone h k)
    further e k false p =
        let n : 0 < t.filled = omega (arith, eqb-false t.filled 0 p) in
        rw (e, p) (joined t.low t.high h (f n) k)

    go : (b : Bool) → same_z h void ≡ b → Cell h → Fair (tally_one t h)
    go true e c = rw e f
    go false e c = λ n. further e (size e c) (eqb t.filled 0) refl

pub tally-extremes : (t : Tally) (hs : List ℤ) → ((i : ℕ) → i < length hs → Cell (get_or hs i void)) → Fair t → Fair (tally_all t hs)
tally-extremes t [] s f = f
tally-extremes t (h ∷ hs) s f =
    tally-extremes (tally_one t h) hs (λ i k. s (suc i) (suc-le-suc k)) (one-fair t h (s 0 (omega arith)) f)
