-- A block's own tally, merged into a running one, is the running tally of the block's heights: the least of three does not go by
-- brackets.
use mathlib.Core.Bool.{true, false, Bool, cond}
use mathlib.Core.Path.{◌≡◌, refl, sym, ◌∙◌, ap}
use native.Mathlib.Omega.{arith}
use borrow.Author.Tests.{ltb-true, lt-ltb, ltb-false, le-ltb, eqb-true, eqb-false, ne_eqb}
use lib.IntN.{ℤ, pos, negsuc}
use lib.Signed.{lt_z}
use Prim.Native.Nat.{ℕ, ◌+◌}
use lib.Dec.{eqb}
use mathlib.Core.List.{List, [], ◌∷◌}
use Rattle.laws.specs.Sign.{lesser, greater, same_z}
use Rattle.laws.proofs.Tests.{clash}
use Rattle.ground.specs.Posts.{void, tally_one, merged, tally_all, no_tally}
use Rattle.ground.specs.declared.Tally.{Tally}

less-through : (a b c : ℤ) → lt_z a b ≡ true → lt_z b c ≡ true → lt_z a c ≡ true
less-through (pos a) (pos b) (pos c) s t = lt-ltb a c (omega (arith, ltb-true a b s, ltb-true b c t))
less-through (pos a) (pos b) (negsuc c) s t = t
less-through (pos a) (negsuc b) c s t = clash (sym s)
less-through (negsuc a) (pos b) (pos c) s t = refl
less-through (negsuc a) (pos b) (negsuc c) s t = clash (sym t)
less-through (negsuc a) (negsuc b) (pos c) s t = refl
less-through (negsuc a) (negsuc b) (negsuc c) s t = lt-ltb c a (omega (arith, ltb-true b a s, ltb-true c b t))

not_through : (a b c : ℤ) → lt_z b a ≡ false → lt_z c b ≡ false → lt_z c a ≡ false
not_through (pos a) (pos b) (pos c) s t = le-ltb c a (omega (arith, ltb-false b a s, ltb-false c b t))
not_through (pos a) (pos b) (negsuc c) s t = t
not_through (pos a) (negsuc b) c s t = clash s
not_through (negsuc a) (pos b) (pos c) s t = refl
not_through (negsuc a) (pos b) (negsuc c) s t = clash t
not_through (negsuc a) (negsuc b) (pos c) s t = refl
not_through (negsuc a) (negsuc b) (negsuc c) s t = le-ltb a c (omega (arith, ltb-false a b s, ltb-false b c t))

-- the one of two that a test of order picks, over any such test
abbrev pick : (ℤ → ℤ → Bool) → ℤ → ℤ → ℤ
pick lt a b = cond (lt b a) b a

module _ (lt : ℤ → ℤ → Bool) (through : (a b c : ℤ) → lt a b ≡ true → lt b c ≡ true → lt a c ≡ true)
    (not : (a b c : ℤ) → lt b a ≡ false → lt c b ≡ false → lt c a ≡ false) where
  pick-brackets : (a b c : ℤ) → pick lt (pick lt a b) c ≡ pick lt a (pick lt b c)
  pick-brackets a b c = go (lt b a) refl (lt c b) refl
    where
      go : (x : Bool) → lt b a ≡ x → (y : Bool) → lt c b ≡ y → pick lt (pick lt a b) c ≡ pick lt a (pick lt b c)
      go true e true f = rw (e, f) (rw (through c b a f e))
      go true e false f = rw (e, f) (rw e)
      go false e true f = rw (e, f)
      go false e false f = rw (e, f) (rw (e, not a b c e f))

pub lesser-brackets : (a b c : ℤ) → lesser (lesser a b) c ≡ lesser a (lesser b c)
lesser-brackets = pick-brackets lt_z less-through not_through

pub greater-brackets : (a b c : ℤ) → greater (greater a b) c ≡ greater a (greater b c)
greater-brackets =
    pick-brackets (λ a b. lt_z b a) (λ a b c s t. less-through c b a t s) (λ a b c s t. not_through c b a t s)

merged-one : (t u : Tally) (h : ℤ) → tally_one (merged t u) h ≡ merged t (tally_one u h)
merged-one t u h = go (same_z h void) refl (eqb u.filled 0) refl (eqb t.filled 0) refl
  where
    some : (n : ℕ) → eqb (n + 1) 0 ≡ false
    some n = ne_eqb (n + 1) 0 (λ e. omega arith)

    go : (a : Bool) → same_z h void ≡ a → (b : Bool) → eqb u.filled 0 ≡ b → (c : Bool) → eqb t.filled 0 ≡ c
        → tally_one (merged t u) h ≡ merged t (tally_one u h)
    go true e b f c g = rw e
    go false e true f c g =
        let q : t.filled + 1 ≡ t.filled + (u.filled + 1) = omega (arith, eqb-true u.filled 0 f) in
        simp (e, f, some u.filled) (λ j. record { filled = q j; low = cond (eqb t.filled 0) h (lesser t.low h); high = cond (eqb t.filled 0) h (greater t.high h) })
    go false e false f true g =
        let q : t.filled + u.filled + 1 ≡ t.filled + (u.filled + 1) = omega arith in
        let w : eqb (t.filled + u.filled) 0 ≡ false = ne_eqb (t.filled + u.filled) 0 (λ z. eqb-false u.filled 0 f (omega arith)) in
        simp (e, f, g, some u.filled, w) (λ j. record { filled = q j; low = lesser u.low h; high = greater u.high h })
    go false e false f false g =
        let q : t.filled + u.filled + 1 ≡ t.filled + (u.filled + 1) = omega arith in
        let w : eqb (t.filled + u.filled) 0 ≡ false = ne_eqb (t.filled + u.filled) 0 (λ z. eqb-false u.filled 0 f (omega arith)) in
        simp (e, f, g, some u.filled, w)
        (λ j. record { filled = q j; low = lesser-brackets t.low u.low h j; high = greater-brackets t.high u.high h j })

merged-all : (t u : Tally) (hs : List ℤ) → tally_all (merged t u) hs ≡ merged t (tally_all u hs)
merged-all t u [] = refl
merged-all t u (h ∷ hs) = ap (λ x. tally_all x hs) (merged-one t u h) ∙ merged-all t (tally_one u h) hs

pub tally-merged : (t : Tally) (hs : List ℤ) → tally_all t hs ≡ merged t (tally_all no_tally hs)
tally-merged t hs = merged-all t no_tally hs
