-- Where a name ends, looked at from its last byte: a blank there changes nothing, any other byte is the end.
use mathlib.Core.List.{List, [], ◌∷◌, ◌++◌}
use mathlib.Core.Path.{◌≡◌, refl, sym, ◌∙◌, ap}
use Prim.Native.Nat.{ℕ, suc, ◌-◌, ◌≤◌, ◌<◌}
use mathlib.Core.Bool.{false}
use lib.Dec.{eqb, eqb-suc-zero}
use lib.ListN.{length, take, get_or}
use native.Mathlib.Omega.{arith}
use borrow.Author.Tests.{ne_eqb}
use lib.Seq.{take-suc, length-take-le}
use Rattle.label.specs.Label.{filled}

blank-after : (s : List ℕ) → filled (s ++ (32 ∷ [])) ≡ filled s
blank-after [] = refl
blank-after (c ∷ s) = rw (blank-after s)

filled-to : (s : List ℕ) (c : ℕ) → eqb c 32 ≡ false → filled (s ++ (c ∷ [])) ≡ suc (length s)
filled-to [] c h = rw h
filled-to (a ∷ s) c h = rw (filled-to s c h, eqb-suc-zero (length s))

module _ (b : List ℕ) (k : ℕ) (h : 0 < k) (l : k ≤ length b) where
  last_byte : take k b ≡ take (k - 1) b ++ (get_or b (k - 1) 0 ∷ [])
  last_byte =
      let e : k ≡ suc (k - 1) = omega arith in
      ap (λ n. take n b) e ∙ take-suc b (k - 1) 0 (omega arith)

  pub blank-off : get_or b (k - 1) 0 ≡ 32 → filled (take (k - 1) b) ≡ filled (take k b)
  blank-off t = rw (last_byte, t, blank-after)

  pub ends : (get_or b (k - 1) 0 ≡ 32 → ⊥) → k ≡ filled (take k b)
  ends t =
      let p : suc (length (take (k - 1) b)) ≡ k = omega (arith, length-take-le (k - 1) b (omega arith)) in
      sym (ap filled last_byte ∙ filled-to (take (k - 1) b) (get_or b (k - 1) 0) (ne_eqb _ _ t) ∙ p)
