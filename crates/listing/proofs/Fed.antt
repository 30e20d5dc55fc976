-- What is brought comes to one place: where each call leaves one answer, so does a whole listing.
use mathlib.Core.List.{List}
use mathlib.Core.Path.{◌≡◌, refl, sym, ◌∙◌, ap, subst}
use Prim.Native.Nat.{ℕ}
use lib.IntN.{ℤ}
use lib.ListN.{take}
use Rattle.session.specs.declared.Session.{Session}
use Rattle.listing.specs.declared.Turn.{Turn}
use Rattle.listing.specs.Turns.{Brings, OneCall, Fed, over, brought, Stand, taken_of}

-- the same count of the same bytes, taken
same-read : (s : Session) (g : List ℤ) {n n' : ℕ} {bytes bytes' : List ℕ} → n ≡ n' → bytes ≡ bytes'
    → taken_of s (take n bytes) g ≡ taken_of s (take n' bytes') g
same-read s g p q = λ j. taken_of s (take (p j) (q j)) g

pub one-place : {S : Type 0} {brings : Brings S} → OneCall brings → {s s' s'' : S} {bytes : List ℕ} {t last last' : Turn} {g after after' : List ℤ}
    → Fed brings s bytes t g s' last after → Fed brings s bytes t g s'' last' after' → (s' ≡ s'') × (last ≡ last') × (after ≡ after')
one-place one (over ne) (over ne') = (refl, refl, refl)
one-place one (over ne) (brought e c k r) = absurd (ne e)
one-place one (brought e c k r) (over ne) = absurd (ne e)
one-place {S} {brings} one {s'' = s''} {t = t} {last' = last'} {g = g} {after' = after'} (brought e c k r) (brought e' c' k' r') =
    let same = one _ _ _ _ _ _ _ _ c c' in
    let stands = same-read t.session g same.0 same.2 in
    let turns = k.0 ∙ ap (λ (x : Stand). x.turn) stands ∙ sym k'.0 in
    let cells = k.1 ∙ ap (λ (x : Stand). x.cells) stands ∙ sym k'.1 in
    one-place one r
    (subst (λ (x : S × List ℕ × Turn × List ℤ). Fed brings x.0 x.1 x.2 x.3 s'' last' after')
    (λ j. (sym same.1 j, sym same.2 j, sym turns j, sym cells j)) r')
