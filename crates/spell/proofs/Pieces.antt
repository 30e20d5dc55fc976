-- A text placed at the right end of its field: a byte copied, what stands at each place, and the whole. Each is a step on lists.
use mathlib.Core.List.{List, ◌++◌}
use mathlib.Core.Path.{◌≡◌, ◌∙◌, subst}
use Prim.Native.Nat.{ℕ, ◌≤◌, ◌<◌, ◌-◌}
use native.Mathlib.Omega.{arith}
use lib.ListN.{length, get_or, replicate, length-append, length-replicate, get_or-replicate, get_or-append}
use mathlib.Core.Bool.{Bool, cond}
use lib.Dec.{leb}
use Rattle.spell.specs.Spell.{justified}

-- the text that fills a field: its length, and what stands at each place of it
pub justified-length : (width : ℕ) (text : List ℕ) → length text ≤ width → length (justified width text) ≡ width
justified-length width text h =
    length-append (replicate (width - length text) 32) text
    ∙ omega (arith, length-replicate {A = ℕ} (width - length text) 32)

pub gap-blank : (gap i : ℕ) (text : List ℕ) → i < gap → get_or (replicate gap 32 ++ text) i 0 ≡ 32
gap-blank gap i text h =
    get_or-append (replicate gap 32) text 0 i (omega (arith, length-replicate {A = ℕ} gap 32)) ∙ get_or-replicate gap i 32 0 h

-- the answer of a placing, and the field after it
abbrev pub Placing : List ℕ → List ℕ → List ℕ → Bool → Type 0
Placing field text after fits =
    (fits ≡ leb (length text) (length field))
    × (after ≡ cond (leb (length text) (length field)) (justified (length field) text) field)

-- what is placed of a text, said of another name for it
pub placed : (field : List ℕ) {text named after : List ℕ} {fits : Bool} → text ≡ named → Placing field text after fits
    → Placing field named after fits
placed field {text} {named} {after} {fits} e h = subst (λ (t : List ℕ). Placing field t after fits) e h
