-- Fields painted one behind the other: each keeps its width, and where every number fits, nothing is left of what the block held there.
use mathlib.Core.Bool.{Bool, true}
use mathlib.Core.List.{List, map, [], ◌∷◌, ◌++◌, append_assoc}
use mathlib.Core.Path.{◌≡◌, refl, subst, sym, ◌∙◌, ap, ap₂}
use Prim.Native.Nat.{ℕ, ◌≤◌, ◌+◌}
use lib.ListN.{length, take, drop, length-append, length-drop}
use lib.Seq.{length-take-le, take-append-add, drop-append-add, drop-drop}
use native.Mathlib.Omega.{arith}
use Rattle.laws.specs.Lists.{joined}
use Rattle.laws.proofs.Tables.{all}
use Rattle.laws.proofs.Tests.{by-test, and_first, and_second}
use Rattle.spell.specs.Spell.{integer_fits, real_fits, integer_text, real_text}
use Rattle.spell.proofs.Fits.{integer-length, real-length}
use Rattle.written.specs.Painted.{Field, wide, over, painted, widths}
use Rattle.written.specs.Painted.Field.{text, integer, decimal, step}

-- ---- a field keeps its width

over-length : (f : Field) (old : List ℕ) → length old ≡ wide f → length (over f old) ≡ wide f
over-length (text t) old e = refl
over-length (integer z) old e = by-test (integer_fits 6 z) (λ t. rw t (integer-length 6 z t)) (λ t. rw t e)
over-length (decimal z) old e = by-test (real_fits 15 24 z) (λ t. rw t (real-length 15 24 z 68 t)) (λ t. rw t e)
over-length (step z) old e = by-test (real_fits 6 12 z) (λ t. rw t (real-length 6 12 z 69 t)) (λ t. rw t e)

front_length : (f : Field) (old : List ℕ) → wide f ≤ length old → length (over f (take (wide f) old)) ≡ wide f
front_length f old h = over-length f (take (wide f) old) (length-take-le (wide f) old h)

pub painted-length : (fs : List Field) (old : List ℕ) → widths fs ≤ length old → length (painted fs old) ≡ length old
unfolding painted
painted-length [] old h = refl
painted-length (f ∷ fs) old h =
    let rest = drop (wide f) old in
    let left = length-drop (wide f) old in
    omega (
      arith,
      length-append (over f (take (wide f) old)) (painted fs rest),
      front_length f old (omega arith),
      painted-length fs rest (omega (arith, left)),
      left,
    )

pub widths-append : (ps qs : List Field) → widths (ps ++ qs) ≡ widths ps + widths qs
widths-append [] qs = omega arith
widths-append (p ∷ ps) qs = omega (arith, widths-append ps qs)

-- ---- fields behind fields

module _ (front rest : List ℕ) (k n : ℕ) (e : length front ≡ k) where
  pub take-seam : take (k + n) (front ++ rest) ≡ front ++ take n rest
  take-seam = subst (λ (j : ℕ). take (j + n) (front ++ rest) ≡ front ++ take n rest) e (take-append-add front rest n)

  pub drop-seam : drop (k + n) (front ++ rest) ≡ drop n rest
  drop-seam = subst (λ (j : ℕ). drop (j + n) (front ++ rest) ≡ drop n rest) e (drop-append-add front rest n)

pub painted-append : (ps qs : List Field) (old : List ℕ) → widths ps ≤ length old
    → painted (ps ++ qs) old ≡ take (widths ps) (painted ps old) ++ painted qs (drop (widths ps) (painted ps old))
unfolding painted
painted-append [] qs old h = refl
painted-append (p ∷ ps) qs old h =
    let front = over p (take (wide p) old) in
    let rest = painted ps (drop (wide p) old) in
    let n = widths ps in
    let long = front_length p old (omega arith) in
    ap (λ (l : List ℕ). front ++ l) (painted-append ps qs (drop (wide p) old) (omega (arith, length-drop (wide p) old)))
    ∙ sym (append_assoc front (take n rest) (painted qs (drop n rest)))
    ∙ sym (ap₂ (λ (a b : List ℕ). a ++ painted qs b) (take-seam front rest (wide p) n long) (drop-seam front rest (wide p) n long))

-- ---- fields that fit

abbrev pub field_fits : Field → Bool
field_fits (text t) = true
field_fits (integer z) = integer_fits 6 z
field_fits (decimal z) = real_fits 15 24 z
field_fits (step z) = real_fits 6 12 z

abbrev pub field_text : Field → List ℕ
field_text (text t) = t
field_text (integer z) = integer_text 6 z
field_text (decimal z) = real_text 15 68 24 z
field_text (step z) = real_text 6 69 12 z

abbrev pub text_of : List Field → List ℕ
text_of fs = joined (map field_text fs)

over-fits : (f : Field) (old : List ℕ) → field_fits f ≡ true → over f old ≡ field_text f
over-fits (text t) old e = refl
over-fits (integer z) old e = rw e
over-fits (decimal z) old e = rw e
over-fits (step z) old e = rw e

text-length : (f : Field) → field_fits f ≡ true → length (field_text f) ≡ wide f
text-length (text t) e = refl
text-length (integer z) e = integer-length 6 z e
text-length (decimal z) e = real-length 15 24 z 68 e
text-length (step z) e = real-length 6 12 z 69 e

pub texts-length : (fs : List Field) → all field_fits fs ≡ true → length (text_of fs) ≡ widths fs
texts-length [] t = refl
texts-length (f ∷ fs) t =
    length-append (field_text f) (text_of fs)
    ∙ ap₂ ◌+◌ (text-length f (and_first (field_fits f) (all field_fits fs) t)) (texts-length fs (and_second (field_fits f) (all field_fits fs) t))

pub painted-fits : (fs : List Field) (old : List ℕ) → all field_fits fs ≡ true → painted fs old ≡ text_of fs ++ drop (widths fs) old
unfolding painted
painted-fits [] old t = refl
painted-fits (f ∷ fs) old t =
    ap₂ (λ (a b : List ℕ). a ++ b) (over-fits f _ (and_first (field_fits f) (all field_fits fs) t))
    (painted-fits fs (drop (wide f) old) (and_second (field_fits f) (all field_fits fs) t))
    ∙ sym (append_assoc (field_text f) (text_of fs) (drop (widths fs) (drop (wide f) old)))
    ∙ ap (λ (l : List ℕ). (field_text f ++ text_of fs) ++ l) (drop-drop (widths fs) (wide f) old)
