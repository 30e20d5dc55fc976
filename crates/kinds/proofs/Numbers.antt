-- No two kinds have one number, and none has the number 0, which says that nothing is refused. A kind found from its number carries it.
use Rattle.std.proofs.Common.{ℕ, List, [], ◌∷◌, ◌≡◌, refl, sym, ◌∙◌, ap, false}
use Rattle.std.specs.Prelude.{eqb, get_or}
use Rattle.kinds.specs.declared.Kind.{Kind}
use Rattle.kinds.specs.declared.Kind.TheVariants.{Length, Unsound, Early, Complete, Stretch, Form, Range, Fine, Value, Place, Extreme, Room, Cell, Number, Corner}
use Rattle.kinds.specs.Kinds.{number_of}

pub not-zero : (k : Kind) → eqb (number_of k) 0 ≡ false
not-zero Length = refl
not-zero Unsound = refl
not-zero Early = refl
not-zero Complete = refl
not-zero Stretch = refl
not-zero Form = refl
not-zero Range = refl
not-zero Fine = refl
not-zero Value = refl
not-zero Place = refl
not-zero Extreme = refl
not-zero Room = refl
not-zero Cell = refl
not-zero Number = refl
not-zero Corner = refl

abbrev listed : List Kind
listed =
    Length ∷ Length ∷ Unsound ∷ Early ∷ Complete ∷ Stretch ∷ Form ∷ Range ∷ Fine ∷ Value ∷ Place ∷ Extreme ∷ Room ∷ Cell
    ∷ Number ∷ Corner ∷ []

abbrev kinds : ℕ → Kind
kinds n = get_or listed n Length

found : (k : Kind) → kinds (number_of k) ≡ k
found Length = refl
found Unsound = refl
found Early = refl
found Complete = refl
found Stretch = refl
found Form = refl
found Range = refl
found Fine = refl
found Value = refl
found Place = refl
found Extreme = refl
found Room = refl
found Cell = refl
found Number = refl
found Corner = refl

pub one-number : (j k : Kind) → number_of j ≡ number_of k → j ≡ k
one-number j k e = sym (found j) ∙ (ap kinds e ∙ found k)
