-- The first tests of a delivery: what each answer of theirs means for the verdict, and what is known past all of them.
use mathlib.Core.List.{List}
use Prim.Native.Nat.{ℕ, ◌≤◌}
use mathlib.Core.Bool.{Bool, true, false, not, cond}
use mathlib.Core.Path.{◌≡◌, refl, sym, ◌∙◌, ap}
use lib.Dec.{eqb, ltb, leb}
use lib.ListN.{length}
use native.Mathlib.Omega.{arith}
use borrow.Author.Tests.{eqb-true, eqb-false, ltb-false, lt-ltb, le-ltb, leb-true, leb-false}
use Rattle.frame.specs.Frame.{cells_of}
use Rattle.frame.specs.declared.Header.{Header}
use Rattle.sheet.specs.RecordA.{record_of}
use Rattle.session.specs.declared.Session.{Session}
use Rattle.session.specs.Session.{sound, complete}
use Rattle.delivery.specs.Deliver.{Verdict, Room, again, wrong, beginning, later, verdict_of}
use Rattle.kinds.specs.declared.Kind.{Kind}
use Rattle.kinds.specs.declared.Kind.TheVariants.{Length, Unsound, Early, Complete, Room as Short}
use Rattle.kinds.specs.Kinds.{number_of}
use Rattle.gate.specs.declared.verdict.Gate.{Gate}
use Rattle.gate.specs.declared.verdict.Gate.TheVariants.{Stop, Again, Begin, Later}
use Rattle.gate.specs.Gate.{gate_by, gate_of}

abbrev pub by_gate : Session → ℕ → List ℕ → Room → Gate → Verdict
by_gate s number block m (Stop kind) = wrong (number_of kind) number 0
by_gate s number block m Again = again
by_gate s number block m Begin = beginning m (record_of s.family block)
by_gate s number block m Later = later s number block

-- room, or too little of it
enough : (h : Header) (cells : ℕ) (t : Bool) → leb (cells_of h) cells ≡ t → ltb cells (cells_of h) ≡ not t
enough h cells true e = le-ltb cells (cells_of h) (leb-true (cells_of h) cells e)
enough h cells false e = lt-ltb cells (cells_of h) (leb-false (cells_of h) cells e)

by-answers : (s : Session) (number : ℕ) (block : List ℕ) (m : Room) (whole sound held ahead first complete roomy : Bool)
    → by_gate s number block m (gate_by whole sound held ahead first complete roomy)
    ≡ cond (not whole) (wrong 1 number 0)
    (cond (not sound) (wrong 2 number 0)
    (cond held again
    (cond ahead (wrong 3 number 0)
    (cond first (beginning m (record_of s.family block))
    (cond complete (wrong 4 number 0) (cond (not roomy) (wrong 12 number 0) (later s number block)))))))
by-answers s number block m false b c d e f g = refl
by-answers s number block m true false c d e f g = refl
by-answers s number block m true true true d e f g = refl
by-answers s number block m true true false true e f g = refl
by-answers s number block m true true false false true f g = refl
by-answers s number block m true true false false false true g = refl
by-answers s number block m true true false false false false false = refl
by-answers s number block m true true false false false false true = refl

gate-verdict : (s : Session) (number : ℕ) (block : List ℕ) (m : Room)
    → by_gate s number block m (gate_of s number (length block) m) ≡ verdict_of s number block m
unfolding verdict_of
gate-verdict s number block m =
    let room = leb (cells_of s.header) m.cells in
    rw (enough s.header m.cells room refl)
    (by-answers s number block m (eqb (length block) 1024) (sound s) (ltb number s.taken) (ltb s.taken number) (eqb number 0) (complete s)
    room)

-- the verdict, by what the gate said
pub gate-said : (s : Session) (number : ℕ) (block : List ℕ) (m : Room) {g : Gate} (x : Gate) → g ≡ gate_of s number (length block) m → g ≡ x
    → by_gate s number block m x ≡ verdict_of s number block m
gate-said s number block m x e f = ap (by_gate s number block m) (sym f ∙ e) ∙ gate-verdict s number block m

-- past all of them the delivery is the next one of a sound session, and the grid is long enough
pub record Due (s : Session) (number : ℕ) (block : List ℕ) (m : Room) : Type 0 where
  pub sound-is : sound s ≡ true
  pub begun : 1 ≤ s.taken
  pub taken_is : number ≡ s.taken
  pub long : length block ≡ 1024
  pub cells : cells_of s.header ≤ m.cells

record Past (whole sound held ahead first roomy : Bool) : Type 0 where
  whole_is : whole ≡ true
  sound-is : sound ≡ true
  held-is : held ≡ false
  ahead-is : ahead ≡ false
  first-is : first ≡ false
  roomy-is : roomy ≡ true

stop-later : (kind : Kind) → Stop kind ≡ Later → ⊥
stop-later kind x = let y : ◌≡◌ {A = ℕ} 0 1 = cc in omega arith

past : (whole sound held ahead first complete roomy : Bool) → gate_by whole sound held ahead first complete roomy ≡ Later
    → Past whole sound held ahead first roomy
past false b c d e f g z = absurd (stop-later Length z)
past true false c d e f g z = absurd (stop-later Unsound z)
past true true true d e f g z = let x : Again ≡ Later = z in let y : ◌≡◌ {A = ℕ} 0 1 = cc in absurd (omega arith)
past true true false true e f g z = absurd (stop-later Early z)
past true true false false true f g z = let x : Begin ≡ Later = z in let y : ◌≡◌ {A = ℕ} 0 1 = cc in absurd (omega arith)
past true true false false false true g z = absurd (stop-later Complete z)
past true true false false false false false z = absurd (stop-later Short z)
past true true false false false false true z =
    record { whole_is = refl; sound-is = refl; held-is = refl; ahead-is = refl; first-is = refl; roomy-is = refl }

pub gate-due : (s : Session) (number : ℕ) (block : List ℕ) (m : Room) → gate_of s number (length block) m ≡ Later → Due s number block m
gate-due s number block m z =
    let room = leb (cells_of s.header) m.cells in
    let p =
    past (eqb (length block) 1024) (sound s) (ltb number s.taken) (ltb s.taken number) (eqb number 0) (complete s) room z
    in
    let n : number ≡ s.taken =
    omega (arith, ltb-false number s.taken p.held-is, ltb-false s.taken number p.ahead-is)
    in
    let o : number ≡ 0 → ⊥ = eqb-false number 0 p.first-is in
    record {
      sound-is = p.sound-is;
      begun = omega (arith, o, n);
      taken_is = n;
      long = eqb-true (length block) 1024 p.whole_is;
      cells = leb-true (cells_of s.header) m.cells p.roomy-is;
    }
