-- The table of record A as the code walks it: each row stands inside the block, and a walk over rows reaches the first fault or all values.
use mathlib.Core.Bool.{Bool, true, false, cond}
use Prim.Native.Nat.{◌+◌, ◌-◌, ℕ, ◌≤◌, ◌<◌}
use lib.Dec.{T, leb, leb→le, eqb}
use mathlib.Core.List.{List, [], ◌∷◌, ◌++◌, map}
use mathlib.Core.Path.{◌≡◌, refl, sym, ◌∙◌, ap}
use native.Mathlib.Omega.{arith}
use lib.ListN.{drop, length, get_or, set, length-set, length-map}
use lib.IntN.{ℤ, pos}
use native.Mathlib.Numerals.{add-one}
use lib.Seq.{drop-cons, get_or-set_same, get_or-set_other}
use native.Mathlib.Decide.{ℕ_discrete}
use borrow.Author.Tests.{eqb-false, eq-eqb, ne_eqb}
use Rattle.std.specs.Prelude.{Result, Ok, Err}
use Rattle.std.specs.List.{AllWithin, HoldsAt}
use Rattle.std.specs.Option.{MatchOption, unwrap_or}
use Rattle.std.proofs.Common.{Option}
use Rattle.std.proofs.lemmas.Iterator.{index_from_first}
use Rattle.std.proofs.lemmas.List.{get_or-map}
use Rattle.kinds.specs.Kinds.{number_of}
use Rattle.kinds.proofs.Numbers.{not-zero}
use Rattle.laws.specs.Family.{is_canadian}
use Rattle.laws.specs.Sign.{◌and◌}
use Rattle.laws.proofs.Tables.{all, all-at, and_left, and_right}
use Rattle.laws.proofs.Tests.{by-test, clash, either}
use Rattle.number.specs.Reading.{said}
use Rattle.number.specs.declared.Reading.{Reading}
use Rattle.number.specs.declared.Unread.{Unread}
use Rattle.field.specs.Field.{fault, fault_or}
use Rattle.field.specs.declared.Fault.{Fault}
use Rattle.field.specs.Told.{fault_told, placed}
use Rattle.field.specs.declared.Broken.{Broken}
use Rattle.sheet.specs.RecordA.{Row, canadian_front, usgs_front, back, front_of, judge_row, first_fault, fields_fault}
use Rattle.sheet.specs.declared.Row.{Row as declared-Row}
use Rattle.sheet.specs.declared.Rule.TheVariants.{Words}
use Rattle.sheet.specs.RecordASteps.{place_in, row_told, no_row, Inside, AllInside}

-- ---- every row stands inside the 1,024 bytes
abbrev inside : Row → Bool
inside r = leb 1 r.first and leb (r.first - 1 + r.width) 1024

all_inside : (rs : List Row) → T (all inside rs) → AllInside rs
all_inside rs t i h =
    let r = get_or rs i no_row in
    let u = all-at inside rs no_row t i h in
    record { begins = leb→le 1 _ (and_left (leb 1 r.first) _ u); ends = leb→le _ 1024 (and_right (leb 1 r.first) _ u) }

pub front-inside : (family : ℕ) → AllInside (front_of family)
unfolding canadian_front usgs_front
front-inside family = either AllInside (is_canadian family) (all_inside canadian_front tt) (all_inside usgs_front tt)

pub front-short : (family : ℕ) → length (front_of family) ≤ 40
unfolding canadian_front usgs_front
front-short family = either (λ (rs : List Row). length rs ≤ 40) (is_canadian family) (omega arith) (omega arith)

pub back-inside : AllInside back
unfolding back
back-inside = all_inside back tt

-- ---- the walk, row by row

-- a row of the code's table, and what it says
pub told-at : (rows : List declared-Row) (i : ℕ) → i < length rows
    → (i < length (map row_told rows)) × (get_or (map row_told rows) i no_row ≡ row_told (get_or rows i (0, 0, Words)))
told-at rows i h = (rw (length-map rows row_told) h, get_or-map row_told rows i (0, 0, Words) no_row h)

pub row-inside : (rows : List declared-Row) (i : ℕ) → i < length rows → AllInside (map row_told rows)
    → Inside (row_told (get_or rows i (0, 0, Words)))
row-inside rows i h inside = let t = told-at rows i h in rw (← t.1) (inside i t.0)

pub record Reached (family : ℕ) (block : List ℕ) (rs : List Row) (before values : List ℤ) (i : ℕ) : Type 0 where
  pub many : length values ≡ length before
  pub left : first_fault family block (drop i rs) ≡ first_fault family block rs
  pub read : (j : ℕ) → j < i → get_or values j (pos 0) ≡ (judge_row family block (get_or rs j no_row)).value

-- a reading that is refused is the fault of its row
placed-fault : (got : Result ℤ Unread) (byte : ℕ) (rest : Fault) (b : Broken) → placed byte got ≡ Err b
    → fault (number_of b.kind) b.byte ≡ fault_or (said got) byte rest
placed-fault (Ok z) byte rest b e = clash (ap (λ (r : Result ℤ Broken). eqb (fault_told r).kind 0) e ∙ not-zero b.kind)
placed-fault (Err u) byte rest b e = sym (ap fault_told e) ∙ rw (not-zero u.kind)

abbrev value_in : Result ℤ Broken → ℤ
value_in (Ok z) = z
value_in (Err b) = pos 0

placed-value : (got : Result ℤ Unread) (byte : ℕ) (z : ℤ) → placed byte got ≡ Ok z → said (Ok z) ≡ said got
placed-value (Ok y) byte z e = ap (λ (w : ℤ). said (Ok w)) (ap value_in (sym e))
placed-value (Err u) byte z e = clash (ap (λ (r : Result ℤ Broken). eqb (fault_told r).kind 0) (sym e) ∙ not-zero u.kind)

module _ (family : ℕ) (block : List ℕ) (rs : List Row) (before values : List ℤ) (i : ℕ) (p : Reached family block rs before values i)
    (h : i < length rs) (r : Row) (here : get_or rs i no_row ≡ r) (got : Result ℤ Unread) (is : said got ≡ judge_row family block r) where
  -- what is left begins with this row
  step : fault_or (said got) r.first (first_fault family block (drop (i + 1) rs)) ≡ first_fault family block rs
  step =
      let on : drop i rs ≡ get_or rs i no_row ∷ drop (i + 1) rs = rw (add-one i) (drop-cons rs i no_row h) in
      ap (λ (x : Reading). fault_or x r.first (first_fault family block (drop (i + 1) rs))) is
      ∙ sym (ap (first_fault family block) (on ∙ ap (λ (x : Row). x ∷ drop (i + 1) rs) here))
      ∙ p.left

  -- a row that is refused ends the walk
  pub reached-stop : (b : Broken) → placed r.first got ≡ Err b → fault (number_of b.kind) b.byte ≡ first_fault family block rs
  reached-stop b e = placed-fault got r.first (first_fault family block (drop (i + 1) rs)) b e ∙ step

  -- a row that is good leaves its value
  pub reached-turn : (z : ℤ) → placed r.first got ≡ Ok z → i < length before → Reached family block rs before (set values i z) (i + 1)
  reached-turn z e room =
      let good : said (Ok z) ≡ said got = placed-value got r.first z e in
      record {
        many = length-set values i z ∙ p.many;
        left = ap (λ (x : Reading). fault_or x r.first (first_fault family block (drop (i + 1) rs))) good ∙ step;
        read = λ j k. go j k (ℕ_discrete j i);
      }
    where
      go : (j : ℕ) → j < i + 1 → Dec (j ≡ i) → get_or (set values i z) j (pos 0) ≡ (judge_row family block (get_or rs j no_row)).value
      go j k (yes d) =
          let good : said (Ok z) ≡ said got = placed-value got r.first z e in
          rw d
          (get_or-set_same values i z (pos 0) (omega (arith, p.many))
          ∙ ap (λ (x : Reading). x.value) (good ∙ is)
          ∙ ap (λ (x : Row). (judge_row family block x).value) (sym here))
      go j k (no f) = get_or-set_other values i j z (pos 0) f ∙ p.read j (omega arith)

pub stop-kind : (b : Broken) → number_of b.kind ≡ 0 → ⊥
stop-kind b z = eqb-false (number_of b.kind) 0 (not-zero b.kind) z

-- ---- two runs of rows, one behind the other
pub fault-append : (family : ℕ) (block : List ℕ) (rs qs : List Row)
    → first_fault family block (rs ++ qs)
    ≡ cond (eqb (first_fault family block rs).kind 0) (first_fault family block qs) (first_fault family block rs)
fault-append family block [] qs = refl
fault-append family block (r ∷ rs) qs =
    by-test (eqb (judge_row family block r).kind 0) (λ e. rw e (fault-append family block rs qs)) (λ e. rw (e, e))

-- a family's fields: its front's fault, or else the back's
module _ (family : ℕ) (block : List ℕ) (f : Fault) (front : f ≡ first_fault family block (front_of family)) where
  pub front-fault : (f.kind ≡ 0 → ⊥) → f ≡ fields_fault family block
  front-fault n =
      let k : eqb (first_fault family block (front_of family)).kind 0 ≡ false = ap (λ (x : Fault). eqb x.kind 0) (sym front) ∙ ne_eqb f.kind 0 n in
      front ∙ sym (fault-append family block (front_of family) back ∙ rw k)

  pub back-fault : f.kind ≡ 0 → first_fault family block back ≡ fields_fault family block
  back-fault z =
      let k : eqb (first_fault family block (front_of family)).kind 0 ≡ true = ap (λ (x : Fault). eqb x.kind 0) (sym front) ∙ eq-eqb f.kind 0 z in
      sym (fault-append family block (front_of family) back ∙ rw k)

-- ---- the place of a field, looked up by its first byte
pub place-first : (first : ℕ) (rows : List declared-Row) (found : Option ℕ)
    → MatchOption found (AllWithin (λ r. eqb r.0 first ≡ false) rows 0 (length rows))
    (λ i. (i < length rows) × HoldsAt (λ r. eqb r.0 first ≡ true) rows i × AllWithin (λ r. eqb r.0 first ≡ false) rows 0 i)
    → unwrap_or found (length rows) ≡ place_in first (map row_told rows)
place-first first rows found at =
    sym
    (index_from_first (λ rs. place_in first (map row_told rs)) (λ r. eqb r.0 first ≡ true) (λ r. eqb r.0 first ≡ false) refl (λ x xs e. rw e)
    (λ x xs e. rw e (omega arith)) rows found at)
