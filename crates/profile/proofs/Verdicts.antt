-- The verdict on a record C, by what its halves and its rest come to.
use mathlib.Core.Bool.{cond, true, false}
use mathlib.Core.List.{List, [], ◌∷◌, ◌++◌}
use mathlib.Core.Path.{◌≡◌, refl}
use Prim.Native.Nat.{ℕ}
use borrow.Author.Tests.{eq-eqb}
use lib.Dec.{eqb}
use lib.ListN.{length, drop}
use Rattle.kinds.proofs.Numbers.{not-zero}
use Rattle.kinds.specs.Kinds.{number_of}
use Rattle.laws.specs.Texts.{every}
use Rattle.laws.proofs.Tests.{by-test}
use Rattle.number.specs.Bytes.{is_blank}
use Rattle.field.specs.Field.{Judged, fault, first_of, rest_fault}
use Rattle.field.specs.declared.Fault.{Fault}
use Rattle.field.specs.declared.Broken.{Broken}
use Rattle.profile.specs.RecordC.{half_fields, record_c}

-- one check, and what comes where it finds no fault
abbrev pub or_else : Fault → Fault → Fault
or_else f g = cond (eqb f.kind 0) g f

first_of_both : (xs ys : List Judged) → first_of (xs ++ ys) ≡ or_else (first_of xs) (first_of ys)
first_of_both [] ys = refl
first_of_both (j ∷ js) ys = by-test (eqb j.reading.kind 0) (λ e. rw e (first_of_both js ys)) (λ e. simp e)

module _ (block : List ℕ) (h : length block ≡ 1024) where
  by_halves : record_c block ≡ or_else (first_of (half_fields 1 block)) (or_else (first_of (half_fields 31 block)) (rest_fault 61 block))
  unfolding record_c
  by_halves =
      rw (eq-eqb (length block) 1024 h, first_of_both (half_fields 1 block) (half_fields 31 block))
      (by-test (eqb (first_of (half_fields 1 block)).kind 0) (λ e. rw e) (λ e. simp e))

  module _ (one : fault 0 0 ≡ first_of (half_fields 1 block)) where
    pub c_second : (b : Broken) → fault (number_of b.kind) b.byte ≡ first_of (half_fields 31 block)
        → fault (number_of b.kind) b.byte ≡ record_c block
    c_second b two = rw (by_halves, ← one, ← two, not-zero b.kind) refl

    module _ (two : fault 0 0 ≡ first_of (half_fields 31 block)) where
      pub c_rest : every is_blank (drop 60 block) ≡ false → fault 5 61 ≡ record_c block
      c_rest e = rw (by_halves, ← one, ← two, e) refl

      pub c_good : every is_blank (drop 60 block) ≡ true → fault 0 0 ≡ record_c block
      c_good e = rw (by_halves, ← one, ← two, e) refl
