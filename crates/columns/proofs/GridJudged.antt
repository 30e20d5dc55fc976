-- The verdict on a template, by the test that decided it; and the sizes of a sheet's grid.
use Rattle.std.proofs.Common.{ℕ, ℤ, List, ◌≡◌, true, refl, ap, length, ◌*◌, ◌≤◌, arith, eq-eqb, ne_eqb}
use native.Mathlib.Nat.{mul-le-mul}
use Rattle.frame.specs.Frame.{columns_of, rows_of}
use Rattle.frame.specs.declared.Header.{Header}
use Rattle.heading.specs.Heading.{header_obeys, header_of}
use Rattle.heading.proofs.HeadingFacts.{header-facts}
use Rattle.sheet.specs.RecordA.{record_a}
use Rattle.sheet.specs.RecordA.Checked.{Sheet, Refused}
use Rattle.sheet.proofs.RulesA.{sheet-header}
use Rattle.written.specs.Sending.{grid_objection, sheet_objection}
use Rattle.written.proofs.SheetPasses.{refused-kind}
use Rattle.columns.specs.Judging.{judged_by}
use Rattle.columns.specs.Judging.Judged.{Bad}

-- a sheet's columns times its rows, as the code multiplies them
pub cells-most : (h : Header) → header_obeys h ≡ true → (columns rows : ℕ) → columns ≡ columns_of h → rows ≡ rows_of h → columns * rows ≤ 4194304
cells-most h obeys columns rows e f =
    let x : columns ≤ 2048 = omega (arith, e, (header-facts h obeys).columns.1) in
    let y : rows ≤ 2048 = omega (arith, f, (header-facts h obeys).rows.1) in
    omega (arith, mul-le-mul x y)

-- ---- the template

module _ (template : List ℕ) (grid : List ℤ) (l : length template ≡ 1024) where
  pub template-refused : (kind byte : ℕ) → record_a template ≡ Refused kind byte
      → Bad kind byte ≡ judged_by (header_of template) (sheet_objection template grid)
  unfolding sheet_objection
  template-refused kind byte e = rw (eq-eqb (length template) 1024 l, e, ne_eqb kind 0 (refused-kind template kind byte e))

  pub template-sheet : (h : Header) → record_a template ≡ Sheet h
      → judged_by h (grid_objection h grid) ≡ judged_by (header_of template) (sheet_objection template grid)
  unfolding sheet_objection
  template-sheet h e =
      rw (eq-eqb (length template) 1024 l, e)
      (ap (λ (g : Header). judged_by g (grid_objection h grid)) (sheet-header 0 refl template e))
