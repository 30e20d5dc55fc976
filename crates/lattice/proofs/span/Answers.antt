-- The first multiple of the values with their signs turned is the last, and none lies farther from zero than its value.
use Rattle.std.proofs.Common.{ℕ, ℤ, pos, arith, ◌≡◌, ◌+ℤ◌, ◌-ℤ◌, ◌≤◌, ◌<◌, ◌^◌, ap, ap₂, ◌∙◌, sym, true}
use lib.IntN.{neg_ℤ, nat_abs}
use mir.Facts.{to_z-of_z}
use mir.Syntax.{w64}
use mir.Val.{SFits}
use Rattle.laws.proofs.Integers.{size_fits, size-minus}
use Rattle.std.specs.Int.{int_max}
use Rattle.lattice.specs.Lattice.{first_multiple, last_multiple, many_from, is_real}
use Rattle.lattice.proofs.Cases.{real_read, real-small, lattice-cases, lattice-holds}
use Rattle.lattice.proofs.Kept.{kept, size_kept, less-small, not_below, turned, raised}
use Rattle.lattice.proofs.Multiples.{first-small, last-is}
use Rattle.lattice.proofs.span.Goals as goal

-- the two ends, and how far the second lies behind the first
module _ (least greatest : ℤ) (s : ℕ) (p : 1 ≤ s) (rl : is_real least ≡ true) (rg : is_real greatest ≡ true) (r t : ℤ) (fits : SFits w64 r) (e : r ≡ first_multiple (kept least) s) (q : t ≡ first_multiple (kept (pos 0 -ℤ kept greatest)) s) where
  abbrev first : ℤ
  first = first_multiple least s

  abbrev last : ℤ
  last = last_multiple greatest s

  abbrev found : ℤ
  found = kept (kept (pos 0 -ℤ kept t) +ℤ pos 1) -ℤ kept r

  first_found : kept r ≡ first
  first_found = to_z-of_z fits ∙ e ∙ ap (λ v. first_multiple v s) (size_kept least (omega (arith, real-small least rl)))

  turned_found : t ≡ first_multiple (neg_ℤ greatest) s
  turned_found = q ∙ ap (λ v. first_multiple v s) (turned greatest (real-small greatest rg))

  turned-small : nat_abs t < 10 ^ 18
  turned-small = omega (arith, ap nat_abs turned_found, first-small s p (neg_ℤ greatest), size-minus greatest, real-small greatest rg)

  last_found : kept (pos 0 -ℤ kept t) ≡ last
  last_found = turned t turned-small ∙ ap neg_ℤ turned_found ∙ last-is s p greatest

  last-small : nat_abs last < 10 ^ 18
  last-small = omega (arith, ap nat_abs (last-is s p greatest), size-minus (first_multiple (neg_ℤ greatest) s), ap nat_abs turned_found, turned-small)

  past : found ≡ last +ℤ pos 1 -ℤ first
  past = ap₂ (λ v w. v -ℤ w) (ap (λ v. kept (v +ℤ pos 1)) last_found ∙ (raised last last-small).1) first_found

  past-small : nat_abs (last +ℤ pos 1 -ℤ first) < 2 ^ 63
  past-small = less-small (last +ℤ pos 1) first (raised last last-small).0 (omega (arith, first-small s p least, real-small least rl))

  found_fits : SFits w64 found
  found_fits = rw past (size_fits (last +ℤ pos 1 -ℤ first) past-small)

  counted : (m : ℤ) → SFits w64 m → m ≡ int_max (kept found) (pos 0) → nat_abs (kept m) ≡ many_from first last
  counted m f h =
      ap nat_abs (to_z-of_z f ∙ h ∙ ap (λ z. int_max (kept z) (pos 0)) past ∙ ap (λ z. int_max z (pos 0)) (size_kept (last +ℤ pos 1 -ℤ first) past-small))
      ∙ not_below (last +ℤ pos 1 -ℤ first)

pub overflow_sub-last-2 : goal.overflow_sub-last-2
overflow_sub-last-2 c =
    let a = c.args in
    let rl = real_read c.ranges.least c.is_real.ensures c.if-not-is_real.false in
    let rg = real_read c.ranges.greatest c.is_real-else-not-is_real.ensures c.if-not-is_real-2.false in
    found_fits a.least a.greatest a.spacing c.if-spacing-lt1.false rl rg c.first_multiple-first.result c.first_multiple-last.result
    (record { sfits = c.first_multiple-first.type_inv }) c.first_multiple-first.ensures c.first_multiple-last.ensures

pub returns : goal.returns
returns c =
    let a = c.args in
    let s = c.if-spacing-lt1.false in
    let rl = real_read c.ranges.least c.is_real.ensures c.if-not-is_real.false in
    let rg = real_read c.ranges.greatest c.is_real-else-not-is_real.ensures c.if-not-is_real-2.false in
    let fits : SFits w64 c.first_multiple-first.result = record { sfits = c.first_multiple-first.type_inv } in
    let e = c.first_multiple-first.ensures in
    let q = c.first_multiple-last.ensures in
    let r = c.first_multiple-first.result in
    let t = c.first_multiple-last.result in
    ap₂ (λ f n. record { first = f; count = n }) (first_found a.least a.greatest a.spacing s rl rg r t fits e q)
    (counted a.least a.greatest a.spacing s rl rg r t fits e q c.max.result (record { sfits = c.max.type_inv }) c.max.ensures.value)
    ∙ sym (lattice-cases a.least a.greatest a.spacing true (lattice-holds a.least a.greatest a.spacing rl rg s))
