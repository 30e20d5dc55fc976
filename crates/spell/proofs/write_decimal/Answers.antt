-- A real written: refused where its size is too large or not short, else what is put in the scratch is the text that is placed.
use Rattle.std.proofs.Common.{◌≡◌, ◌^◌, ◌<◌, ◌≤◌, ℕ, Bool, true, false, cond, List, ℤ, nat_abs, length, sym, ap, ◌∙◌, arith, w64}
use Rattle.std.proofs.lemmas.Int.{to_z-of_z}
use borrow.Author.Tests.{le-ltb, lt-ltb}
use Rattle.laws.specs.Digits.{short}
use Rattle.spell.specs.Spell.{real_fits, real_text}
use Rattle.spell.proofs.Texts.{fits-is}
use Rattle.spell.proofs.Pieces.{placed}
use Rattle.spell.proofs.write_decimal.Goals as goal
use Rattle.spell.proofs.write_decimal.Goals.{then-size-ge-LIMIT-via-then-size-ge-LIMIT, then-size-ge-LIMIT-via-else-size-ge-LIMIT+then-not-is_short}

module _ (digits width n : ℕ) (z : ℤ) (e : n ≡ nat_abs z) where
  too_large : 10 ^ 18 ≤ n → false ≡ real_fits digits width z
  unfolding real_fits
  too_large h = let k : 10 ^ 18 ≤ nat_abs z = omega arith in simp (le-ltb _ _ k)

  not_short : n < 10 ^ 18 → false ≡ short 18 digits n → false ≡ real_fits digits width z
  unfolding real_fits
  not_short h s =
      let k : nat_abs z < 10 ^ 18 = omega arith in
      let t : short 18 digits (nat_abs z) ≡ false = sym (s ∙ ap (short 18 digits) e) in
      simp (lt-ltb _ _ k, t)

as_lent : (t : List ℕ) {field : List ℕ} {b : Bool} → false ≡ b → field ≡ cond b t field
as_lent t e = rw (← e)

unfit : (c : goal.Joined-then-size-ge-LIMIT) → false ≡ real_fits c.args.digits (length c.args.field.now) c.args.value
unfit c =
    let n = rw (to_z-of_z w64 c.args.value c.ranges.value) at c.unsigned_abs-size.ensures.value in
    elim c.then-size-ge-LIMIT.branch [
      | then-size-ge-LIMIT-via-then-size-ge-LIMIT w ↦ too_large _ _ _ _ n w.if-size-ge-LIMIT.true
      | then-size-ge-LIMIT-via-else-size-ge-LIMIT+then-not-is_short w ↦ not_short _ _ _ _ n w.if-size-ge-LIMIT.false w.if-not-is_short.ensures
    ]

pub returns-then-size-ge-LIMIT-clause-fits : goal.returns-then-size-ge-LIMIT-clause-fits
returns-then-size-ge-LIMIT-clause-fits c = unfit c

pub returns-then-size-ge-LIMIT-clause-written : goal.returns-then-size-ge-LIMIT-clause-written
returns-then-size-ge-LIMIT-clause-written c = as_lent _ (unfit c)

pub returns-clause-fits : goal.returns-clause-fits
returns-clause-fits c =
    let a = c.args in
    let v = to_z-of_z w64 c.args.value c.ranges.value in
    let n = rw v at c.unsigned_abs-size.ensures.value in
    let h : nat_abs a.value < 10 ^ 18 = omega arith in
    let s : short 18 a.digits (nat_abs a.value) ≡ true = sym (c.if-not-is_short.ensures ∙ ap (short 18 a.digits) n) in
    rw (fits-is a.digits a.letter (length a.field.now) a.value h s)
    (placed a.field.now (rw v at c.put_decimal-end.ensures).text (c.place.ensures.fits, c.place.ensures.placed)).0

pub returns-clause-written : goal.returns-clause-written
unfolding real_text
returns-clause-written c =
    let a = c.args in
    let v = to_z-of_z w64 c.args.value c.ranges.value in
    let n = rw v at c.unsigned_abs-size.ensures.value in
    let h : nat_abs a.value < 10 ^ 18 = omega arith in
    let s : short 18 a.digits (nat_abs a.value) ≡ true = sym (c.if-not-is_short.ensures ∙ ap (short 18 a.digits) n) in
    rw (fits-is a.digits a.letter (length a.field.now) a.value h s)
    (placed a.field.now (rw v at c.put_decimal-end.ensures).text (c.place.ensures.fits, c.place.ensures.placed)).1
