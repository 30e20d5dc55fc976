-- The integer reading, by the places that the steps found; Fields has what each test decides.
use Rattle.std.proofs.Common.{◌≡◌, sym, ◌∙◌, ap, ap₂, true, false, rules, arith, w64, FitsSigned, Err}
use Rattle.std.proofs.lemmas.Int.{to_z-of_z}
use Rattle.laws.specs.Sign.{signed}
use Rattle.number.specs.Integer.{integer, read, wrong_form, integer_form}
use Rattle.number.specs.Reading.{said}
use Rattle.number.specs.Bytes.{is_minus, starts, digits, number}
use Rattle.number.proofs.Fields.{not-within, integer-wrong, form-none, form-short, integer-good, unsigned_is, form-good, byte_at}
use Rattle.number.proofs.Said.{signed-small}
use Rattle.number.proofs.read_integer.Goals as goal
use Rattle.number.proofs.read_integer.Goals.{then-w-u-via-then-w-u, then-w-u-via-else-w-u+then-w-n}

pub returns-then-n-lt1 : goal.returns-then-n-lt1
unfolding integer
returns-then-n-lt1 c = ap (λ u. said (Err u)) c.of.ensures ∙ sym (not-within 6 c.args.field.now _ c.then-n-lt1.either)

pub returns-then-w-u : goal.returns-then-w-u
returns-then-w-u c =
    let s = c.args.field.now in
    let b = c.past_blanks-t.ensures in
    let g = c.past_sign-u.ensures in
    let d = c.read_whole-w.ensures.past in
    let bad : integer_form s ≡ false =
    elim c.then-w-u.branch [
      | then-w-u-via-then-w-u w ↦ form-none s _ _ b g _ d w.if-w-u.true
      | then-w-u-via-else-w-u+then-w-n w ↦ form-short s _ _ b g _ d w.if-w-n.true
    ]
    in
    c.wrong_form.ensures ∙ ap wrong_form (sym (byte_at s _ _ b g _ d)) ∙ sym (integer-wrong s c.if-n-lt1.false c.if-n-gt6.false bad)

pub returns : goal.returns
returns c =
    let s = c.args.field.now in
    let b = c.past_blanks-t.ensures in
    let g = c.past_sign-u.ensures in
    let whole = c.read_whole-w in
    let good : integer_form s ≡ true = form-good s _ _ b g _ whole.ensures.past c.if-w-u.false c.if-w-n.false in
    let sign = c.minus_at.ensures ∙ ap (starts is_minus) b.is in
    let size = c.from.ensures ∙ whole.ensures.value ∙ ap (λ l. number 0 (digits l)) (unsigned_is s _ _ b g) in
    let fits : FitsSigned w64 c.signed.result = search rules in
    let z = to_z-of_z _ _ fits ∙ signed-small _ _ c.signed.ensures (omega (arith, whole.ensures.small)) ∙ ap₂ signed sign size in
    ap read z ∙ sym (integer-good s c.if-n-lt1.false c.if-n-gt6.false good)
