-- A power of ten: one of wrong form, or a letter, a sign and one or two digits. Powers has what each test decides.
use Rattle.std.proofs.Common.{sym}
use Rattle.number.proofs.Powers.{power-no-digit, power-third-digit, power-good}
use Rattle.number.proofs.decimal.read_power.Goals as goal

pub returns-then-run-first : goal.returns-then-run-first
returns-then-run-first c =
    let a = c.args in
    power-no-digit a.s.now a.from c.past_sign-first.result c.keep_digits-run.result (sym c.if-not-letter_at.ensures)
    c.past_sign-first.ensures
    c.keep_digits-run.ensures
    c.if-run-first.true _ c.wrong_form.ensures

pub returns-then-first-run : goal.returns-then-first-run
returns-then-first-run c =
    let a = c.args in
    power-third-digit a.s.now a.from c.past_sign-first.result c.keep_digits-run.result (sym c.if-not-letter_at.ensures)
    c.past_sign-first.ensures
    c.keep_digits-run.ensures
    c.if-first-run.true _ c.wrong_form-then-first-run.ensures

pub returns : goal.returns
returns c =
    let a = c.args in
    power-good a.s.now a.from c.past_sign-first.result c.keep_digits-run.result (sym c.if-not-letter_at.ensures)
    c.past_sign-first.ensures
    c.keep_digits-run.ensures
    c.if-run-first.false
    c.if-first-run.false
    c.minus_at.result
    c.minus_at.ensures
