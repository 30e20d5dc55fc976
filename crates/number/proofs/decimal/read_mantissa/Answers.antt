-- A mantissa: whole digits, a point if there is one, the digits of the fraction.
use Rattle.std.proofs.Common.{◌≡◌, sym, ◌∙◌, ap, ap₂, arith, length, drop, length-append}
use Rattle.number.specs.Bytes.{is_point, is_digit, starts, past_one, past_all, digits}
use Rattle.number.specs.Real.{fraction_part}
use Rattle.number.specs.Steps.{none, kept_all}
use Rattle.number.proofs.Places.{one-stands}
use Rattle.number.proofs.Runs.{run_length, kept_append}
use Rattle.number.proofs.decimal.read_mantissa.Goals as goal

pub returns : goal.returns
returns c =
    let s = c.args.s.now in
    let from = c.args.from in
    let whole = c.keep_digits-a.result.next in
    let point = c.past_point-point.result in
    let next = c.keep_digits-b.result.next in
    let ra = c.keep_digits-a.ensures in
    let rf = c.past_point-point.ensures in
    let rb = c.keep_digits-b.ensures in
    let e : drop point s ≡ fraction_part (drop from s) = rf.is ∙ ap (past_one is_point) ra.past.is in
    record {
      past =
          record {
            onward = omega (arith, ra.past.onward, rf.onward, rb.past.onward);
            inside = rb.past.inside;
            is = rb.past.is ∙ ap (past_all is_digit) e;
          };
      count =
          omega (
            arith,
            run_length s from whole ra.past,
            run_length s point next rb.past,
            ap (λ l. length (digits l)) e,
            length-append (digits (drop from s)) (digits (fraction_part (drop from s))),
          );
      pointed = one-stands is_point s whole point rf ∙ ap (starts is_point) ra.past.is;
      order = rb.past.onward;
      standing = sym (run_length s point next rb.past) ∙ ap (λ l. length (digits l)) e;
      kept =
          rb.kept
          ∙ ap₂ kept_all ra.kept (ap digits e)
          ∙ sym (kept_append none (digits (drop from s)) (digits (fraction_part (drop from s))));
      small = rb.small;
      few = rb.few;
    }
