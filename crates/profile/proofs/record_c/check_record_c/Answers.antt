-- The second half and the rest, behind a first half without fault.
use Rattle.std.proofs.Common.{◌≡◌, sym, ◌∙◌, ap}
use Rattle.std.specs.Prelude.{Err}
use Rattle.field.specs.Field.{fault, first_of}
use Rattle.field.specs.Told.{fault_told}
use Rattle.profile.specs.RecordC.{half_fields}
use Rattle.field.proofs.OneTold.{err-told}
use Rattle.profile.proofs.Verdicts.{c_second, c_rest, c_good}
use Rattle.profile.proofs.record_c.check_record_c.Goals as goal

pub returns-in_err-check_half-2 : goal.returns-in_err-check_half-2
returns-in_err-check_half-2 c =
    let b = c.args.block.now in
    let one : fault 0 0 ≡ first_of (half_fields 1 b) = c.in_ok-check_half.ensures in
    let broken = c.in_err-check_half-2.field-0.0 in
    let told : c.from_residual-in_err-check_half-2.result ≡ Err broken =
    err-told _ broken _ (λ e q. q) c.from_residual-in_err-check_half-2.ensures
    in
    ap fault_told told ∙ c_second b c.if-block-ne1024.false one broken c.in_err-check_half-2.ensures

pub returns-then-not-blank_from : goal.returns-then-not-blank_from
returns-then-not-blank_from c =
    let b = c.args.block.now in
    let one : fault 0 0 ≡ first_of (half_fields 1 b) = c.in_ok-check_half.ensures in
    let two : fault 0 0 ≡ first_of (half_fields 31 b) = c.in_ok-check_half-2.ensures in
    rw c.at-then-not-blank_from.ensures (c_rest b c.if-block-ne1024.false one two (sym c.blank_from.ensures ∙ c.if-not-blank_from.true))

pub returns : goal.returns
returns c =
    let b = c.args.block.now in
    let one : fault 0 0 ≡ first_of (half_fields 1 b) = c.in_ok-check_half.ensures in
    let two : fault 0 0 ≡ first_of (half_fields 31 b) = c.in_ok-check_half-2.ensures in
    c_good b c.if-block-ne1024.false one two (sym c.blank_from.ensures ∙ c.if-not-blank_from.false)
