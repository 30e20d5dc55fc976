-- Six steps from the last byte back: Fronts has what each of them adds.
use Rattle.std.proofs.Common.{rules, sym, ◌∙◌, ap, w64, FitsSigned, false, arith}
use Rattle.std.proofs.lemmas.Int.{to_z-of_z}
use Rattle.number.specs.Integer.{read}
use Rattle.number.proofs.Said.{signed-small}
use Rattle.six.proofs.Fronts.{last, step, asked, modest, all_read}
use Rattle.six.proofs.from_the_end.Goals as goal

pub front-requires : goal.front-requires
front-requires c = let s = c.args.field.now in asked s c.requires (last s c.requires c.if-not-is_ascii_digit.ensures.cases) (omega arith)

pub front-requires-then-not-is_ascii_digit-3 : goal.front-requires-then-not-is_ascii_digit-3
front-requires-then-not-is_ascii_digit-3 c =
    let s = c.args.field.now in
    let five = last s c.requires c.if-not-is_ascii_digit.ensures.cases in
    let four = step s c.requires five c.if-not-is_ascii_digit-2.ensures.cases in
    asked s c.requires four (omega arith)

pub front-requires-then-not-is_ascii_digit-4 : goal.front-requires-then-not-is_ascii_digit-4
front-requires-then-not-is_ascii_digit-4 c =
    let s = c.args.field.now in
    let five = last s c.requires c.if-not-is_ascii_digit.ensures.cases in
    let four = step s c.requires five c.if-not-is_ascii_digit-2.ensures.cases in
    let three = step s c.requires four c.if-not-is_ascii_digit-3.ensures.cases in
    asked s c.requires three (omega arith)

pub front-requires-then-not-is_ascii_digit-5 : goal.front-requires-then-not-is_ascii_digit-5
front-requires-then-not-is_ascii_digit-5 c =
    let s = c.args.field.now in
    let five = last s c.requires c.if-not-is_ascii_digit.ensures.cases in
    let four = step s c.requires five c.if-not-is_ascii_digit-2.ensures.cases in
    let three = step s c.requires four c.if-not-is_ascii_digit-3.ensures.cases in
    let two = step s c.requires three c.if-not-is_ascii_digit-4.ensures.cases in
    asked s c.requires two (omega arith)

pub front-requires-then-not-is_ascii_digit-6 : goal.front-requires-then-not-is_ascii_digit-6
front-requires-then-not-is_ascii_digit-6 c =
    let s = c.args.field.now in
    let five = last s c.requires c.if-not-is_ascii_digit.ensures.cases in
    let four = step s c.requires five c.if-not-is_ascii_digit-2.ensures.cases in
    let three = step s c.requires four c.if-not-is_ascii_digit-3.ensures.cases in
    let two = step s c.requires three c.if-not-is_ascii_digit-4.ensures.cases in
    let one = step s c.requires two c.if-not-is_ascii_digit-5.ensures.cases in
    asked s c.requires one (omega arith)

pub returns : goal.returns
returns c =
    let s = c.args.field.now in
    let five = last s c.requires c.if-not-is_ascii_digit.ensures.cases in
    let four = step s c.requires five c.if-not-is_ascii_digit-2.ensures.cases in
    let three = step s c.requires four c.if-not-is_ascii_digit-3.ensures.cases in
    let two = step s c.requires three c.if-not-is_ascii_digit-4.ensures.cases in
    let one = step s c.requires two c.if-not-is_ascii_digit-5.ensures.cases in
    let all = step s c.requires one c.if-not-is_ascii_digit-6.ensures.cases in
    let fits : FitsSigned w64 c.signed.result = search rules in
    all_read s c.requires all ∙ sym (ap read (to_z-of_z _ _ fits ∙ signed-small false _ c.signed.ensures (modest s c.requires all)))
