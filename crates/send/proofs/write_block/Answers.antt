-- "1 lent block length (number 0)", then the sheet, then the number.
use Rattle.std.proofs.Common.{◌≡◌, rules}
use Rattle.std.specs.Prelude.{Err}
use Rattle.kinds.specs.Kinds.{number_of}
use Rattle.written.specs.Sending.{sent_told}
use Rattle.send.proofs.AnswerLaws.{length-answer, good-asked, bad-answer, good-answer}
use Rattle.send.proofs.write_block.Goals as goal

pub returns-then-block-ne1024 : goal.returns-then-block-ne1024
returns-then-block-ne1024 c =
    rw c.of.ensures
    (length-answer c.args.template.now c.args.grid.now c.args.number c.args.block.now c.if-block-ne1024.true)

pub returns-in_err-h : goal.returns-in_err-h
returns-in_err-h c =
    let r = c.in_err-h.field-0.0 in
    let e : c.from_residual.result ≡ Err r = search rules in
    rw e
    (bad-answer c.args.template.now c.args.grid.now (number_of r.kind) r.number c.in_err-h.ensures c.args.number c.args.block.now
    c.if-block-ne1024.false)

pub write_number-requires : goal.write_number-requires
write_number-requires c =
    good-asked c.args.template.now c.args.grid.now c.in_ok-h.h c.in_ok-h.ensures c.args.block.now c.if-block-ne1024.false

pub returns : goal.returns
returns c =
    good-answer c.args.template.now c.args.grid.now c.in_ok-h.h c.in_ok-h.ensures c.args.number c.args.block.now
    c.write_number.new.block
    (sent_told c.write_number.result)
    c.if-block-ne1024.false
    c.write_number.ensures
