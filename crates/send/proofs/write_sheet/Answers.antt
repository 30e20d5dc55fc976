-- Judged, and written where nothing stands against it: WholeJudged has each answer.
use Rattle.std.proofs.Common.{◌≡◌, rules}
use Rattle.std.specs.Prelude.{Err}
use Rattle.kinds.specs.Kinds.{number_of}
use Rattle.written.specs.Sending.{sent_told}
use Rattle.send.proofs.AnswerLaws.{good-fits}
use Rattle.send.proofs.WholeJudged.{sheet-refused, sheet-sent}
use Rattle.send.proofs.write_sheet.Goals as goal

pub returns-in_err-h : goal.returns-in_err-h
returns-in_err-h c =
    let r = c.in_err-h.field-0.0 in
    let e : c.from_residual.result ≡ Err r = search rules in
    rw e (sheet-refused c.args.template.now c.args.grid.now c.args.out.now (number_of r.kind) r.number c.in_err-h.ensures)

pub write_fitting-requires : goal.write_fitting-requires
write_fitting-requires c = good-fits c.args.template.now c.args.grid.now c.in_ok-h.h c.in_ok-h.ensures

pub returns : goal.returns
returns c =
    sheet-sent c.args.template.now c.args.grid.now c.args.out.now c.write_fitting.new.out (sent_told c.write_fitting.result)
    c.in_ok-h.h c.in_ok-h.ensures
    c.write_fitting.ensures.0 c.write_fitting.ensures.1
