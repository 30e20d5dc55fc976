-- The verdict: length, family, fields, corner, whole record; HeaderA has why.
use Rattle.std.proofs.Common.{rules, ◌≡◌, sym, ◌∙◌, ap, Err}
use borrow.Author.Tests.{lt-ltb, le-ltb}
use Rattle.kinds.specs.Kinds.{number_of}
use Rattle.laws.specs.Family.{is_canadian}
use Rattle.laws.specs.Sign.{implies}
use Rattle.field.specs.Field.{fault}
use Rattle.field.specs.declared.Fault.{Fault}
use Rattle.field.specs.declared.Broken.{Broken}
use Rattle.frame.specs.Frame.{family_fault}
use Rattle.frame.specs.declared.Header.{Header}
use Rattle.corner.specs.Corner.{says_corner}
use Rattle.heading.specs.Heading.{header_of}
use Rattle.sheet.specs.RecordA.{Checked, fields_fault, corner_told, checked_told}
use Rattle.sheet.specs.RecordA.Checked.{Sheet, Refused}
use Rattle.sheet.proofs.HeaderA.{verdict-length, verdict-family, verdict-field, header_is, verdict-corner, verdict-whole, verdict-sheet}
use Rattle.sheet.proofs.TableA.{stop-kind}
use Rattle.sheet.proofs.check_family.Goals as goal

abbrev refused : Broken → Checked
refused b = Refused (number_of b.kind) b.byte

pub returns-then-block-ne1024 : goal.returns-then-block-ne1024
returns-then-block-ne1024 c = ap refused c.at.ensures ∙ verdict-length c.args.family c.args.block.now c.if-block-ne1024.true

pub returns-then-family-ge2 : goal.returns-then-family-ge2
returns-then-family-ge2 c =
    ap refused c.at-then-family-ge2.ensures
    ∙ verdict-family c.args.family c.args.block.now c.if-block-ne1024.false (le-ltb c.args.family 2 c.if-family-ge2.true)

pub returns-in_err-values : goal.returns-in_err-values
returns-in_err-values c =
    let a = c.args in
    let b = c.in_err-values.field-0.0 in
    let told : c.from_residual.result ≡ Err b = search rules in
    ap checked_told told
    ∙ verdict-field a.family a.block.now c.if-block-ne1024.false (lt-ltb a.family 2 c.if-family-ge2.false) (fault (number_of b.kind) b.byte)
    c.in_err-values.ensures.fault
    (stop-kind b)

-- no field is at fault, and the header is the block's
pub returns-then-not-corner_told : goal.returns-then-not-corner_told
unfolding header_of
returns-then-not-corner_told c =
    let a = c.args in
    let fine : (fields_fault a.family a.block.now).kind ≡ 0 = ap (λ (x : Fault). x.kind) (sym c.in_ok-values.ensures.fault) in
    let header : c.header_from-h.result ≡ header_of a.block.now =
    c.header_from-h.ensures ∙ header_is a.family a.block.now c.in_ok-values.values fine c.in_ok-values.ensures.values
    in
    let corner : c.corner_told.result ≡ corner_told a.family a.block.now =
    c.corner_told.ensures ∙ ap (λ (h : Header). implies (is_canadian a.family) (says_corner a.block.now h.sw.x h.sw.y)) header
    in
    ap refused c.at-then-not-corner_told.ensures
    ∙ verdict-corner a.family a.block.now c.if-block-ne1024.false (lt-ltb a.family 2 c.if-family-ge2.false) fine
    (sym corner ∙ c.if-not-corner_told.true)

pub returns-in_err-judge_family : goal.returns-in_err-judge_family
unfolding header_of
returns-in_err-judge_family c =
    let a = c.args in
    let b = c.in_err-judge_family.field-0.0 in
    let told : c.from_residual-in_err-judge_family.result ≡ Err b = search rules in
    let fine : (fields_fault a.family a.block.now).kind ≡ 0 = ap (λ (x : Fault). x.kind) (sym c.in_ok-values.ensures.fault) in
    let header : c.header_from-h.result ≡ header_of a.block.now =
    c.header_from-h.ensures ∙ header_is a.family a.block.now c.in_ok-values.values fine c.in_ok-values.ensures.values
    in
    let corner : c.corner_told.result ≡ corner_told a.family a.block.now =
    c.corner_told.ensures ∙ ap (λ (h : Header). implies (is_canadian a.family) (says_corner a.block.now h.sw.x h.sw.y)) header
    in
    ap checked_told told
    ∙ verdict-whole a.family a.block.now c.if-block-ne1024.false (lt-ltb a.family 2 c.if-family-ge2.false) fine
    (sym corner ∙ c.if-not-corner_told.false)
    (fault (number_of b.kind) b.byte)
    (c.in_err-judge_family.ensures ∙ ap (family_fault a.family) header)
    (stop-kind b)

pub returns : goal.returns
unfolding header_of
returns c =
    let a = c.args in
    let fine : (fields_fault a.family a.block.now).kind ≡ 0 = ap (λ (x : Fault). x.kind) (sym c.in_ok-values.ensures.fault) in
    let header : c.header_from-h.result ≡ header_of a.block.now =
    c.header_from-h.ensures ∙ header_is a.family a.block.now c.in_ok-values.values fine c.in_ok-values.ensures.values
    in
    let corner : c.corner_told.result ≡ corner_told a.family a.block.now =
    c.corner_told.ensures ∙ ap (λ (h : Header). implies (is_canadian a.family) (says_corner a.block.now h.sw.x h.sw.y)) header
    in
    ap Sheet header
    ∙ verdict-sheet a.family a.block.now c.if-block-ne1024.false (lt-ltb a.family 2 c.if-family-ge2.false) fine
    (sym corner ∙ c.if-not-corner_told.false)
    (ap (λ (x : Fault). x.kind) (sym (c.in_ok-judge_family.ensures ∙ ap (family_fault a.family) header)))
