-- The real reading, by the places that the steps found; Fields and Reals have what each test decides.
use Rattle.std.proofs.Common.{◌≡◌, ℕ, ◌+◌, ◌≤◌, Bool, List, length, cond, ltb, ◌-◌, sym, ◌∙◌, ap, Result, Err, rules}
use Rattle.number.specs.Bytes.{is_blank, is_sign, is_minus, starts, past_one, past_all}
use Rattle.number.specs.Integer.{wrong_form}
use Rattle.number.specs.Reading.{said}
use Rattle.number.specs.Real.{real, assumed}
use Rattle.number.specs.Grammar.{raised, sunk}
use Rattle.number.specs.Steps.{Past, MantissaAt, PowerIs, PowerStops, ScaledAt, reading_of}
use Rattle.number.specs.declared.decimal.Mantissa.{Mantissa}
use Rattle.number.specs.declared.decimal.Power.{Power}
use Rattle.kinds.specs.declared.Kind.{Kind}
use Rattle.number.proofs.Fields.{not-within, unsigned_is}
use Rattle.number.proofs.Reals.{real-wrong, byte-at-digit, byte-at-power, byte-at-end, form-no-digit, form-no-power, form-no-end, real-good, form-real, value-is, scaled-lowered, scaled-raised}
use Rattle.number.proofs.read_real.Goals as goal

pub returns-then-n-lt1 : goal.returns-then-n-lt1
unfolding real
returns-then-n-lt1 c = ap (λ u. said (Err u)) c.of.ensures ∙ sym (not-within 24 c.args.field.now _ c.then-n-lt1.either)

pub returns-then-m-eq0 : goal.returns-then-m-eq0
returns-then-m-eq0 c =
    let s = c.args.field.now in
    let m = c.read_mantissa-m in
    let n = c.past_sign-u.result in
    let u = unsigned_is s c.past_blanks-t.result n c.past_blanks-t.ensures c.past_sign-u.ensures in
    c.wrong_form.ensures
    ∙ ap wrong_form (sym (byte-at-digit s n u m.result m.ensures c.if-m-eq0.true))
    ∙ sym (real-wrong s c.if-n-lt1.false c.if-n-gt24.false (form-no-digit s n u m.result m.ensures c.if-m-eq0.true))

pub returns-in_err-p : goal.returns-in_err-p
returns-in_err-p c =
    let s = c.args.field.now in
    let m = c.read_mantissa-m in
    let w = c.in_err-p.field-0.0 in
    let pa : PowerStops s m.result.next w = c.in_err-p.ensures in
    let n = c.past_sign-u.result in
    let u = unsigned_is s c.past_blanks-t.result n c.past_blanks-t.ensures c.past_sign-u.ensures in
    let e : c.from_residual.result ≡ Err w = search rules in
    ap said e ∙ pa.told
    ∙ ap wrong_form (sym (byte-at-power s n u m.result m.ensures w pa c.if-m-eq0.false))
    ∙ sym (real-wrong s c.if-n-lt1.false c.if-n-gt24.false (form-no-power s n u m.result m.ensures w pa))

pub returns-then-end-n : goal.returns-then-end-n
returns-then-end-n c =
    let s = c.args.field.now in
    let m = c.read_mantissa-m in
    let p = c.in_ok-p in
    let e = c.past_blanks-end in
    let n = c.past_sign-u.result in
    let u = unsigned_is s c.past_blanks-t.result n c.past_blanks-t.ensures c.past_sign-u.ensures in
    c.wrong_form-then-end-n.ensures
    ∙ ap wrong_form (sym (byte-at-end s n u m.result m.ensures p.p p.ensures e.result e.ensures c.if-m-eq0.false))
    ∙ sym
    (real-wrong s c.if-n-lt1.false c.if-n-gt24.false
    (form-no-end s n u m.result m.ensures p.p p.ensures e.result e.ensures c.if-end-n.true))

-- the answer, of whatever the scaling gives by the places and the power that were read
answered : (s : List ℕ) (t u : ℕ) → Past (past_all is_blank) s 0 t → Past (past_one is_sign) s t u
    → 1 ≤ length s → length s ≤ 24
    → (m : Mantissa) → MantissaAt s u m → (m.digits ≡ 0 → ⊥)
    → (p : Power) → PowerIs s m.next p
    → (end : ℕ) → Past (past_all is_blank) s p.next end → length s ≤ end
    → (places : ℕ) → places ≡ cond (ltb m.whole m.point) (m.next - m.point) (assumed (length s))
    → (minus : Bool) → minus ≡ starts is_minus (past_all is_blank s)
    → (r : Result ℕ Kind) → ScaledAt m.kept (9 + raised p.minus p.size) (places + sunk p.minus p.size) r
    → reading_of minus r ≡ real s
answered s t u b g h k m ma d p pa end rest l places placed minus sign r sc =
    let is = unsigned_is s t u b g in
    let f = form-real s u is m ma p pa end rest d l in
    let v = value-is s u is m ma p pa end rest places placed r sc in
    ap (λ x. reading_of x r) sign ∙ sym (real-good s h k f ∙ v _)

pub returns-then-p : goal.returns-then-p
returns-then-p c =
    let m = c.read_mantissa-m in
    let p = c.in_ok-p in
    let e = c.past_blanks-end in
    let d = c.decimals-places in
    c.settle.ensures
    ∙ answered c.args.field.now c.past_blanks-t.result c.past_sign-u.result c.past_blanks-t.ensures c.past_sign-u.ensures
    c.if-n-lt1.false c.if-n-gt24.false m.result m.ensures c.if-m-eq0.false p.p p.ensures
    e.result e.ensures c.if-end-n.false d.result d.ensures
    c.minus_at-minus.result (c.minus_at-minus.ensures ∙ ap (starts is_minus) c.past_blanks-t.ensures.is)
    c.scale.result
    (scaled-lowered m.result.kept d.result p.p.size p.p.minus c.scale.result c.if-p.true c.scale.ensures)

pub returns : goal.returns
returns c =
    let m = c.read_mantissa-m in
    let p = c.in_ok-p in
    let e = c.past_blanks-end in
    let d = c.decimals-places in
    c.settle-2.ensures
    ∙ answered c.args.field.now c.past_blanks-t.result c.past_sign-u.result c.past_blanks-t.ensures c.past_sign-u.ensures
    c.if-n-lt1.false c.if-n-gt24.false m.result m.ensures c.if-m-eq0.false p.p p.ensures
    e.result e.ensures c.if-end-n.false d.result d.ensures
    c.minus_at-minus.result (c.minus_at-minus.ensures ∙ ap (starts is_minus) c.past_blanks-t.ensures.is)
    c.scale-2.result
    (scaled-raised m.result.kept d.result p.p.size p.p.minus c.scale-2.result c.if-p.false c.scale-2.ensures)
