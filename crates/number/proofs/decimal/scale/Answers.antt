-- A mantissa scaled: no digits that count, a power of ten behind them, or one below them.
use Rattle.std.proofs.Common.{◌≡◌, ◌-◌, sym, ◌∙◌, ap, arith}
use Rattle.number.specs.Steps.{reading_of}
use Rattle.number.proofs.Scale.{scaled-none, high_of, scaled-up, up_small, scaled-down, down-small}
use Rattle.number.proofs.decimal.scale.Goals as goal

pub returns-then-kept-eq0 : goal.returns-then-kept-eq0
returns-then-kept-eq0 c =
    let a = c.args in
    record {
      is = λ m l minus. scaled-none m a.up a.kept l c.if-kept-eq0.true minus a.down;
      small = λ n e. let z : 0 ≡ n = cc in omega arith;
    }

pub returns-then-down-high : goal.returns-then-down-high
returns-then-down-high c =
    let a = c.args in
    record {
      is = λ m l minus. scaled-up m a.up a.kept l minus a.down c.if-down-high.true (omega (arith, c.if-kept-eq0.false)) ∙ ap (reading_of minus) (sym c.scale_up.ensures);
      small = λ n e. up_small a.kept.head a.kept.more (high_of a.kept a.up - a.down) n (sym c.scale_up.ensures ∙ e);
    }

pub returns : goal.returns
returns c =
    let a = c.args in
    record {
      is = λ m l minus. scaled-down m a.up a.kept l minus a.down c.if-down-high.false ∙ ap (reading_of minus) (sym c.scale_down.ensures);
      small =
          λ n e. down-small a.kept.head a.kept.more (a.down - high_of a.kept a.up) n c.requires.1.0 (sym c.scale_down.ensures ∙ e);
    }
