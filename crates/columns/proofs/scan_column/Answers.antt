-- Where no cell is filled there is one post at row 0, else the posts lie between the two ends.
use Rattle.std.proofs.Common.{◌≡◌, ◌-◌, ◌+◌, ◌<◌, ◌∙◌, ℕ, true, false, sym, ap, ap₂, length, arith, rules}
use Rattle.written.specs.Cells.{up_to_last}
use Rattle.columns.proofs.Columns.{void_at, all-void, last-filled, void-column, row_before, first-row, posts-left}
use Rattle.columns.proofs.scan_column.Goals as goal

module _ (c : goal.After-voids_before-row) where
  filled : length (up_to_last c.args.column.now) ≡ c.in-Some.last + 1
  filled =
      let column = c.args.column.now in
      let last = c.in-Some.last in
      let inside : last < length column = search rules in
      let here : void_at column last ≡ false = search rules in
      let behind : (k : ℕ) → last < k → k < length column → void_at column k ≡ true = search rules in
      last-filled column last inside here behind

  some : length (up_to_last c.args.column.now) ≡ 0 → ⊥
  some z = omega (arith, z, filled)

pub returns-in_default : goal.returns-in_default
returns-in_default c =
    let column = c.args.column.now in
    let each : (k : ℕ) → k < length column → void_at column k ≡ true = search rules in
    void-column column (ap length (all-void column each))

pub overflow_sub-result : goal.overflow_sub-result
overflow_sub-result c =
    omega (arith, row_before c.args.column.now (some c), c.voids_before-row.ensures, filled c)

pub returns : goal.returns
returns c =
    let column = c.args.column.now in
    (c.voids_before-row.ensures ∙ first-row column (some c), ap₂ ◌-◌ (sym (filled c)) c.voids_before-row.ensures ∙ posts-left column (some c))
