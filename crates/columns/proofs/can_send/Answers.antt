-- A cell by its size and sign; Sendable has what they decide.
use Rattle.std.proofs.Common.{◌≡◌, ◌/◌, ◌%◌, false, true, leb, ◌∙◌, pos, nat_abs, ne_eqb, rules}
use lib.Signed.{lt_z}
use Rattle.laws.specs.Sign.{same_z}
use Rattle.ground.specs.Posts.{void}
use Rattle.columns.proofs.Sendable.{send-void, send-rest, send-below, send-above}
use Rattle.columns.proofs.can_send.Goals as goal
use Rattle.columns.proofs.can_send.Goals.{then-cell-lt0, else-cell-lt0}

pub returns-then-is_void : goal.returns-then-is_void
returns-then-is_void c =
    let v : same_z c.args.cell void ≡ true = search rules in
    c.if-is_void.true ∙ send-void c.args.z c.args.cell v

pub returns-else-rest-eq0 : goal.returns-else-rest-eq0
returns-else-rest-eq0 c =
    let v : same_z c.args.cell void ≡ false = search rules in
    let r : c.rest.result ≡ nat_abs c.args.cell % c.args.z = search rules in
    ne_eqb c.rest.result 0 c.if-rest-eq0.false ∙ send-rest c.args.z c.args.cell v (λ e. c.if-rest-eq0.false (r ∙ e))

pub returns-then-rest-eq0 : goal.returns-then-rest-eq0
returns-then-rest-eq0 c =
    let v : same_z c.args.cell void ≡ false = search rules in
    let r : nat_abs c.args.cell % c.args.z ≡ 0 = search rules in
    let q : c.quotient.result ≡ nat_abs c.args.cell / c.args.z = search rules in
    elim c.if-cell-lt0.branch [
      | then-cell-lt0 w ↦
          let t : lt_z c.args.cell (pos 0) ≡ true = search rules in
          (λ i. leb (q i) (w.most-is i)) ∙ send-below c.args.z c.args.cell v r t
      | else-cell-lt0 w ↦
          let t : lt_z c.args.cell (pos 0) ≡ false = search rules in
          (λ i. leb (q i) (w.most-is i)) ∙ send-above c.args.z c.args.cell v r t
    ]
