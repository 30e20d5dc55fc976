-- The sign of an answer; and that what a reading says in the paper's numbers leaves one answer of the code: a good one is told from a refused one,
-- and each kind from every other.
use Rattle.std.proofs.Common.{◌≡◌, ℕ, ◌^◌, ◌-◌, ◌<◌, min, ℤ, Bool, Result, Ok, Err, sym, ◌∙◌, ap, ap₂, eqb, arith}
use Rattle.laws.specs.Sign.{signed}
use Rattle.laws.proofs.Tests.{clash}
use Rattle.kinds.specs.declared.Kind.{Kind}
use Rattle.kinds.specs.Kinds.{number_of}
use Rattle.kinds.proofs.Numbers.{not-zero, one-number}
use Rattle.number.specs.declared.Unread.{Unread}
use Rattle.number.specs.Reading.{said}

-- a size that there is room for counts as what it is
pub signed-small : (minus : Bool) (size : ℕ) {r : ℤ} → r ≡ signed minus (min size (2 ^ 63 - 1)) → size < 2 ^ 63 → r ≡ signed minus size
signed-small minus size e h =
    let m : min size (2 ^ 63 - 1) ≡ size = omega (arith, h) in
    e ∙ ap (signed minus) m

refused-not-good : (k : Kind) → number_of k ≡ 0 → ⊥
refused-not-good k e = clash (sym (ap (λ n. eqb n 0) e) ∙ not-zero k)

pub said-one : (a b : Result ℤ Unread) → said a ≡ said b → a ≡ b
said-one (Ok y) (Ok z) e = ap Ok (ap (λ r. r.value) e)
said-one (Ok y) (Err v) e = absurd (refused-not-good v.kind (sym (ap (λ r. r.kind) e)))
said-one (Err u) (Ok z) e = absurd (refused-not-good u.kind (ap (λ r. r.kind) e))
said-one (Err u) (Err v) e =
    ap Err (ap₂ (λ k n. record { kind = k; byte = n }) (one-number u.kind v.kind (ap (λ r. r.kind) e)) (ap (λ r. r.byte) e))
