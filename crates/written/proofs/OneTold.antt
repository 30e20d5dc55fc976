-- What the writer answers is one to one with what the definitions say of it. Kinds carry it: no two have one number, and none has the number 0,
-- which says that the block is written.
use Rattle.std.proofs.Common.{◌≡◌, refl, sym, ◌∙◌, ap}
use Rattle.std.specs.Prelude.{Result, Ok, Err, eqb}
use Rattle.kinds.proofs.Numbers.{one-number, not-zero}
use Rattle.kinds.specs.Kinds.{number_of}
use Rattle.laws.proofs.Tests.{clash}
use Rattle.written.specs.Sending.{Sent, sent_kind, sent_number, sent_told}
use Rattle.written.specs.Sending.Sent.{Written, Refused}
use Rattle.written.specs.declared.Refused.{Refused as Against}

pub against-one : (a b : Against) → number_of a.kind ≡ number_of b.kind → a.number ≡ b.number → a ≡ b
against-one a b k n =
    let e : a.kind ≡ b.kind = one-number a.kind b.kind k in
    λ i. record { kind = e i; number = n i }

written-or-refused : (r : Against) → Written ≡ Refused (number_of r.kind) r.number → ⊥
written-or-refused r e = clash (ap (λ (s : Sent). eqb (sent_kind s) 0) e ∙ not-zero r.kind)

pub sent-one : (a b : Result Unit Against) → sent_told a ≡ sent_told b → a ≡ b
sent-one (Ok x) (Ok y) e = refl
sent-one (Ok x) (Err b) e = absurd (written-or-refused b e)
sent-one (Err a) (Ok y) e = absurd (written-or-refused a (sym e))
sent-one (Err a) (Err b) e = ap Err (against-one a b (ap sent_kind e) (ap sent_number e))
