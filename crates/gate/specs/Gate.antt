-- The first tests of a delivery, and a verdict as the code has it.
use Rattle.std.specs.Prelude.{Bool, cond, not, ℕ, ltb, leb, eqb, length}
use Rattle.frame.specs.Frame.{cells_of}
use Rattle.session.specs.declared.Session.{Session}
use Rattle.session.specs.Session.{sound, complete, begun}
use Rattle.delivery.specs.Deliver.{Verdict, Room, again, wrong, begins, fills}
use Rattle.delivery.specs.declared.Answer.{Answer}
use Rattle.delivery.specs.declared.Answer.TheVariants.{Taken, Held, Refused}
use Rattle.kinds.specs.declared.Kind.TheVariants.{Length, Unsound, Early, Complete, Room as Short}
use Rattle.gate.specs.declared.verdict.Gate.{Gate}
use Rattle.gate.specs.declared.verdict.Gate.TheVariants.{Stop, Again, Begin, Later}
use Rattle.gate.specs.declared.verdict.Judged.{Judged}

-- the lengths of what is lent
abbrev pub room : ℕ → Room
room cells = record { cells = cells }

-- the first tests, in their order: by their answers, and of a delivery
abbrev pub gate_by : Bool → Bool → Bool → Bool → Bool → Bool → Bool → Gate
gate_by whole sound held ahead first complete roomy =
    cond (not whole) (Stop Length)
    (cond (not sound) (Stop Unsound)
    (cond held Again (cond ahead (Stop Early) (cond first Begin (cond complete (Stop Complete) (cond (not roomy) (Stop Short) Later))))))

abbrev pub gate_of : Session → ℕ → ℕ → Room → Gate
gate_of s number bytes r =
    gate_by (eqb bytes 1024) (sound s) (ltb number s.taken) (ltb s.taken number) (eqb number 0) (complete s)
    (leb (cells_of s.header) r.cells)

-- a verdict as the code has it: of a later block's heights only where they go and how many they are
abbrev pub unchanged : Answer → Session → Judged
unchanged answer s = record { answer = answer; session = s; voids = 0; at = 0; heights = 0 }

abbrev pub taken : Session → ℕ → ℕ → ℕ → Judged
taken after voids at heights = record { answer = Taken; session = after; voids = voids; at = at; heights = heights }

abbrev pub judged_of : Session → Verdict → Judged
judged_of s again = unchanged Held s
judged_of s (wrong kind block byte) = unchanged (Refused kind block byte) s
judged_of s (begins h) = taken (begun s.family h) (cells_of h) 0 0
judged_of s (fills after at hs) = taken after 0 at (length hs)
