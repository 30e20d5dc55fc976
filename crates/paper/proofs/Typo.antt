-- 02, request 6, computed: the paper's profile 1 with a letter in its third post, as in samples/TYPO.DEM, delivered behind block 0. Refused at that letter,
-- byte 161 of block 1, and so pointed at: the theorem over deliveries is said of something.
use mathlib.Core.List.{List, [], ◌∷◌}
use mathlib.Core.Path.{◌≡◌, refl}
use Prim.Native.Nat.{ℕ}
use Rattle.laws.specs.Digits.{places, short}
use Rattle.laws.specs.Lists.{joined}
use Rattle.laws.specs.Texts.{bytes}
use Rattle.number.specs.Integer.{integer}
use Rattle.number.specs.IntegerStarts.{integer_byte}
use Rattle.number.specs.Real.{real, billionths}
use Rattle.lattice.specs.Lattice.{lattice_of}
use Rattle.field.specs.Field.{stretch}
use Rattle.field.specs.Rules.{Pointed}
use Rattle.field.proofs.Points.{one_place}
use Rattle.profile.specs.RecordB.{record_b}
use Rattle.session.specs.declared.Session.{Session}
use Rattle.session.specs.Session.{begun, sound}
use Rattle.delivery.specs.declared.Answer.TheVariants.{Refused}
use Rattle.delivery.specs.Deliver.{lend, verdict_of, deliver_of}
use Rattle.delivery.specs.RulesDue.{rules_due}
use Rattle.delivery.proofs.Pointed.{wrong-form-told}
use Rattle.meaning.specs.PaperSheet.{paper_header, profile1, paper_lent}

unfoldable pub typo : List ℕ
typo = joined (stretch 1 156 profile1 ∷ bytes "   1O2" ∷ stretch 163 862 profile1 ∷ [])

abbrev behind_block0 : Session
behind_block0 = begun 0 paper_header

pub typo-refused : (deliver_of behind_block0 1 typo (lend paper_lent)).answer ≡ Refused 6 1 161
unfolding verdict_of sound lattice_of record_b integer integer_byte real billionths places short typo profile1
typo-refused = refl

pub typo-pointed : Pointed typo (rules_due behind_block0 typo) 161
typo-pointed = (wrong-form-told behind_block0 1 typo (lend paper_lent) 1 161 typo-refused).1

-- at no other byte: not at the post's first, 157, nor at its last, 162
pub typo-only : (y : ℕ) → Pointed typo (rules_due behind_block0 typo) y → y ≡ 161
typo-only y p = one_place p typo-pointed
