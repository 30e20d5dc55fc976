-- Document 01's rules of the block that a session waits for, field by field, as one list: of a record A, of a profile's further block, of its first
-- one, and of a record C. No function goes by it; that wrong form is told at the very byte of its first broken rule is proved in proofs/Pointed.antt.
use Rattle.std.specs.Prelude.{cond, List, ◌++◌, ℕ, ◌+◌, min, eqb, ltb}
use Rattle.field.specs.Rules.{Clause}
use Rattle.sheet.specs.RulesA.{rules_for}
use Rattle.profile.specs.RecordB.{head_of}
use Rattle.profile.specs.RulesB.{rules_head}
use Rattle.profile.specs.RulesC.{rules_c}
use Rattle.ground.specs.RulesPosts.{rules_block}
use Rattle.session.specs.declared.Session.{Session}
use Rattle.session.specs.Session.{busy}
use Rattle.delivery.specs.Deliver.{posts_here}

-- the head's nine fields, then the posts that it says, up to 146, and blanks
abbrev pub rules_first : ℕ → ℕ → List ℕ → List Clause
rules_first family number block = rules_head family number ++ rules_block 145 (min (head_of block).posts 146)

-- behind block 0
abbrev pub rules_later : Session → List ℕ → List Clause
rules_later s block =
    cond (busy s) (rules_block 1 (posts_here s.profile 170))
    (cond (ltb s.closed s.header.profiles) (rules_first s.family (s.closed + 1) block) rules_c)

abbrev pub rules_due : Session → List ℕ → List Clause
rules_due s block = cond (eqb s.taken 0) (rules_for s.family) (rules_later s block)
