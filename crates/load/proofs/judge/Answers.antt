-- What the first tests leave: a refusal, a held block, block 0 or a later block.
use Rattle.std.proofs.Common.{◌∙◌, sym}
use Rattle.frame.specs.Frame.{cells_of}
use Rattle.sheet.specs.RecordA.{record_of}
use Rattle.delivery.specs.Deliver.{later}
use Rattle.gate.specs.Gate.{room}
use Rattle.gate.specs.declared.verdict.Gate.TheVariants.{Stop, Again, Begin, Later}
use Rattle.gate.proofs.Gates.{gate-said, gate-due}
use Rattle.load.proofs.Readiness.{ready_of}
use Rattle.load.proofs.Judged.{same-judging, lies_more, first-lies}
use Rattle.load.proofs.judge.Goals as goal

pub later_block-requires : goal.later_block-requires
later_block-requires c =
    let a = c.args in
    let d = gate-due a.s a.number a.block.now (room a.cells) (sym c.requires.0 ∙ c.in-Later.is) in
    record { ready = ready_of a.s d.sound-is d.begun; taken_is = d.taken_is; long = d.long; room = c.requires.1 }

pub returns-in-Stop : goal.returns-in-Stop
returns-in-Stop c =
    let a = c.args in
    same-judging (gate-said a.s a.number a.block.now (room a.cells) (Stop _) c.requires.0 c.in-Stop.is)
    (record { judged-is = c.refused_for.ensures; lies = tt })

pub returns-in-Again : goal.returns-in-Again
returns-in-Again c =
    let a = c.args in
    same-judging (gate-said a.s a.number a.block.now (room a.cells) Again c.requires.0 c.in-Again.is)
    (record { judged-is = c.held.ensures; lies = tt })

pub returns-in-Begin : goal.returns-in-Begin
returns-in-Begin c =
    let a = c.args in
    same-judging (gate-said a.s a.number a.block.now (room a.cells) Begin c.requires.0 c.in-Begin.is)
    (record { judged-is = c.judge_first.ensures; lies = first-lies (room a.cells) (record_of a.s.family a.block.now) a.scratch.now })

pub returns-in-Later : goal.returns-in-Later
returns-in-Later c =
    let a = c.args in
    let d = gate-due a.s a.number a.block.now (room a.cells) (sym c.requires.0 ∙ c.in-Later.is) in
    same-judging (gate-said a.s a.number a.block.now (room a.cells) Later c.requires.0 c.in-Later.is)
    (record {
      judged-is = c.later_block.ensures.judged-is;
      lies = lies_more (later a.s a.number a.block.now) (cells_of a.s.header) a.cells c.later_block.new.scratch d.cells c.later_block.ensures.lies;
    })
