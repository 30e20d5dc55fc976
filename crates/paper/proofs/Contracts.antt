-- The calls of which demands 2 and 3 speak are calls of our functions: what a caller of each is told by its contract, as it stands, is
-- word for word the promise that the theorems start from.
use contract.Lifetimes.{Lfts}
use denote.Triple.Clauses.{AtExit}
use borrow.Fn.World.{ArgsD, ResD}
use Rattle.delivery.specs.Deliver.{lend}
use Rattle.meaning.specs.Deliveries.{Promised}
use Rattle.returns.specs.Writers.{Wrote, WroteSheet}
use Rattle.written.specs.Sending.{sent_told}
use Rattle.arrivals.specs.Arrivals.{RunPromised}
use Rattle.office.specs.DeskCalls.{OpenPromised, DeskPromised}
use Rattle.office.specs.DeskArrivals.{DeskRunPromised}
use Rattle.desk.specs.contracts.dem_open as dem-open
use Rattle.desk.proofs.dem_open.Reads as dem-open·reads
use Rattle.desk.specs.contracts.dem_deliver as dem_deliver
use Rattle.desk.specs.contracts.dem_deliver_run as dem_deliver_run
use Rattle.desk.proofs.dem_deliver_run.Reads as dem_deliver_run·reads
use Rattle.desk.proofs.dem_deliver.Reads as dem_deliver·reads
use Rattle.load.specs.contracts.deliver as deliver
use Rattle.load.proofs.deliver.Reads as deliver·reads
use Rattle.load.specs.contracts.deliver_run as deliver_run
use Rattle.load.proofs.deliver_run.Reads as deliver_run·reads
use Rattle.send.specs.contracts.write_block as write_block
use Rattle.send.proofs.write_block.Reads as write_block·reads
use Rattle.send.specs.contracts.write_sheet as write_sheet
use Rattle.send.proofs.write_sheet.Reads as write_sheet·reads

pub deliver-promises : (κs : Lfts 2) (a : ArgsD deliver.signature κs) (z : ResD deliver.signature κs) (e : AtExit deliver.ended κs)
    → deliver·reads.Learnt κs a z e
    → Promised a.0 (lend a.1.1.1.0.now)
    record {
      sent = record { number = a.1.0; bytes = a.1.1.0.now };
      returned = z;
      left = lend e.1.1.1.0.now;
    }
deliver-promises κs a z e told = record { answers = told.0; fills = told.1 }

pub deliver-run-promises : (κs : Lfts 2) (a : ArgsD deliver_run.signature κs) (z : ResD deliver_run.signature κs) (e : AtExit deliver_run.ended κs)
    → deliver_run·reads.Learnt κs a z e
    → RunPromised a.0 (lend a.1.1.1.0.now)
    record { number = a.1.0; blocks = a.1.1.0.now; returned = z; left = lend e.1.1.1.0.now }
deliver-run-promises κs a z e told = record { answers = told.0; fills = told.1 }

pub write-block-promises : (κs : Lfts 3) (a : ArgsD write_block.signature κs) (z : ResD write_block.signature κs) (e : AtExit write_block.ended κs)
    → write_block·reads.Learnt κs a z e
    → Wrote a.0.now a.1.0.now
    record { number = a.1.1.0; lent = a.1.1.1.0.now; returned = sent_told z; left = e.1.1.1.0.now }
write-block-promises κs a z e told = record { answers = told.0; writes = told.1 }

pub write-sheet-promises : (κs : Lfts 3) (a : ArgsD write_sheet.signature κs) (z : ResD write_sheet.signature κs) (e : AtExit write_sheet.ended κs)
    → write_sheet·reads.Learnt κs a z e
    → WroteSheet a.0.now a.1.0.now record { lent = a.1.1.0.now; returned = sent_told z; left = e.1.1.0.now }
write-sheet-promises κs a z e told = record { answers = told.0; writes = told.1 }

pub dem-open-promises : (κs : Lfts 1) (a : ArgsD dem-open.signature κs) (z : ResD dem-open.signature κs) (e : AtExit dem-open.ended κs)
    → dem-open·reads.Learnt κs a z e → OpenPromised a.0 a.1.0.now z e.1.0.now
dem-open-promises κs a z e told = record { tells = told.0; keeps = told.1 }

pub dem-deliver-promises : (κs : Lfts 4) (a : ArgsD dem_deliver.signature κs) (z : ResD dem_deliver.signature κs) (e : AtExit dem_deliver.ended κs)
    → dem_deliver·reads.Learnt κs a z e
    → DeskPromised a.0.now a.1.1.1.0.now
    record {
      sent = record { number = a.1.0; bytes = a.1.1.0.now };
      lent = a.1.1.1.1.0.now;
      result = z;
      session = e.0.now;
      grid = e.1.1.1.0.now;
      answer = e.1.1.1.1.0.now;
    }
dem-deliver-promises κs a z e told = record { tells = told.0; keeps = told.1.0; fills = told.1.1.0; hands = told.1.1.1 }

pub dem-deliver-run-promises : (κs : Lfts 4) (a : ArgsD dem_deliver_run.signature κs) (z : ResD dem_deliver_run.signature κs) (e : AtExit dem_deliver_run.ended κs)
    → dem_deliver_run·reads.Learnt κs a z e
    → DeskRunPromised a.0.now a.1.1.1.0.now
    record {
      number = a.1.0;
      blocks = a.1.1.0.now;
      lent = a.1.1.1.1.0.now;
      result = z;
      session = e.0.now;
      grid = e.1.1.1.0.now;
      answer = e.1.1.1.1.0.now;
    }
dem-deliver-run-promises κs a z e told = record { tells = told.0; keeps = told.1.0; fills = told.1.1.0; hands = told.1.1.1 }
