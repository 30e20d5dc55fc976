-- The calls that C makes are those of which demand 3 of C speaks: what a caller of each is told by its contract, as it stands here, is word
-- for word the promise that office's theorems start from.
use contract.Lifetimes.{Lfts}
use denote.Triple.Clauses.{AtExit}
use borrow.Fn.World.{ArgsD, ResD}
use Rattle.office.specs.DeskCalls.{OpenPromised, DeskPromised}
use Rattle.office.specs.DeskArrivals.{DeskRunPromised}
use Rattle.desk_c.specs.contracts.dem_open as dem-open
use Rattle.desk_c.proofs.dem_open.Reads as dem-open·reads
use Rattle.desk_c.specs.contracts.dem_deliver as dem_deliver
use Rattle.desk_c.proofs.dem_deliver.Reads as dem_deliver·reads
use Rattle.desk_c.specs.contracts.dem_deliver_run as dem_deliver_run
use Rattle.desk_c.proofs.dem_deliver_run.Reads as dem_deliver_run·reads

pub dem-open-promises : (κs : Lfts 1) (a : ArgsD dem-open.signature κs) (z : ResD dem-open.signature κs) (e : AtExit dem-open.ended κs)
    → dem-open·reads.Learnt κs a z e → OpenPromised a.0 a.1.0.now z e.1.0.now
dem-open-promises κs a z e told = record { tells = told.0; keeps = told.1 }

pub dem-deliver-promises : (κs : Lfts 4) (a : ArgsD dem_deliver.signature κs) (z : ResD dem_deliver.signature κs) (e : AtExit dem_deliver.ended κs)
    → dem_deliver·reads.Learnt κs a z e
    → DeskPromised a.0.now a.1.1.1.0.now
    record {
      sent = record { number = a.1.0; bytes = a.1.1.0.now };
      lent = a.1.1.1.1.0.now;
      result = z;
      session = e.0.now;
      grid = e.1.1.1.0.now;
      answer = e.1.1.1.1.0.now;
    }
dem-deliver-promises κs a z e told = record { tells = told.0; keeps = told.1.0; fills = told.1.1.0; hands = told.1.1.1 }

pub dem-deliver-run-promises : (κs : Lfts 4) (a : ArgsD dem_deliver_run.signature κs) (z : ResD dem_deliver_run.signature κs) (e : AtExit dem_deliver_run.ended κs)
    → dem_deliver_run·reads.Learnt κs a z e
    → DeskRunPromised a.0.now a.1.1.1.0.now
    record {
      number = a.1.0;
      blocks = a.1.1.0.now;
      lent = a.1.1.1.1.0.now;
      result = z;
      session = e.0.now;
      grid = e.1.1.1.0.now;
      answer = e.1.1.1.1.0.now;
    }
dem-deliver-run-promises κs a z e told = record { tells = told.0; keeps = told.1.0; fills = told.1.1.0; hands = told.1.1.1 }
