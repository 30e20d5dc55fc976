-- Document 01, "Writing": the header of a sheet as it is sent, "n set to the columns, extremes worked out, accuracy 0".
use Rattle.std.specs.Prelude.{List, ℤ}
use Rattle.frame.specs.Frame.{columns_of}
use Rattle.frame.specs.declared.Header.{Header}
use Rattle.ground.specs.Extremes.{least_stated, greatest_stated}
use Rattle.written.specs.Blocks.{sheet_cells}
use Rattle.heading.specs.Heading.Name.{ground}

abbrev pub header_sent : Header → List ℤ → Header
header_sent h grid =
    record {
      level = h.level;
      system = h.system;
      zone = h.zone;
      ground = h.ground;
      vertical = h.vertical;
      sw = h.sw;
      nw = h.nw;
      ne = h.ne;
      se = h.se;
      least = least_stated (sheet_cells h grid);
      greatest = greatest_stated (sheet_cells h grid);
      accuracy = 0;
      xstep = h.xstep;
      ystep = h.ystep;
      zstep = h.zstep;
      profiles = columns_of h;
    }
