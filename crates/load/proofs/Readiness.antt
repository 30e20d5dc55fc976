-- What a sound session with block 0 taken gives the code.
use mathlib.Core.Bool.{true}
use mathlib.Core.Path.{◌≡◌}
use Prim.Native.Nat.{◌≤◌}
use native.Mathlib.Omega.{arith}
use Rattle.heading.proofs.HeadingFacts.{family-facts}
use Rattle.session.specs.Session.{sound}
use Rattle.session.specs.declared.Session.{Session}
use Rattle.session.proofs.Facts.{begun-facts}
use Rattle.session.proofs.Sound.{sound-begun, taken-bound, posts-bound}
use Rattle.load.specs.Steps.{Ready}

pub ready_of : (s : Session) → sound s ≡ true → 1 ≤ s.taken → Ready s
ready_of s t h =
    let o = sound-begun s t h in
    let f = begun-facts s o in
    let g = family-facts s.family s.header f.header in
    record {
      columns-most = g.columns.1;
      rows-most = g.rows.1;
      profiles-most = g.profiles.greatest;
      closed-most = f.closed;
      column_fits = f.column-closed;
      z-most = g.zstep.greatest;
      taken-most = taken-bound s t;
      posts-most = posts-bound s t;
      filled-most = f.filled;
      sum-most = f.sum;
      blocks-most = omega (arith, f.taken-least);
      profile-is =
          λ b.
          let p = f.profile b in
          record {
            posts-most = p.posts;
            row_room = p.room;
            datum-most = p.datum;
            read_below = p.more;
            filled-most = f.profile-filled b;
            column-room = f.column-open b;
            not_last = f.below b;
          };
    }
