-- A good block comes to the definition's verdict, and its cells are cells of the sheet.
use mathlib.Core.List.{List}
use mathlib.Core.Path.{◌≡◌, sym, ◌∙◌, ap}
use mir.Syntax.{w64}
use mir.Val.{to_z, of_z}
use mir.Facts.{to_z-of_z}
use Rattle.laws.proofs.Integers.{size_fits}
use Prim.Native.Nat.{ℕ, ◌+◌, ◌-◌, ◌*◌, ◌≤◌, ◌<◌}
use lib.IntN.{ℤ, ◌+ℤ◌}
use lib.ListN.{length, take}
use mathlib.Core.Bool.{false, cond}
use lib.Dec.{ltb, eqb}
use borrow.Author.Tests.{eq-eqb, ne_eqb, lt-ltb, le-ltb}
use native.Mathlib.Nat.{mul-le-mul_right, add-mul}
use native.Mathlib.Omega.{arith}
use Rattle.laws.proofs.Tests.{by-test}
use Rattle.frame.specs.Frame.{columns_of, rows_of, cells_of}
use Rattle.session.specs.declared.Profile.{Profile}
use Rattle.session.specs.declared.Session.{Session}
use Rattle.session.specs.Session.{open_blocks}
use Rattle.ground.specs.Posts.{no_tally, tally_all}
use Rattle.ground.specs.Extremes.{filled_only, sum_of}
use Rattle.ground.specs.declared.Tally.{Tally}
use Rattle.ground.proofs.MergedTallies.{tally-merged}
use Rattle.delivery.specs.Deliver.{filled_session, sheet_tally, profile_tally, closed_session, close_fault, close_verdict, fills, wrong, Verdict, filling, next_cell}
use Rattle.delivery.specs.Deliver.{Refusal}
use Rattle.gate.specs.Gate.{taken, judged_of}
use Rattle.progress.specs.Progress.{countable, filled_with}
use Rattle.progress.proofs.Counts.{is-countable}
use Rattle.load.specs.Steps.{Filling, Lies, Placing}

filled-same : (s : Session) (column : ℕ) (p : Profile) (hs : List ℤ)
    → filled_session s column p hs ≡ filled_with s column p (length hs) (tally_all no_tally hs) (sum_of (filled_only hs))
filled-same s column p hs =
    λ j.
    record {
      header = s.header;
      taken = s.taken + 1;
      closed = s.closed;
      posts = s.posts + length hs;
      filled = (tally-merged (sheet_tally s) hs j).filled;
      low = (tally-merged (sheet_tally s) hs j).low;
      high = (tally-merged (sheet_tally s) hs j).high;
      column = column;
      finished = s.finished;
      profile =
          record {
            posts = p.posts;
            row = p.row;
            datum = p.datum;
            least = p.least;
            greatest = p.greatest;
            read = p.read + length hs;
            filled = (tally-merged (profile_tally p) hs j).filled;
            low = (tally-merged (profile_tally p) hs j).low;
            high = (tally-merged (profile_tally p) hs j).high;
          };
      sum = s.sum +ℤ sum_of (filled_only hs);
      family = s.family;
    }

-- a block's counts and its sum are gone on from
pub filled_on : (s : Session) (column : ℕ) (p : Profile) (n : ℕ) (u : Tally) (sum : ℤ) → Filling s p n u sum
    → cond (countable s p n u sum) (filled_with s column p n u sum) s ≡ filled_with s column p n u sum
filled_on s column p n u sum k =
    rw
    (is-countable s p n u sum
    (record {
      taken = omega (arith, k.ready.taken-most);
      posts = omega (arith, k.ready.posts-most);
      filled = omega (arith, k.ready.filled-most, k.ready.posts-most);
      read = omega arith;
      profile-filled = omega arith;
      more = omega arith;
      more-filled = omega arith;
      so_far = omega (arith, k.ready.sum-most, k.ready.filled-most, k.ready.posts-most);
      more-sum = omega arith;
    }))

-- the same of what a call answered, its sum read back from the bits that carry it
pub filled-told : (s : Session) (column : ℕ) (p : Profile) (n : ℕ) (u : Tally) (sum : ℤ) (r : Session) → Filling s p n u sum
    → r ≡ cond (countable s p n u (to_z w64 (of_z w64 sum))) (filled_with s column p n u (to_z w64 (of_z w64 sum))) s
    → r ≡ filled_with s column p n u sum
filled-told s column p n u sum r k e =
    e ∙ ap (λ (z : ℤ). cond (countable s p n u z) (filled_with s column p n u z) s) (to_z-of_z {w = w64} (size_fits sum (omega (arith, k.sum-most))))
    ∙ filled_on s column p n u sum k

module _ (s : Session) (number column : ℕ) (p : Profile) where
  -- the verdict, for any session that a block may leave
  abbrev filled_to : Session → List ℤ → Verdict
  filled_to after hs =
      cond (ltb (p.read + length hs) p.posts) (fills after (next_cell s column p) hs)
      (close_verdict (close_fault (number - open_blocks s) after) (fills (closed_session after) (next_cell s column p) hs))

  module _ (n : ℕ) (u : Tally) (sum : ℤ) (hs : List ℤ) (e : n ≡ length hs) (f : u ≡ tally_all no_tally hs) (g : sum ≡ sum_of (filled_only hs)) where
    -- the session is the definition's
    same : judged_of s (filled_to (filled_with s column p n u sum) hs) ≡ judged_of s (filling s number column p hs)
    same = λ j. judged_of s (filled_to (((λ i. filled_with s column p (e i) (f i) (g i)) ∙ sym (filled-same s column p hs)) j) hs)

    counted : (after : Session) → taken after 0 (next_cell s column p) n ≡ taken after 0 (next_cell s column p) (length hs)
    counted after = λ j. taken after 0 (next_cell s column p) (e j)

    -- a good block: more posts to come, or its profile closes, or breaks a closing rule
    pub fill_more : p.read + n < p.posts
        → taken (filled_with s column p n u sum) 0 (next_cell s column p) n ≡ judged_of s (filling s number column p hs)
    fill_more h = counted (filled_with s column p n u sum) ∙ go (filled_with s column p n u sum) ∙ same
      where
        go : (after : Session) → taken after 0 (next_cell s column p) (length hs) ≡ judged_of s (filled_to after hs)
        go after = sym (rw (lt-ltb (p.read + length hs) p.posts (omega (arith, h, e))))

    module _ (h : p.posts ≤ p.read + n) (r : Refusal) (is : r ≡ close_fault (number - open_blocks s) (filled_with s column p n u sum)) where
      last : ltb (p.read + length hs) p.posts ≡ false
      last = le-ltb (p.read + length hs) p.posts (omega (arith, h, e))

      pub fill-last : r.kind ≡ 0
          → taken (closed_session (filled_with s column p n u sum)) 0 (next_cell s column p) n ≡ judged_of s (filling s number column p hs)
      fill-last z = counted (closed_session (filled_with s column p n u sum)) ∙ go (filled_with s column p n u sum) is ∙ same
        where
          go : (after : Session) → r ≡ close_fault (number - open_blocks s) after
              → taken (closed_session after) 0 (next_cell s column p) (length hs) ≡ judged_of s (filled_to after hs)
          go after x = sym (rw (last, ← x, eq-eqb r.kind 0 z))

      pub fill-broken : (r.kind ≡ 0 → ⊥) → judged_of s (wrong r.kind r.block r.byte) ≡ judged_of s (filling s number column p hs)
      fill-broken z = go (filled_with s column p n u sum) is ∙ same
        where
          go : (after : Session) → r ≡ close_fault (number - open_blocks s) after
              → judged_of s (wrong r.kind r.block r.byte) ≡ judged_of s (filled_to after hs)
          go after x = sym (rw (last, ← x, ne_eqb r.kind 0 z))

  pub filling-lies : (hs : List ℤ) (cells : ℕ) (scratch : List ℤ)
      → (next_cell s column p + length hs ≤ cells) × (take (length hs) scratch ≡ hs) → Lies cells scratch (filling s number column p hs)
  filling-lies hs cells scratch k = go (filled_session s column p hs)
    where
      go : (after : Session) → Lies cells scratch (filled_to after hs)
      go after =
          by-test (ltb (p.read + length hs) p.posts) (λ e. rw e k)
          (λ e. by-test (eqb (close_fault (number - open_blocks s) after).kind 0) (λ f. rw (e, f) k) (λ f. rw (e, f) tt))

  pub cell_room : Placing s number column p → (n : ℕ) → p.read + n ≤ p.posts → next_cell s column p + n ≤ cells_of s.header
  cell_room g n h =
      let a : column + s.closed + 1 ≤ columns_of s.header = omega (arith, g.column-room, g.not_last) in
      let b : (column + s.closed + 1) * rows_of s.header ≤ columns_of s.header * rows_of s.header = mul-le-mul_right (rows_of s.header) a in
      omega (arith, add-mul (column + s.closed) 1 (rows_of s.header), g.row_room)
