-- A good block of a profile: the session after it is the one that the text with it means. Heights grown by the block's own carry it.
use mathlib.Core.List.{List}
use Prim.Native.Nat.{ℕ, suc, ◌+◌, ◌*◌, ◌-◌, ◌≤◌, ◌<◌, min}
use lib.ListN.{length, length-append}
use mathlib.Core.Bool.{true, false}
use mathlib.Core.Path.{◌≡◌, sym, ◌∙◌, ap}
use native.Mathlib.Omega.{arith}
use borrow.Author.Tests.{ltb-true, ltb-false, lt-ltb, le-ltb}
use lib.Dec.{ltb}
use lib.IntN.{ℤ}
use Rattle.ground.specs.Blocks.{blocks_in}
use Rattle.ground.proofs.BlocksJoined.{Extends}
use Rattle.laws.proofs.Tests.{by-test}
use Rattle.frame.specs.declared.Header.{Header}
use Rattle.session.specs.declared.Profile.{Profile}
use Rattle.session.specs.declared.Session.{Session}
use Rattle.session.specs.Session.{no_profile}
use Rattle.ground.specs.Posts.{filled_in, posts_of}
use Rattle.ground.specs.Extremes.{filled_only, least_of, greatest_of, sum_of}
use Rattle.ground.proofs.Heights.{heights-length}
use Rattle.ground.proofs.Weights.{sum-on}
use Rattle.ground.proofs.PostsRead.{posts-length}
use Rattle.delivery.specs.Deliver.{filled_session, closed_session, read_on}
use Rattle.meaning.specs.Text.{header_in, all_heights, column_in, head_in, posts_in, heights_in, row_in, profiles_in, z_in, start_of, room_in}
use Rattle.meaning.specs.Means.{open_profile, closed_in, is_open, begun_session}
use Rattle.meaning.specs.Rules.{posts_of_block, posts_byte, end_of}
use Rattle.meaning.proofs.Starts.{next_start, start-order, closed_is}
use Rattle.meaning.proofs.Joined.{Here, header-same, same_start, not-over, posts-after, new_heights, heights-grow, all-grow}
use Rattle.meaning.proofs.Counted.{counted-on}

-- the session of a text by how many of its profiles are closed, and the one after them
abbrev session_by : ℕ → List ℕ → ℕ → Profile → Session
session_by family text closed profile =
    record {
      header = header_in text;
      taken = blocks_in text;
      closed = closed;
      posts = length (all_heights text);
      filled = filled_in (all_heights text);
      low = least_of (filled_only (all_heights text));
      high = greatest_of (filled_only (all_heights text));
      column = column_in text 0;
      finished = 0;
      profile = profile;
      sum = sum_of (filled_only (all_heights text));
      family = family;
    }

-- profile c is still open
abbrev pub open_session : ℕ → List ℕ → ℕ → Session
open_session family text c = session_by family text c (open_profile text c)

-- profile c of the longer text, with the posts that the shorter one has
abbrev pub read_so_far : List ℕ → List ℕ → ℕ → Profile
read_so_far text more c =
    record {
      posts = (head_in more c).posts;
      row = row_in more c;
      datum = (head_in more c).datum;
      least = (head_in more c).least;
      greatest = (head_in more c).greatest;
      read = posts_in text c;
      filled = filled_in (heights_in text c);
      low = least_of (filled_only (heights_in text c));
      high = greatest_of (filled_only (heights_in text c));
    }

module _ (family : ℕ) (text more block : List ℕ) (k : ℕ) (x : Extends text more block k) (some : 1 ≤ k) (c : ℕ) (here : Here text k c) where
  pub new-length : length (new_heights text more block k x some c here) ≡ posts_of_block (head_in more c).posts (k - start_of text c)
  new-length =
      let n = posts_of_block (head_in more c).posts (k - start_of text c) in
      heights-length (z_in more) (head_in more c).datum (posts_of n (posts_byte (k - start_of text c)) block)
      ∙ posts-length n (posts_byte (k - start_of text c)) block

  same-n : profiles_in more ≡ profiles_in text
  same-n = ap (λ (h : Header). h.profiles) (header-same text more block k x some)

  pub closed-here : closed_in text ≡ c
  closed-here =
      closed_is text (profiles_in text) c (omega (arith, here.below-n)) (omega (arith, here.begins, x.many))
      (λ lt. omega (arith, here.ends, x.many))
      (omega (arith, x.many, some))

  unfinished : (begun_session family text).finished ≡ 0
  unfinished =
      let e : ltb (end_of text) (blocks_in text) ≡ false
      = le-ltb (end_of text) (blocks_in text)
      (omega (arith, x.many, here.ends, start-order text (suc c) (profiles_in text) here.below-n)) in
      rw e

  pub profile-read : read_on (read_so_far text more c) (new_heights text more block k x some c here) ≡ open_profile more c
  profile-read =
      let hs = new_heights text more block k x some c here in
      let g = heights-grow text more block k x some c here in
      let t = counted-on (heights_in text c) hs in
      let r : posts_in text c + length hs ≡ posts_in more c
      = ap (λ (n : ℕ). posts_in text c + n) new-length ∙ sym (posts-after text more block k x some c here) in
      λ i.
      record {
        posts = (head_in more c).posts;
        row = row_in more c;
        datum = (head_in more c).datum;
        least = (head_in more c).least;
        greatest = (head_in more c).greatest;
        read = r i;
        filled = (ap (λ u. u.filled) t ∙ ap filled_in (sym g)) i;
        low = (ap (λ u. u.low) t ∙ ap (λ (l : List ℤ). least_of (filled_only l)) (sym g)) i;
        high = (ap (λ u. u.high) t ∙ ap (λ (l : List ℤ). greatest_of (filled_only l)) (sym g)) i;
      }

  pub session-filled : filled_session (begun_session family text) (column_in more 0) (read_so_far text more c) (new_heights text more block k x some c here)
      ≡ open_session family more c
  session-filled =
      let hs = new_heights text more block k x some c here in
      let g = all-grow text more block k x some c here in
      let t = counted-on (all_heights text) hs in
      let taken : blocks_in text + 1 ≡ blocks_in more = omega (arith, x.many, x.one_more) in
      λ i.
      record {
        header = sym (header-same text more block k x some) i;
        taken = taken i;
        closed = closed-here i;
        posts = (sym (length-append (all_heights text) hs) ∙ ap length (sym g)) i;
        filled = (ap (λ u. u.filled) t ∙ ap filled_in (sym g)) i;
        low = (ap (λ u. u.low) t ∙ ap (λ (l : List ℤ). least_of (filled_only l)) (sym g)) i;
        high = (ap (λ u. u.high) t ∙ ap (λ (l : List ℤ). greatest_of (filled_only l)) (sym g)) i;
        column = column_in more 0;
        finished = unfinished i;
        profile = profile-read i;
        sum = (sym (sum-on (all_heights text) hs) ∙ ap (λ (l : List ℤ). sum_of (filled_only l)) (sym g)) i;
        family = family;
      }

  -- ---- whether the block is the profile's last

  -- blocks that the profile has before this one, where it has some
  pub read_is : start_of text c < k → posts_in text c ≡ 146 + 170 * (k - start_of text c - 1)
  read_is lt =
      let m = (head_in text c).posts in
      let q = k - start_of text c in
      let e : blocks_in text - start_of text c ≡ suc (q - 1) = omega (arith, x.many, lt) in
      ap (λ (b : ℕ). min m (room_in b)) e ∙ (omega (arith, here.ends, lt))

  pub last-or-not : ltb (posts_in text c + length (new_heights text more block k x some c here)) (head_in more c).posts
      ≡ ltb (blocks_in more) (start_of more (suc c))
  last-or-not =
      let m = (head_in more c).posts in
      let hs = new_heights text more block k x some c here in
      let q = k - start_of text c in
      let e : blocks_in more - start_of more c ≡ suc q
      = omega (arith, x.one_more, same_start text more block k x some c here, here.begins) in
      let r : posts_in text c + length hs ≡ min m (146 + 170 * q)
      = ap (λ (n : ℕ). posts_in text c + n) new-length ∙ sym (posts-after text more block k x some c here)
      ∙ ap (λ (b : ℕ). min m (room_in b)) e in
      by-test (ltb (blocks_in more) (start_of more (suc c)))
      (λ t.
      let lt = ltb-true (blocks_in more) (start_of more (suc c)) t in
      lt-ltb (posts_in text c + length hs) m (omega (arith, r, lt, e)) ∙ sym t)
      (λ t.
      let le = ltb-false (blocks_in more) (start_of more (suc c)) t in
      le-ltb (posts_in text c + length hs) m (omega (arith, r, le, e)) ∙ sym t)

  grown : (closed : ℕ) (profile : Profile) → closed ≡ closed_in more → (begun_session family more).profile ≡ profile
      → blocks_in more ≤ start_of more (suc c) → begun_session family more ≡ session_by family more closed profile
  grown closed profile n p le =
      let col : ltb 1 (blocks_in more) ≡ true = lt-ltb 1 (blocks_in more) (omega (arith, x.one_more, some)) in
      let fin : ltb (end_of more) (blocks_in more) ≡ false
      = le-ltb (end_of more) (blocks_in more)
      (omega (arith, le, start-order more (suc c) (profiles_in more) (omega (arith, here.below-n, same-n)))) in
      let w : (begun_session family more).column ≡ column_in more 0 = rw col in
      let f : (begun_session family more).finished ≡ 0 = rw fin in
      λ i.
      record {
        header = header_in more;
        taken = blocks_in more;
        closed = sym n i;
        posts = length (all_heights more);
        filled = filled_in (all_heights more);
        low = least_of (filled_only (all_heights more));
        high = greatest_of (filled_only (all_heights more));
        column = w i;
        finished = f i;
        profile = p i;
        sum = sum_of (filled_only (all_heights more));
        family = family;
      }

  module _ (left : blocks_in more < start_of more (suc c)) where
    still-closed : closed_in more ≡ c
    still-closed =
        closed_is more (profiles_in more) c (omega (arith, here.below-n, same-n))
        (omega (arith, same_start text more block k x some c here, here.begins, x.one_more))
        (λ lt. left)
        (omega (arith, x.one_more))

    still_open : is_open more ≡ true
    still_open =
        let a : ltb c (profiles_in more) ≡ true = lt-ltb c (profiles_in more) (omega (arith, here.below-n, same-n)) in
        let b : ltb (start_of more c) (blocks_in more) ≡ true
        = lt-ltb (start_of more c) (blocks_in more) (omega (arith, same_start text more block k x some c here, here.begins, x.one_more)) in
        rw (still-closed, a, b)

    pub session-open : open_session family more c ≡ begun_session family more
    session-open =
        let p : (begun_session family more).profile ≡ open_profile more c = rw (still_open, still-closed) in
        sym (grown c (open_profile more c) (sym still-closed) p (omega (arith, left)))

  module _ (over : start_of more (suc c) ≤ blocks_in more) where
    pub exactly : start_of more (suc c) ≡ blocks_in more
    exactly = omega (arith, over, x.one_more, not-over text more block k x some c here)

    now-closed : closed_in more ≡ suc c
    now-closed =
        closed_is more (profiles_in more) (suc c) (omega (arith, here.below-n, same-n)) over
        (λ lt. omega (arith, exactly, next_start more (suc c)))
        (omega (arith, x.one_more))

    now-idle : is_open more ≡ false
    now-idle =
        let b : ltb (start_of more (suc c)) (blocks_in more) ≡ false = le-ltb (start_of more (suc c)) (blocks_in more) (omega (arith, exactly)) in
        by-test (ltb (suc c) (profiles_in more)) (λ e. rw (now-closed, e, b)) (λ e. rw (now-closed, e))

    pub session-closed : closed_session (open_session family more c) ≡ begun_session family more
    session-closed =
        let n : c + 1 ≡ closed_in more = (omega arith) ∙ sym now-closed in
        let p : (begun_session family more).profile ≡ no_profile = rw now-idle in
        sym (grown (c + 1) no_profile n p (omega (arith, exactly)))
