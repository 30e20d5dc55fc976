-- Counts and sums that are gone on from: as a test, and as facts.
use mathlib.Core.Bool.{true, cond}
use mathlib.Core.Path.{◌≡◌, ◌∙◌, ap₂}
use Prim.Native.Nat.{ℕ, ◌<◌}
use native.Mathlib.Omega.{arith}
use borrow.Author.Tests.{leb-true, le-leb, lt-leb}
use lib.IntN.{ℤ, nat_abs, ◌+ℤ◌}
use mir.Syntax.{w64}
use mir.Val.{to_z, SFits, of_z}
use mir.Facts.{to_z-of_z}
use Rattle.laws.specs.Sign.{◌and◌}
use Rattle.laws.proofs.Integers.{size-sum, size_fits}
use Rattle.laws.proofs.Tests.{split, and_both}
use Rattle.session.specs.declared.Session.{Session}
use Rattle.session.specs.declared.Profile.{Profile}
use Rattle.ground.specs.declared.Tally.{Tally}
use Rattle.progress.specs.Progress.{small, near, countable, Few, Near, Counted}

is-small : (n : ℕ) → Few n → small n ≡ true
is-small n h = le-leb n 4294967296 h

few : (n : ℕ) → small n ≡ true → Few n
few n t = leb-true n 4294967296 t

is-near : (z : ℤ) → Near z → near z ≡ true
is-near z h = le-leb (nat_abs z) 1000000000000000000 h

nearby : (z : ℤ) → near z ≡ true → Near z
nearby z t = leb-true (nat_abs z) 1000000000000000000 t

-- a count gone on from, and one that is not
module _ (n : ℕ) (x y : Session) where
  pub goes_on : Few n → cond (small n) x y ≡ x
  goes_on h = rw (is-small n h)

  pub stays : 4294967296 < n → cond (small n) x y ≡ y
  stays h = rw (lt-leb n 4294967296 h)

-- two sums gone on from: what the bits that carry them come to
module _ (a b : ℤ) (h : Near a) (k : Near b) where
  read_back : to_z w64 (of_z w64 a) +ℤ to_z w64 (of_z w64 b) ≡ a +ℤ b
  read_back = ap₂ ◌+ℤ◌ (to_z-of_z {w = w64} (size_fits a (omega arith))) (to_z-of_z {w = w64} (size_fits b (omega arith)))

  pub sum_fits : SFits w64 (to_z w64 (of_z w64 a) +ℤ to_z w64 (of_z w64 b))
  sum_fits = rw read_back (size_fits (a +ℤ b) (omega (arith, size-sum a b)))

  pub sum_back : to_z w64 (of_z w64 (to_z w64 (of_z w64 a) +ℤ to_z w64 (of_z w64 b))) ≡ a +ℤ b
  sum_back = to_z-of_z sum_fits ∙ read_back

module _ (s : Session) (p : Profile) (n : ℕ) (u : Tally) (sum : ℤ) where
  pub is-countable : Counted s p n u sum → countable s p n u sum ≡ true
  is-countable k =
      and_both (and_both (is-small _ k.taken) (and_both (is-small _ k.posts) (is-small _ k.filled)))
      (and_both (and_both (is-small _ k.read) (is-small _ k.profile-filled))
      (and_both (and_both (is-small _ k.more) (is-small _ k.more-filled))
      (and_both (is-near s.sum k.so_far) (is-near sum k.more-sum))))

  pub counted : countable s p n u sum ≡ true → Counted s p n u sum
  counted t =
      let whole = split (small s.taken and small s.posts and small s.filled) _ t in
      let sheet = split (small s.taken) _ whole.0 in
      let sheet2 = split (small s.posts) (small s.filled) sheet.1 in
      let rest = split (small p.read and small p.filled) _ whole.1 in
      let profile = split (small p.read) (small p.filled) rest.0 in
      let last = split (small n and small u.filled) _ rest.1 in
      let block = split (small n) (small u.filled) last.0 in
      let sums = split (near s.sum) (near sum) last.1 in
      record {
        taken = few _ sheet.0;
        posts = few _ sheet2.0;
        filled = few _ sheet2.1;
        read = few _ profile.0;
        profile-filled = few _ profile.1;
        more = few _ block.0;
        more-filled = few _ block.1;
        so_far = nearby s.sum sums.0;
        more-sum = nearby sum sums.1;
      }
