-- A block's posts one by one, and what a scan keeps while it passes them. One step of `posts_fault` and `posts_of` carries it.
use mathlib.Core.List.{List, ◌++◌, ◌∷◌, []}
use mathlib.Core.Path.{◌≡◌, refl, ap, sym, ◌∙◌}
use Prim.Native.Nat.{ℕ, ◌+◌, ◌*◌, ◌-◌, ◌≤◌, zero, suc, ◌<◌}
use lib.IntN.{ℤ, pos, nat_abs}
use Rattle.std.specs.Prelude.{Result, Ok, Err}
use lib.ListN.{drop, length, take, take-append-drop, set, length-set}
use native.Mathlib.Omega.{arith}
use mathlib.Core.Bool.{true, false}
use lib.Dec.{eqb}
use borrow.Author.Tests.{eq-eqb, eqb-false}
use native.Mathlib.Numerals.{add-one}
use lib.Seq.{take_at, length-take-le, drop-set-lt, drop-drop, take-suc-set, append_snoc}
use mir.Syntax.{w32}
use mir.Val.{SFits}
use Rattle.number.specs.Integer.{integer}
use Rattle.number.specs.Reading.{said}
use Rattle.number.specs.declared.Reading.{Reading}
use Rattle.number.specs.declared.Unread.{Unread}
use Rattle.field.specs.Field.{stretch, fault, fault_or}
use Rattle.field.specs.Told.{fault_told, broken, placed}
use Rattle.field.specs.declared.Broken.{Broken}
use Rattle.kinds.specs.Kinds.{number_of}
use Rattle.kinds.proofs.Numbers.{not-zero}
use Rattle.laws.proofs.Tests.{clash}
use Rattle.ground.specs.Posts.{posts_fault, posts_of, heights, tally_all, height, judge_post, tally_one}
use Rattle.ground.specs.declared.Tally.{Tally}
use Rattle.ground.proofs.Heights.{height-fits}
use Rattle.ground.proofs.Tallies.{tally-filled, filled_within}
use Rattle.ground.proofs.PostsRead.{passed, fault-stop, fault-on, Passed}
use Rattle.posts.specs.Scan.{good_posts, heights_over, scan_told}
use Rattle.posts.specs.Steps.{Scanned}

-- ---- a post as the code judges it

-- a good one and one at fault are two
good-or-broken : {A : Type 0} (x : A) (b : Broken) → Ok x ≡ Err b → ⊥
good-or-broken x b e = clash (ap (λ f. eqb (fault_told f).kind 0) e ∙ not-zero b.kind)

abbrev value_of : Result ℤ Broken → ℤ
value_of (Ok z) = z
value_of (Err b) = pos 0

placed-bad : (byte : ℕ) (r : Result ℤ Unread) (b : Broken) → placed byte r ≡ Err b → eqb (said r).kind 0 ≡ false
placed-bad byte (Ok z) b e = absurd (good-or-broken z b e)
placed-bad byte (Err u) b e = not-zero u.kind

placed-broken : (byte : ℕ) (r : Result ℤ Unread) (b : Broken) → placed byte r ≡ Err b
    → fault (number_of b.kind) b.byte ≡ fault_or (said r) byte (fault 0 0)
placed-broken byte (Ok z) b e = absurd (good-or-broken z b e)
placed-broken byte (Err u) b e = sym (ap fault_told e) ∙ rw (not-zero u.kind)

placed-good : (byte : ℕ) (r : Result ℤ Unread) (z : ℤ) → placed byte r ≡ Ok z → said r ≡ said (Ok z)
placed-good byte (Ok y) z e = ap (λ v. said (Ok v)) (ap value_of e)
placed-good byte (Err u) z e = absurd (good-or-broken z (broken u.kind (byte + (u.byte - 1))) (sym e))

-- ---- the scan, post by post

-- i posts were passed: what is left, with what is done, is the whole
pub record Scanning (block : List ℕ) (byte n z : ℕ) (datum : ℤ) (t₀ : Tally) (before scratch : List ℤ) (t : Tally) (i : ℕ) : Type 0 where
  pub within : i ≤ n
  pub many : length scratch ≡ length before
  pub few : t.filled ≤ t₀.filled + i
  pub faults : posts_fault (n - i) (byte + 6 * i) block ≡ posts_fault n byte block
  pub cells : take i scratch ++ heights z datum (posts_of (n - i) (byte + 6 * i) block) ≡ heights z datum (posts_of n byte block)
  pub tally : tally_all t (heights z datum (posts_of (n - i) (byte + 6 * i) block)) ≡ tally_all t₀ (heights z datum (posts_of n byte block))
  pub rest : drop i scratch ≡ drop i before
  pub good : good_posts n byte block ≡ i + good_posts (n - i) (byte + 6 * i) block

-- the heights of the first i posts are the first i of all
pub heights-front : (z : ℕ) (datum : ℤ) (i n byte : ℕ) (block : List ℕ) → i ≤ n
    → take i (heights z datum (posts_of n byte block)) ≡ heights z datum (posts_of i byte block)
heights-front z datum zero n byte block h = refl
heights-front z datum (suc i) zero byte block h = absurd (omega (arith, h))
heights-front z datum (suc i) (suc n) byte block h =
    ap (λ (l : List ℤ). height z datum (integer (stretch byte 6 block)).value ∷ l)
    (heights-front z datum i n (byte + 6) block (omega (arith, h)))

module _ {block : List ℕ} {byte n z : ℕ} {datum : ℤ} {t₀ : Tally} {before scratch : List ℤ} {t : Tally} {i : ℕ}
    (p : Scanning block byte n z datum t₀ before scratch t i) where
  -- where the next post starts
  abbrev first : ℕ
  first = byte + 6 * i

  -- where i posts are good, the scratch is their heights and what it was
  over : i ≤ length scratch → good_posts n byte block ≡ i → scratch ≡ heights_over block byte (good_posts n byte block) z datum before
  over room e =
      let hs = heights z datum (posts_of i byte block) in
      let front : take i scratch ≡ hs =
      sym (take_at (take i scratch) (heights z datum (posts_of (n - i) first block)) i (length-take-le i scratch room))
      ∙ ap (take i) p.cells
      ∙ heights-front z datum i n byte block p.within
      in
      sym (take-append-drop i scratch)
      ∙ ap (λ (l : List ℤ). l ++ drop i scratch) front
      ∙ ap (λ (l : List ℤ). hs ++ l) p.rest
      ∙ ap (λ (k : ℕ). heights_over block byte k z datum before) (sym e)

  module _ (h : i < n) (r : Result ℤ Unread) (is : said r ≡ judge_post (integer (stretch first 6 block))) where
    left : n - i ≡ suc (n - (i + 1))
    left = omega arith

    kind-is : (judge_post (integer (stretch first 6 block))).kind ≡ (said r).kind
    kind-is = ap (λ (x : Reading). x.kind) (sym is)

    pub scanning-stop : n ≤ length before → (b : Broken) → placed first r ≡ Err b
        → Scanned block byte n z datum t₀ before scratch (scan_told (Err b))
    scanning-stop room b w =
        let at-fault : fault (number_of b.kind) b.byte ≡ fault_or (said r) first (fault 0 0) = placed-broken first r b w in
        let bad : eqb (judge_post (integer (stretch first 6 block))).kind 0 ≡ false =
        ap (λ (k : ℕ). eqb k 0) kind-is ∙ placed-bad first r b w
        in
        let none : good_posts (n - i) first block ≡ 0 = rw (left, bad) in
        let g = fault-stop block first (n - (i + 1)) (eqb-false (judge_post (integer (stretch first 6 block))).kind 0 bad) in
        record {
          fault-is =
              at-fault
              ∙ sym
              (sym p.faults ∙ ap (λ (k : ℕ). posts_fault k first block) left ∙ g
              ∙ ap (λ (x : Reading). fault_or x first (fault 0 0)) (sym is));
          scratch-is = over (omega (arith, p.many)) (omega (arith, p.good, none));
          tally-is = λ k. absurd (eqb-false (number_of b.kind) 0 (not-zero b.kind) k);
        }

    module _ (post : ℤ) (k : placed first r ≡ Ok post) where
      good-is : judge_post (integer (stretch first 6 block)) ≡ said (Ok post)
      good-is = sym is ∙ placed-good first r post k

      none-is : (judge_post (integer (stretch first 6 block))).kind ≡ 0
      none-is = ap (λ (x : Reading). x.kind) good-is

      here : Passed (integer (stretch first 6 block))
      here = passed (integer (stretch first 6 block)) none-is

      value-is : post ≡ (integer (stretch first 6 block)).value
      value-is = ap (λ (x : Reading). x.value) (sym good-is ∙ here.same)

      pub value-most : nat_abs post ≤ 32767
      value-most = rw value-is here.most

      pub cell-fits : z ≤ 100 → nat_abs datum ≤ 1000000 → SFits w32 (height z datum post)
      cell-fits most near = height-fits z datum post (record { post-most = value-most; z-most = most; datum-most = near })

      pub scanning-turn : i < length scratch → (v : ℤ) → v ≡ height z datum post
          → Scanning block byte n z datum t₀ before (set scratch i v) (tally_one t v) (i + 1)
      scanning-turn room v e =
          let next : byte + 6 * (i + 1) ≡ first + 6 = omega arith in
          let rest = heights z datum (posts_of (n - (i + 1)) (first + 6) block) in
          let whole : heights z datum (posts_of (n - i) first block) ≡ v ∷ rest =
          rw left (λ j. sym (e ∙ ap (height z datum) value-is) j ∷ rest)
          in
          record {
            within = omega arith;
            many = length-set scratch i v ∙ p.many;
            few = omega (arith, tally-filled t (v ∷ []), filled_within (v ∷ []), p.few);
            faults = rw next (sym (rw left (fault-on block first (n - (i + 1)) none-is)) ∙ p.faults);
            cells =
                rw next
                (ap (λ (l : List ℤ). l ++ rest) (ap (λ (j : ℕ). take j (set scratch i v)) (add-one i) ∙ take-suc-set scratch i v room)
                ∙ append_snoc (take i scratch) v rest
                ∙ sym (ap (λ (l : List ℤ). take i scratch ++ l) whole)
                ∙ p.cells);
            tally = rw next (sym (ap (tally_all t) whole) ∙ p.tally);
            rest =
                drop-set-lt (i + 1) scratch i v (omega arith)
                ∙ sym (drop-drop 1 i scratch)
                ∙ ap (drop 1) p.rest
                ∙ drop-drop 1 i before;
            good =
                let b : eqb (judge_post (integer (stretch first 6 block))).kind 0 ≡ true = eq-eqb (judge_post (integer (stretch first 6 block))).kind 0 none-is in
                let one : good_posts (n - i) first block ≡ suc (good_posts (n - (i + 1)) (first + 6) block) = rw (left, b) in
                rw next (omega (arith, p.good, one));
          }
