-- Blocks of 1,024 bytes joined in order: so many bytes, and block b of the text is the b-th of them.
use mathlib.Core.List.{List, ◌++◌, map}
use mathlib.Core.Path.{◌≡◌, refl, sym, ◌∙◌, ap}
use Prim.Native.Nat.{ℕ, zero, suc, ◌*◌, ◌≤◌, ◌<◌}
use native.Mathlib.Omega.{arith}
use borrow.Author.Tests.{eqb-true, eqb-false}
use lib.Dec.{eqb}
use lib.ListN.{length, take, drop, length-append, length-drop}
use lib.Seq.{take-append-le, drop-append-le, take_all, drop_at}
use Rattle.laws.specs.Lists.{below, joined}
use Rattle.laws.proofs.Tests.{by-test}
use Rattle.laws.proofs.Lists.{joined-more}
use Rattle.ground.specs.Blocks.{block_at, blocks_in}

-- a text of k blocks, and the text of these and one block more
pub record Extends (text more block : List ℕ) (k : ℕ) : Type 0 where
  pub many : blocks_in text ≡ k
  pub one_more : blocks_in more ≡ suc k
  pub same : (b : ℕ) → b < k → block_at more b ≡ block_at text b
  pub next : block_at more k ≡ block

-- joining a block keeps the earlier ones
pub join-extends : (text block : List ℕ) (k : ℕ) → length text ≡ 1024 * k → length block ≡ 1024 → Extends text (text ++ block) block k
join-extends text block k long one =
    record {
      many = omega (arith, long);
      one_more = omega (arith, long, one, length-append text block);
      same =
          λ b lt.
          let room : 1024 * b ≤ length text = omega (arith, long, lt) in
          let rest : 1024 ≤ length (drop (1024 * b) text) = omega (arith, length-drop (1024 * b) text, long, lt) in
          ap (take 1024) (drop-append-le (1024 * b) text block room) ∙ take-append-le 1024 (drop (1024 * b) text) block rest;
      next = ap (take 1024) (drop_at text block (1024 * k) long) ∙ take_all 1024 block (omega (arith, one));
    }

module _ (at : ℕ → List ℕ) (n : ℕ) (long : (b : ℕ) → b < n → length (at b) ≡ 1024) where
  abbrev text_to : ℕ → List ℕ
  text_to k = joined (map at (below k))

  pub text-length : (k : ℕ) → k ≤ n → length (text_to k) ≡ 1024 * k
  text-length zero le = refl
  text-length (suc k) le =
      ap length (joined-more at k) ∙ length-append (text_to k) (at k)
      ∙ (omega (arith, text-length k (omega (arith, le)), long k le))

  pub joins : (k : ℕ) → k < n → Extends (text_to k) (text_to (suc k)) (at k) k
  joins k lt = rw (joined-more at k) (join-extends (text_to k) (at k) k (text-length k (omega (arith, lt))) (long k lt))

  -- block b of the first k
  pub block-at : (k b : ℕ) → k ≤ n → b < k → block_at (text_to k) b ≡ at b
  block-at zero b le lt = absurd (omega (arith, lt))
  block-at (suc k) b le lt =
      let x = joins k le in
      by-test (eqb b k)
      (λ e. let q = eqb-true b k e in ap (block_at (text_to (suc k))) q ∙ x.next ∙ ap at (sym q))
      (λ e. let ne = eqb-false b k e in x.same b (omega (arith, lt, ne)) ∙ block-at k b (omega (arith, le)) (omega (arith, lt, ne)))
