-- Where profiles start in a text, and how many are closed. Starts rise by at least one block a profile; that carries the rest.
use mathlib.Core.List.{List}
use Prim.Native.Nat.{ℕ, suc, ◌<◌, zero, ◌+◌, ◌≤◌, ◌-◌}
use native.Mathlib.Omega.{arith}
use mathlib.Core.Path.{◌≡◌}
use native.Mathlib.Nat.{add-zero}
use lib.Dec.{leb, ltb}
use borrow.Author.Tests.{leb-true, leb-false, ltb-true, ltb-false}
use Rattle.ground.specs.Blocks.{blocks_in}
use Rattle.laws.proofs.Tests.{by-test}
use Rattle.meaning.specs.Text.{start_of, posts_in}
use Rattle.meaning.specs.Means.{closed_of}

pub next_start : (text : List ℕ) (j : ℕ) → start_of text j < start_of text (suc j)
next_start text j = omega arith

pub start-rises : (text : List ℕ) (j d : ℕ) → start_of text j + d ≤ start_of text (j + d)
start-rises text j zero = rw (add-zero j) (omega arith)
start-rises text j (suc d) =
    let e : j + suc d ≡ suc (j + d) = omega arith in
    rw e (omega (arith, start-rises text j d, next_start text (j + d)))

pub start-order : (text : List ℕ) (i j : ℕ) → i ≤ j → start_of text i + (j - i) ≤ start_of text j
start-order text i j h =
    let e : i + (j - i) ≡ j = omega (arith, h) in
    let r = start-rises text i (j - i) in rw e at r

pub start-from : (text : List ℕ) (j : ℕ) → 1 + j ≤ start_of text j
start-from text j = omega (arith, start-order text 0 j (omega arith))

-- no post of a profile that has not begun
pub none_yet : (text : List ℕ) (j : ℕ) → blocks_in text ≤ start_of text j → posts_in text j ≡ 0
none_yet text j h =
    let e : blocks_in text - start_of text j ≡ 0 = omega (arith, h) in
    rw e (omega arith)

-- ---- how many are closed

pub closed-most : (text : List ℕ) (n : ℕ) → closed_of text n ≤ n
closed-most text zero = omega arith
closed-most text (suc n) =
    by-test (leb (start_of text (suc n)) (blocks_in text)) (λ e. rw e (omega arith)) (λ e. rw e (omega (arith, closed-most text n)))

pub closed-start : (text : List ℕ) (n : ℕ) → 1 ≤ blocks_in text → start_of text (closed_of text n) ≤ blocks_in text
closed-start text zero h = h
closed-start text (suc n) h =
    by-test (leb (start_of text (suc n)) (blocks_in text)) (λ e. rw e (leb-true (start_of text (suc n)) (blocks_in text) e))
    (λ e. rw e (closed-start text n h))

pub closed-next : (text : List ℕ) (n : ℕ) → closed_of text n < n → blocks_in text < start_of text (suc (closed_of text n))
closed-next text zero h = elim h [ ]
closed-next text (suc n) h =
    by-test (leb (start_of text (suc n)) (blocks_in text))
    (λ e. let z : suc n < suc n = rw e at h in absurd (omega (arith, z)))
    (λ e.
    let less = leb-false (start_of text (suc n)) (blocks_in text) e in
    by-test (ltb (closed_of text n) n)
    (λ k. rw e (closed-next text n (ltb-true (closed_of text n) n k)))
    (λ k.
    let all : closed_of text n ≡ n = omega (arith, ltb-false (closed_of text n) n k, closed-most text n) in
    rw (e, all) less))

-- the one count of closed profiles that fits
pub closed_is : (text : List ℕ) (n c : ℕ) → c ≤ n → start_of text c ≤ blocks_in text → (c < n → blocks_in text < start_of text (suc c))
    → 1 ≤ blocks_in text → closed_of text n ≡ c
closed_is text n c le here next some =
    let d = closed_of text n in
    by-test (ltb d c)
    (λ k.
    let lt = ltb-true d c k in
    absurd (omega (arith, closed-next text n (omega (arith, lt, le)), start-order text (suc d) c lt, here)))
    (λ k.
    by-test (ltb c d)
    (λ m.
    let lt = ltb-true c d m in
    absurd (omega (arith, next (omega (arith, lt, closed-most text n)), start-order text (suc c) d lt, closed-start text n some)))
    (λ m. omega (arith, ltb-false d c k, ltb-false c d m)))
