-- Numbers handed one by one are those that there is room for.
use mathlib.Core.List.{List, ◌++◌}
use mathlib.Core.Path.{◌≡◌, sym, ◌∙◌, ap, ap₂}
use Prim.Native.Nat.{ℕ, ◌+◌, ◌≤◌, ◌<◌, min}
use native.Mathlib.Nat.{zero-add}
use native.Mathlib.Omega.{arith}
use borrow.Author.Tests.{leb-true, leb-false}
use lib.Dec.{leb}
use lib.ListN.{length, take, drop, get_or, set, drop_of_length-le}
use lib.Seq.{sets, sets-eq, length-take-le, take_all}
use Rattle.laws.proofs.Tests.{by-test}
use Rattle.laws.proofs.Cells.{place-more}
use Rattle.slip.specs.Slip.{handed}

-- one number more
pub hand-more : (numbers answer : List ℕ) (i : ℕ) → i < length numbers
    → set (sets answer 0 (take i numbers)) i (get_or numbers i 0) ≡ sets answer 0 (take (i + 1) numbers)
hand-more numbers answer i lt =
    ap (λ (at : ℕ). set (sets answer 0 (take i numbers)) at (get_or numbers i 0)) (sym (zero-add i)) ∙ place-more answer 0 numbers i 0 lt

module _ (numbers answer : List ℕ) (i : ℕ) (e : i ≡ min (length numbers) (length answer)) where
  many : length (take i numbers) ≡ i
  many = length-take-le i numbers (omega (arith, e))

  -- room for all of them
  all_fit : length numbers ≤ length answer → take i numbers ++ drop (length (take i numbers)) answer ≡ handed numbers answer
  all_fit le =
      let same : i ≡ length numbers = omega (arith, e, le) in
      ap₂ (λ (front rest : List ℕ). front ++ rest)
      (take_all i numbers (omega (arith, same)) ∙ sym (take_all (length answer) numbers le))
      (ap (λ (n : ℕ). drop n answer) (many ∙ same))

  -- and for some
  some_fit : length answer < length numbers → take i numbers ++ drop (length (take i numbers)) answer ≡ handed numbers answer
  some_fit lt =
      let same : i ≡ length answer = omega (arith, e, lt) in
      ap₂ (λ (front rest : List ℕ). front ++ rest) (ap (λ (n : ℕ). take n numbers) same)
      (drop_of_length-le answer {i = length (take i numbers)} (omega (arith, many, same))
      ∙ sym (drop_of_length-le answer {i = length numbers} (omega (arith, lt))))

  pub all-handed : sets answer 0 (take i numbers) ≡ handed numbers answer
  all-handed =
      sets-eq (take i numbers) answer 0 (omega (arith, e, many))
      ∙ ap (λ (at : ℕ). take i numbers ++ drop at answer) (zero-add (length (take i numbers)))
      ∙ by-test (leb (length numbers) (length answer)) (λ t. all_fit (leb-true (length numbers) (length answer) t))
      (λ t. some_fit (leb-false (length numbers) (length answer) t))
