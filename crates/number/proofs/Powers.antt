-- A power of ten judged by the places that the code found.
use mathlib.Core.Bool.{true, false, Bool}
use mathlib.Core.List.{List}
use mathlib.Core.Path.{◌≡◌, sym, ◌∙◌, ap, subst⁻¹}
use Prim.Native.Nat.{ℕ, ◌≤◌, ◌+◌, ◌-◌, ◌<◌, ◌^◌}
use native.Mathlib.Omega.{arith}
use lib.ListN.{length, drop, get_or}
use Rattle.std.specs.Prelude.{Ok, Err}
use lib.Seq.{drop-drop}
use native.Mathlib.Nat.{lt_of_lt_of_le}
use borrow.Author.Tests.{le-leb, lt-leb}
use lib.Dec.{leb, lit<}
use Rattle.laws.proofs.Tens.{ten-up}
use Rattle.laws.proofs.Tests.{and-fails-first, and-fails-second}
use Rattle.number.specs.Bytes.{is_letter, starts, is_sign, is_minus, is_digit, past_one, past_all, digits, number}
use Rattle.number.specs.declared.Unread.{Unread}
use Rattle.number.specs.Reading.{said}
use Rattle.number.specs.Integer.{wrong_form}
use Rattle.number.specs.Steps.{PowerAt, PowerStops, stopped_at, Past, RunAt, Leads, none}
use Rattle.number.specs.Real.{power}
use Rattle.number.specs.declared.decimal.Run.{Run}
use Rattle.number.proofs.Fields.{empty-none, empty-some}
use Rattle.number.proofs.Places.{one-taken, starts-here, starts-inside}
use Rattle.number.proofs.Runs.{run_length, number-below}
use Rattle.number.proofs.GrammarParts.{digits-every}
use Rattle.number.proofs.Scale.{leads-none, leads-all, leads-whole}

-- digits that are few enough are kept whole
module _ (s : List ℕ) (from : ℕ) (r : Run) (run : RunAt s from none r) where
  pub run-below : {n : ℕ} → r.next - from ≤ n → number 0 (digits (drop from s)) < 10 ^ n
  run-below {n} h =
      let k : 0 + length (digits (drop from s)) ≤ n = omega (arith, run_length s from r.next run.past) in
      lt_of_lt_of_le (number-below 0 0 (digits (drop from s)) (digits-every (drop from s)) (lit< tt)) (ten-up k)

  pub run-whole : r.next - from ≤ 14 → r.kept.head ≡ number 0 (digits (drop from s))
  run-whole h =
      leads-whole (number 0 (digits (drop from s))) r.kept (run-below h)
      (subst⁻¹ (Leads (number 0 (digits (drop from s)))) run.kept
      (leads-all 0 none (digits (drop from s)) (digits-every (drop from s)) leads-none))

pub power-none : (s : List ℕ) (from : ℕ) → from ≤ length s → starts is_letter (drop from s) ≡ false
    → PowerAt s from (Ok (record { next = from; minus = false; size = 0 }))
power-none s from h e =
    record { form = rw e; past = record { onward = omega arith; inside = h; is = rw e }; minus = rw e; size = rw e; small = omega arith }

module _ (s : List ℕ) (from first : ℕ) (r : Run) (begins : starts is_letter (drop from s) ≡ true)
    (sign : Past (past_one is_sign) s (from + 1) first) (run : RunAt s first none r) where
  here : from < length s
  here = starts-inside is_letter s from begins

  letter : is_letter (get_or s from 0) ≡ true
  letter = starts-here is_letter s from here ∙ begins

  past-letter : past_one is_letter (drop from s) ≡ drop (from + 1) s
  past-letter = sym (one-taken is_letter s from here letter).is

  digits-at : past_one is_sign (past_one is_letter (drop from s)) ≡ drop first s
  digits-at = ap (past_one is_sign) past-letter ∙ sym sign.is

  many : length (power (drop from s)) ≡ r.next - first
  many = ap (λ l. length (digits l)) digits-at ∙ run_length s first r.next run.past

  -- no digit: the letter, and its sign, is all that there is of it
  pub power-no-digit : r.next ≡ first → (u : Unread) → said (Err u) ≡ wrong_form (stopped_at first (length s)) → PowerStops s from u
  power-no-digit h u told =
      let e : length (power (drop from s)) ≤ 0 = omega (arith, many, h) in
      record {
        form = rw begins (and-fails-first (leb (length (power (drop from s))) 2) (lt-leb 1 (length (power (drop from s))) (omega (arith, e))));
        stop = first;
        told = told;
        past =
            record {
              onward = omega (arith, sign.onward);
              inside = sign.inside;
              is = rw (empty-none (power (drop from s)) e) (sym digits-at);
            };
      }

  -- a third digit
  pub power-third-digit : first + 2 < r.next → (u : Unread) → said (Err u) ≡ wrong_form (stopped_at (first + 2) (length s)) → PowerStops s from u
  power-third-digit h u told =
      let e : 3 ≤ length (power (drop from s)) = omega (arith, many, h) in
      record {
        form =
            rw begins
            (and-fails-second (leb 1 (length (power (drop from s)))) (lt-leb (length (power (drop from s))) 2 (omega (arith, e))));
        stop = first + 2;
        told = told;
        past =
            record {
              onward = omega (arith, sign.onward);
              inside = omega (arith, h, run.past.inside);
              is = rw (empty-some (power (drop from s)) (omega (arith, e))) (sym (ap (drop 2) digits-at ∙ drop-drop 2 first s));
            };
      }

  pub power-good : (r.next ≡ first → ⊥) → r.next ≤ first + 2 → (minus : Bool) → minus ≡ starts is_minus (drop (from + 1) s)
      → PowerAt s from (Ok (record { next = r.next; minus = minus; size = r.kept.head }))
  power-good low high minus m =
      record {
        form =
            rw (begins, many)
            (rw (le-leb 1 (r.next - first) (omega (arith, low, run.past.onward))) (le-leb (r.next - first) 2 (omega arith)));
        past =
            record {
              onward = omega (arith, sign.onward, run.past.onward);
              inside = run.past.inside;
              is = run.past.is ∙ rw begins (ap (past_all is_digit) (sym digits-at));
            };
        minus = m ∙ rw (begins, past-letter);
        size = whole ∙ rw begins (ap (λ l. number 0 (digits l)) (sym digits-at));
        small = omega (arith, whole, below);
      }
    where
      few : r.next - first ≤ 2
      few = omega arith

      below : number 0 (digits (drop first s)) < 100
      below = run-below s first r run few

      whole : r.kept.head ≡ number 0 (digits (drop first s))
      whole = run-whole s first r run (omega (arith, few))
