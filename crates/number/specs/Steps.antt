-- How the code walks a field: what its private functions answer. No paper's sentence is stated here; the public promises cite
-- `integer` and `real` alone.
use Rattle.std.specs.Prelude.{List, [], ◌∷◌, ◌≡◌, ℕ, ◌≤◌, ◌^◌, ◌<◌, ◌+◌, ◌*◌, ◌-◌, ◌/◌, ◌%◌, length, drop, true, cond, false, not, Bool, ltb, eqb, leb, Result, Ok, Err}
use Rattle.laws.specs.Sign.{signed}
use Rattle.number.specs.Bytes.{is_digit, is_sign, is_letter, is_empty, past_one, past_all, digits, number}
use Rattle.number.specs.declared.walk.Whole.{Whole}
use Rattle.number.specs.declared.decimal.Kept.{Kept}
use Rattle.number.specs.declared.decimal.Run.{Run}
use Rattle.number.specs.declared.decimal.Mantissa.{Mantissa}
use Rattle.number.specs.Real.{mantissa_digits, past_mantissa, fraction_part, has_point, power, past_power, power_minus, power_size, power_form, billionths}
use Rattle.number.specs.declared.decimal.Power.{Power}
use Rattle.kinds.specs.declared.Kind.{Kind}
use Rattle.kinds.specs.declared.Kind.TheVariants.{Range, Fine}
use Rattle.kinds.specs.Kinds.{number_of}
use Rattle.number.specs.declared.Unread.{Unread}
use Rattle.number.specs.Reading.{said}
use Rattle.number.specs.declared.Reading.{Reading}
use Rattle.number.specs.Integer.{read, refused, wrong_form}

-- r is the place past what `after` passes of the text from `from` on
pub record Past (after : List ℕ → List ℕ) (s : List ℕ) (from r : ℕ) : Type 0 where
  pub onward : from ≤ r
  pub inside : r ≤ length s
  pub is : drop r s ≡ after (drop from s)

-- the byte, counted from 1, at a place counted from 0; the last one where the field ends there
abbrev pub stopped_at : ℕ → ℕ → ℕ
stopped_at next bytes = cond (ltb next bytes) (next + 1) bytes

-- the digits from `from` on: past them, and the number they spell
pub record WholeAt (s : List ℕ) (from : ℕ) (w : Whole) : Type 0 where
  pub past : Past (past_all is_digit) s from w.next
  pub value : w.value ≡ number 0 (digits (drop from s))
  pub small : w.value < 10 ^ 6

-- one digit more: the first 15 from the first that is not zero are kept, later ones counted, with a mark for one not zero
abbrev pub kept_one : Kept → ℕ → Kept
kept_one k d =
    cond (ltb k.head (10 ^ 14))
    (record { head = k.head * 10 + d; dropped = k.dropped; more = k.more })
    (record { head = k.head; dropped = k.dropped + 1; more = cond (eqb d 0) k.more true })

abbrev pub kept_all : Kept → List ℕ → Kept
kept_all k [] = k
kept_all k (c ∷ s) = kept_all (kept_one k (c - 48)) s

pub record RunAt (s : List ℕ) (from : ℕ) (k : Kept) (r : Run) : Type 0 where
  pub past : Past (past_all is_digit) s from r.next
  pub kept : r.kept ≡ kept_all k (digits (drop from s))
  pub small : r.kept.head < 10 ^ 15
  pub few : r.kept.dropped ≤ r.next

abbrev pub none : Kept
none = record { head = 0; dropped = 0; more = false }

pub record MantissaAt (s : List ℕ) (from : ℕ) (m : Mantissa) : Type 0 where
  pub past : Past past_mantissa s from m.next
  pub count : m.digits ≡ length (mantissa_digits (drop from s))
  pub pointed : ltb m.whole m.point ≡ has_point (drop from s)
  pub order : m.point ≤ m.next
  pub standing : m.next - m.point ≡ length (digits (fraction_part (drop from s)))
  pub kept : m.kept ≡ kept_all none (mantissa_digits (drop from s))
  pub small : m.kept.head < 10 ^ 15
  pub few : m.kept.dropped ≤ m.next

-- what a power of ten that has its form says
pub record PowerIs (s : List ℕ) (from : ℕ) (p : Power) : Type 0 where
  pub form : power_form (drop from s) ≡ true
  pub past : Past past_power s from p.next
  pub minus : p.minus ≡ power_minus (drop from s)
  pub size : p.size ≡ power_size (drop from s)
  pub small : p.size < 100

-- where a power of ten that has not its form stops being the start of one: before its first digit, or behind its second
abbrev pub power_stop : List ℕ → List ℕ
power_stop x = cond (is_empty (power x)) (past_one is_sign (past_one is_letter x)) (drop 2 (past_one is_sign (past_one is_letter x)))

pub record PowerStops (s : List ℕ) (from : ℕ) (u : Unread) : Type 0 where
  pub form : power_form (drop from s) ≡ false
  pub stop : ℕ
  pub past : Past power_stop s from stop
  pub told : said (Err u) ≡ wrong_form (stopped_at stop (length s))

abbrev pub PowerAt : List ℕ → ℕ → Result Power Unread → Type 0
PowerAt s from (Ok p) = PowerIs s from p
PowerAt s from (Err u) = PowerStops s from u

-- the kept digits are those of m
pub record Leads (m : ℕ) (k : Kept) : Type 0 where
  pub tail : ℕ
  pub is : m ≡ k.head * 10 ^ k.dropped + tail
  pub below : tail < 10 ^ k.dropped
  pub flag : k.more ≡ not (eqb tail 0)
  pub small : k.head < 10 ^ 15
  pub full : 0 < k.dropped → 10 ^ 14 ≤ k.head

-- a value in billionths, or the kind of its refusal
abbrev pub reading_of : Bool → Result ℕ Kind → Reading
reading_of minus (Ok n) = read (signed minus n)
reading_of minus (Err k) = refused (number_of k)

-- the value of every mantissa with these digits
pub record ScaledAt (k : Kept) (u d : ℕ) (r : Result ℕ Kind) : Type 0 where
  pub is : (m : ℕ) → Leads m k → (minus : Bool) → billionths minus m u d ≡ reading_of minus r
  pub small : (n : ℕ) → r ≡ Ok n → n < 10 ^ 18

-- head × 10 ^ d, with digits after it not all zero where `more` is marked
abbrev pub up_of : ℕ → Bool → ℕ → Result ℕ Kind
up_of head more d = cond (leb (10 ^ 18) (head * 10 ^ d)) (Err Range) (cond more (Err Fine) (Ok (head * 10 ^ d)))

-- head / 10 ^ d, likewise
abbrev pub down_of : ℕ → Bool → ℕ → Result ℕ Kind
down_of head more d = cond more (Err Fine) (cond (eqb (head % 10 ^ d) 0) (Ok (head / 10 ^ d)) (Err Fine))
