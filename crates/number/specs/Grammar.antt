-- Document 01, "Number fields", said a second time: which bytes stand in which order, and the value as a fraction. No function
-- reads by these; that `integer` and `real` say the same, both ways and for every kind, is proved in proofs/Grammar.antt.
use Rattle.std.specs.Prelude.{Bool, true, false, cond, List, [], ◌∷◌, ◌++◌, ℕ, ◌≤◌, ◌+◌, ◌-◌, ◌*◌, ◌^◌, ◌<◌, ◌≡◌, length, replicate, take, drop, ℤ}
use Rattle.laws.specs.Texts.{every}
use Rattle.laws.specs.Sign.{signed}
use Rattle.number.specs.Bytes.{is_blank, is_digit, number, is_letter, is_empty}
use Rattle.number.specs.Real.{assumed}

-- "an optional sign": no byte, 43 (+) or 45 (-), and whether it is a minus
pub data Sign : List ℕ → Bool → Type 0 where
  unsigned : Sign [] false
  plus : Sign (43 ∷ []) false
  minus : Sign (45 ∷ []) true

-- "An integer field is ..": blanks, a sign or none, and digits, of which the last ends the field
pub record IntegerText (s : List ℕ) (negative : Bool) (size : ℕ) : Type 0 where
  pub blanks : List ℕ
  pub sign : List ℕ
  pub digits : List ℕ
  pub text : s ≡ blanks ++ (sign ++ digits)
  pub blank : every is_blank blanks ≡ true
  pub signs : Sign sign negative
  pub digit : every is_digit digits ≡ true
  pub some : 1 ≤ length digits
  pub spells : number 0 digits ≡ size

-- "digits with at most one point": what stands after the whole digits, and the digits of the fraction in it
pub data Fraction : List ℕ → List ℕ → Type 0 where
  no_point : Fraction [] []
  pointed : (digits : List ℕ) → every is_digit digits ≡ true → Fraction (46 ∷ digits) digits

-- "an optional exponent": its text, whether it is negative, its size
pub data Exponent : List ℕ → Bool → ℕ → Type 0 where
  absent : Exponent [] false 0
  lettered : (letter : ℕ) (sign digits : List ℕ) {negative : Bool} → is_letter letter ≡ true → Sign sign negative
      → every is_digit digits ≡ true → 1 ≤ length digits → length digits ≤ 2
      → Exponent (letter ∷ (sign ++ digits)) negative (number 0 digits)

-- "A real field is blanks, an optional sign, digits .., an optional exponent .., then blanks."
pub record RealText (s : List ℕ) (negative : Bool) (mantissa places : ℕ) (lowered : Bool) (power : ℕ) : Type 0 where
  pub blanks : List ℕ
  pub sign : List ℕ
  pub digits : List ℕ
  pub after : List ℕ
  pub fraction : List ℕ
  pub exponent : List ℕ
  pub rest : List ℕ
  pub text : s ≡ blanks ++ (sign ++ (digits ++ (after ++ (exponent ++ rest))))
  pub blank : every is_blank blanks ≡ true
  pub signs : Sign sign negative
  pub digit : every is_digit digits ≡ true
  pub fractions : Fraction after fraction
  pub some : 1 ≤ length (digits ++ fraction)
  pub spells : number 0 (digits ++ fraction) ≡ mantissa
  -- 02, request 4: behind the point that stands, or behind the one put in where none does
  pub decimals : cond (is_empty after) (assumed (length s)) (length fraction) ≡ places
  pub exponents : Exponent exponent lowered power
  pub ends : every is_blank rest ≡ true

-- the exponent's part above and below the line: 10 ^ raised / 10 ^ sunk
abbrev pub raised : Bool → ℕ → ℕ
raised lowered power = cond lowered 0 power

abbrev pub sunk : Bool → ℕ → ℕ
sunk lowered power = cond lowered power 0

-- "magnitude 1,000,000,000 or more": mantissa × 10 ^ exponent is at least 10 ^ 9
abbrev pub Large : ℕ → ℕ → Bool → ℕ → Type 0
Large mantissa places lowered power = 10 ^ 9 * 10 ^ (places + sunk lowered power) ≤ mantissa * 10 ^ raised lowered power

-- n billionths are the value: mantissa × 10 ^ exponent = n / 10 ^ 9, and from its first to its last digit that is not zero
-- n has at most 15: it is a number below 10 ^ 15 with zeros after it
pub record Billionths (mantissa places : ℕ) (lowered : Bool) (power n : ℕ) : Type 0 where
  pub fraction : mantissa * 10 ^ raised lowered power * 10 ^ 9 ≡ n * 10 ^ (places + sunk lowered power)
  pub front : ℕ
  pub zeros : ℕ
  pub few : front < 10 ^ 15
  pub digits : n ≡ front * 10 ^ zeros

-- 02, request 4, as it says it: zeros in front of fewer than d digits, and a point before the last d. That a field without a point means what it
-- means with this one, for the d of its own length, is `point-put-in`.
abbrev pub filled : ℕ → List ℕ → List ℕ
filled d digits = replicate (d - length digits) 48 ++ digits

abbrev pub point_before_last : ℕ → List ℕ → List ℕ
point_before_last d digits =
    take (length (filled d digits) - d) (filled d digits) ++ (46 ∷ drop (length (filled d digits) - d) (filled d digits))

abbrev pub with_point : {s : List ℕ} {negative : Bool} {mantissa places : ℕ} {lowered : Bool} {power : ℕ}
    → RealText s negative mantissa places lowered power → List ℕ
with_point {s} t =
    t.blanks ++ (t.sign ++ (point_before_last (assumed (length s)) t.digits ++ (t.exponent ++ t.rest)))

-- a text, of any length, that is a real field of value z billionths
pub record RealMeans (s : List ℕ) (z : ℤ) : Type 0 where
  pub negative : Bool
  pub mantissa : ℕ
  pub places : ℕ
  pub lowered : Bool
  pub power : ℕ
  pub size : ℕ
  pub form : RealText s negative mantissa places lowered power
  pub modest : Large mantissa places lowered power → ⊥
  pub exact : Billionths mantissa places lowered power size
  pub value : z ≡ signed negative size

-- a text, of any length, that is an integer field of value z
pub record IntegerMeans (s : List ℕ) (z : ℤ) : Type 0 where
  pub negative : Bool
  pub size : ℕ
  pub form : IntegerText s negative size
  pub value : z ≡ signed negative size

-- a text that has the form, whatever it says: what 02, request 6, calls a permitted field
pub record SomeInteger (s : List ℕ) : Type 0 where
  pub negative : Bool
  pub size : ℕ
  pub form : IntegerText s negative size

pub record SomeReal (s : List ℕ) : Type 0 where
  pub negative : Bool
  pub mantissa : ℕ
  pub places : ℕ
  pub lowered : Bool
  pub power : ℕ
  pub form : RealText s negative mantissa places lowered power
