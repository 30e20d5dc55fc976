-- What is known where the digits of a field, read from its last byte back, have ended.
use Rattle.std.specs.Prelude.{Bool, true, cond, List, ◌≡◌, ℕ, suc, ◌^◌, ◌<◌, length, drop, ℤ, Option, IfSome}
use Rattle.laws.specs.Texts.{every}
use Rattle.number.specs.Bytes.{is_blank, is_sign, is_digit, number}
use Rattle.number.specs.Integer.{integer, read}

-- what may stand before digits
abbrev pub is_front : ℕ → Bool
is_front c = cond (is_blank c) true (is_sign c)

-- the bytes behind byte k are digits, and there are some
pub record FrontAsked (s : List ℕ) (k size : ℕ) : Type 0 where
  pub long : length s ≡ 6
  pub some : k < 5
  pub rest : every is_digit (drop (suc k) s) ≡ true
  pub size_is : size ≡ number 0 (drop (suc k) s)
  pub small : size < 2 ^ 63

-- a number found is the field's; where none is found nothing is said
abbrev pub Finds : List ℕ → Option ℤ → Type 0
Finds s r = IfSome r (λ z. integer s ≡ read z)
