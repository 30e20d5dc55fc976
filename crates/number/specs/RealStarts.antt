-- 02, request 6: how far a start of a real field has come, byte by byte; `bare_point` is one before any digit. As with integers, that this finds the
-- very byte is proved: `real-wrong-form` (proofs, Grammar).
use Rattle.std.specs.Prelude.{Bool, true, false, cond, List, ℕ}
use Rattle.laws.specs.Starts.{lost_at}
use Rattle.number.specs.Bytes.{is_blank, is_sign, is_digit, is_point, is_letter}

pub data Place : Type 0 where
  in_blanks : Place
  past_sign : Place
  in_whole : Place
  bare_point : Place
  in_fraction : Place
  past_letter : Place
  past_power_sign : Place
  one_digit : Place
  two_digits : Place
  in_rest : Place
  lost : Place

-- behind a mantissa: its exponent's letter, or the blanks after it
abbrev pub leaves : ℕ → Place
leaves c = cond (is_letter c) past_letter (cond (is_blank c) in_rest lost)

abbrev pub step : Place → ℕ → Place
step in_blanks c = cond (is_blank c) in_blanks (cond (is_sign c) past_sign (cond (is_digit c) in_whole (cond (is_point c) bare_point lost)))
step past_sign c = cond (is_digit c) in_whole (cond (is_point c) bare_point lost)
step in_whole c = cond (is_digit c) in_whole (cond (is_point c) in_fraction (leaves c))
step bare_point c = cond (is_digit c) in_fraction lost
step in_fraction c = cond (is_digit c) in_fraction (leaves c)
step past_letter c = cond (is_sign c) past_power_sign (cond (is_digit c) one_digit lost)
step past_power_sign c = cond (is_digit c) one_digit lost
step one_digit c = cond (is_digit c) two_digits (cond (is_blank c) in_rest lost)
step two_digits c = cond (is_blank c) in_rest lost
step in_rest c = cond (is_blank c) in_rest lost
step lost c = lost

abbrev pub is_lost : Place → Bool
is_lost in_blanks = false
is_lost past_sign = false
is_lost in_whole = false
is_lost bare_point = false
is_lost in_fraction = false
is_lost past_letter = false
is_lost past_power_sign = false
is_lost one_digit = false
is_lost two_digits = false
is_lost in_rest = false
is_lost lost = true

unfoldable pub real_byte : List ℕ → ℕ
real_byte s = lost_at step is_lost in_blanks s
