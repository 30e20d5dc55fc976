-- 02, request 6: how far a start of an integer field has come, byte by byte. The byte is that at which there is no going on, or the last. Nobody has
-- to believe this: that it is the very byte of the form that Grammar states is `integer-wrong-form` (proofs, Grammar).
use Rattle.std.specs.Prelude.{Bool, true, false, cond, List, ℕ}
use Rattle.laws.specs.Starts.{lost_at}
use Rattle.number.specs.Bytes.{is_blank, is_sign, is_digit}

pub data Place : Type 0 where
  in_blanks : Place
  past_sign : Place
  in_digits : Place
  lost : Place

abbrev pub step : Place → ℕ → Place
step in_blanks c = cond (is_blank c) in_blanks (cond (is_sign c) past_sign (cond (is_digit c) in_digits lost))
step past_sign c = cond (is_digit c) in_digits lost
step in_digits c = cond (is_digit c) in_digits lost
step lost c = lost

abbrev pub is_lost : Place → Bool
is_lost in_blanks = false
is_lost past_sign = false
is_lost in_digits = false
is_lost lost = true

unfoldable pub integer_byte : List ℕ → ℕ
integer_byte s = lost_at step is_lost in_blanks s
