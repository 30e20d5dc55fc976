-- Document 01, "Number fields", and 02, request 6: an integer field, read alone.
use Rattle.std.specs.Prelude.{ℕ, pos, ℤ, cond, Bool, not, List, leb, length}
use Rattle.laws.specs.Sign.{◌and◌, signed}
use Rattle.number.specs.declared.Reading.{Reading}
use Rattle.number.specs.Bytes.{is_blank, is_sign, past_one, past_all, is_digit, is_empty, digits, is_minus, starts, number}
use Rattle.number.specs.IntegerStarts.{integer_byte}

-- "A refused reading gives its kind .."
abbrev pub refused : ℕ → Reading
refused k = record { kind = k; value = pos 0; byte = 0 }

-- .. and, for wrong form, the byte that makes the form impossible, counted from 1
abbrev pub wrong_form : ℕ → Reading
wrong_form k = record { kind = 6; value = pos 0; byte = k }

abbrev pub read : ℤ → Reading
read z = record { kind = 0; value = z; byte = 0 }

-- "Read alone": a field has a byte at least and a greatest length, 6 for an integer and 24 for a real; another length is kind 1
abbrev pub of_length : ℕ → List ℕ → Reading → Reading
of_length most s r = cond (leb 1 (length s) and leb (length s) most) r (refused 1)

-- the field past its blanks and its sign
abbrev pub unsigned_part : List ℕ → List ℕ
unsigned_part s = past_one is_sign (past_all is_blank s)

-- "An integer field is ..": blanks, a sign or none, and digits, of which the last ends the field
abbrev pub integer_form : List ℕ → Bool
integer_form s = not (is_empty (digits (unsigned_part s))) and is_empty (past_all is_digit (unsigned_part s))

-- a field says minus where that stands behind its blanks, also before zero
abbrev pub says_minus : List ℕ → Bool
says_minus s = starts is_minus (past_all is_blank s)

abbrev pub integer_value : List ℕ → ℤ
integer_value s = signed (says_minus s) (number 0 (digits (unsigned_part s)))

unfoldable pub integer : List ℕ → Reading
integer s = of_length 6 s (cond (integer_form s) (read (integer_value s)) (wrong_form (integer_byte s)))
