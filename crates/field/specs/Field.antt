-- Document 01: a field of a block, its limits, and the one place where a reading at a byte becomes a fault.
use Rattle.std.specs.Prelude.{Bool, not, false, cond, ℕ, ◌+◌, ◌-◌, ◌%◌, leb, eqb, List, [], ◌∷◌, take, drop, ℤ, pos, negsuc}
use Rattle.laws.specs.Sign.{◌and◌, not_negative}
use Rattle.laws.specs.Family.{is_canadian}
use Rattle.laws.specs.Texts.{every}
use Rattle.number.specs.Integer.{integer, refused}
use Rattle.number.specs.Real.{real}
use Rattle.number.specs.declared.Reading.{Reading}
use Rattle.number.specs.Bytes.{is_blank}
use Rattle.field.specs.declared.Limits.{Limits}
use Rattle.field.specs.declared.Fault.{Fault}

-- "bytes 32-126, no lower case"
abbrev pub is_word : ℕ → Bool
is_word c = leb 32 c and leb c 126 and not (leb 97 c and leb c 122)

-- 02, request 2: text that "may have lower case"
abbrev pub is_text : ℕ → Bool
is_text c = leb 32 c and leb c 126

-- the bytes from `first`, counted from 1
abbrev pub stretch : ℕ → ℕ → List ℕ → List ℕ
stretch first width block = take width (drop (first - 1) block)

abbrev pub whole_at : ℕ → List ℕ → ℕ
whole_at first block = not_negative (integer (stretch first 6 block)).value

abbrev pub real_at : ℕ → List ℕ → ℤ
real_at first block = (real (stretch first 24 block)).value

abbrev pub limits : ℕ → ℕ → ℕ → ℕ → Limits
limits least greatest step kind = record { least = least; greatest = greatest; step = step; kind = kind }

-- the posts m of a profile: 1 to 2,048; 02, request 2: 1,201 and no other in a Canadian sheet
abbrev pub posts_limits : ℕ → Limits
posts_limits family = cond (is_canadian family) (limits 1201 1201 1 7) (limits 1 2048 1 7)

abbrev pub in_range : Limits → ℕ → Bool
in_range l v = leb l.least v and leb v l.greatest and eqb (v % l.step) 0

abbrev pub in_limits : Limits → ℤ → Bool
in_limits l (pos v) = in_range l v
in_limits l (negsuc v) = false

-- inside one field the kinds of its reading come before its own rule
abbrev pub ranged : Limits → Reading → Reading
ranged l r = cond (eqb r.kind 0) (cond (in_limits l r.value) r (refused l.kind)) r

-- "first fault by byte, a field, or a whole text .. stretch, standing at its first byte"; kind 0 where there is none
abbrev pub fault : ℕ → ℕ → Fault
fault kind byte = record { kind = kind; byte = byte }

-- .. but for wrong form, 02, request 6: at the very byte of the field, its first byte + k - 1. A reading of another kind has k = 0.
abbrev pub place_in : ℕ → Reading → ℕ
place_in first r = first + (r.byte - 1)

-- the fault of a field, by its first byte, or the first of those behind it
abbrev pub fault_or : Reading → ℕ → Fault → Fault
fault_or r byte rest = cond (eqb r.kind 0) rest (fault r.kind (place_in byte r))

-- one field: its first byte and its judged reading
pub record Judged : Type 0 where
  pub byte : ℕ
  pub reading : Reading

abbrev pub at : ℕ → Reading → Judged
at byte reading = record { byte = byte; reading = reading }

-- the first fault by byte; kind 0 where there is none
abbrev pub first_of : List Judged → Fault
first_of [] = fault 0 0
first_of (j ∷ js) = fault_or j.reading j.byte (first_of js)

-- "All that remains of a block is blank (5)."
abbrev pub rest_fault : ℕ → List ℕ → Fault
rest_fault byte block = cond (every is_blank (drop (byte - 1) block)) (fault 0 0) (fault 5 byte)
