-- Document 01, "Record C": ten integers of six bytes, then blanks.
use Rattle.std.specs.Prelude.{List, [], ◌∷◌, ◌++◌, ℕ, ◌+◌, Bool, true, false, cond, not, ℤ, pos, negsuc, eqb, length}
use Rattle.laws.specs.Sign.{is_zero, ◌and◌}
use Rattle.number.specs.Integer.{integer, refused}
use Rattle.number.specs.declared.Reading.{Reading}
use Rattle.field.specs.Field.{rest_fault, stretch, limits, ranged, Judged, at, whole_at, fault, first_of}
use Rattle.field.specs.declared.Fault.{Fault}

-- "Codes 0 or 1 (9)"
abbrev pub code_field : ℕ → List ℕ → Judged
code_field byte block = at byte (ranged (limits 0 1 1 9) (integer (stretch byte 6 block)))

abbrev pub is_negative : ℤ → Bool
is_negative (pos n) = false
is_negative (negsuc n) = true

-- "the rest not negative (7), then zero under code 0 (9)"
abbrev pub error_reading : ℕ → Reading → Reading
error_reading code r =
    cond (eqb r.kind 0)
    (cond (is_negative r.value) (refused 7) (cond (eqb code 0 and not (is_zero r.value)) (refused 9) r))
    r

abbrev pub error_field : ℕ → ℕ → List ℕ → Judged
error_field code byte block = at byte (error_reading code (integer (stretch byte 6 block)))

-- "code, three errors, count": five fields from a byte
abbrev pub half_fields : ℕ → List ℕ → List Judged
half_fields byte block =
    code_field byte block
    ∷ error_field (whole_at byte block) (byte + 6) block
    ∷ error_field (whole_at byte block) (byte + 12) block
    ∷ error_field (whole_at byte block) (byte + 18) block
    ∷ error_field (whole_at byte block) (byte + 24) block
    ∷ []

-- ".. twice over", ".. then blanks" (5)
abbrev pub fields_c : List ℕ → List Judged
fields_c block = half_fields 1 block ++ half_fields 31 block

-- the first fault of a record C; a block of another length is 1 at 0
unfoldable pub record_c : List ℕ → Fault
record_c block =
    cond (eqb (length block) 1024)
    (cond (eqb (first_of (fields_c block)).kind 0) (rest_fault 61 block) (first_of (fields_c block)))
    (fault 1 0)
