-- Document 01, "Record B (one profile)": the fields at the head of a profile's first block.
use Rattle.std.specs.Prelude.{Bool, cond, ◌*◌, ◌%◌, ◌^◌, ℕ, ◌/◌, ℤ, nat_abs, pos, negsuc, neg_ℤ, leb, eqb, List, [], ◌∷◌, length, Result, Ok, Err}
use Rattle.laws.specs.Sign.{◌and◌}
use Rattle.number.specs.declared.Reading.{Reading}
use Rattle.number.specs.Integer.{refused, integer}
use Rattle.number.specs.Real.{real}
use Rattle.field.specs.Field.{stretch, limits, posts_limits, ranged, at, Judged, whole_at, real_at, fault, first_of}
use Rattle.field.specs.declared.Fault.{Fault}
use Rattle.profile.specs.declared.record_b.Head.{Head}
use Rattle.field.specs.declared.Broken.{Broken}
use Rattle.kinds.specs.Kinds.{number_of}

-- "datum, whole hundredths, magnitude at most 10,000 (7)": hundredths are 10 ^ 7 billionths
abbrev pub is_datum : ℤ → Bool
is_datum z = eqb (nat_abs z % 10 ^ 7) 0 and leb (nat_abs z) (10000 * 10 ^ 9)

abbrev pub datum_field : Reading → Reading
datum_field r = cond (eqb r.kind 0) (cond (is_datum r.value) r (refused 7)) r

-- the nine fields, in their order, by the sheet's family; the profile's number is counted from 1
abbrev pub head_fields : ℕ → ℕ → List ℕ → List Judged
head_fields family number block =
    at 1 (ranged (limits 1 1 1 9) (integer (stretch 1 6 block)))
    ∷ at 7 (ranged (limits number number 1 9) (integer (stretch 7 6 block)))
    ∷ at 13 (ranged (posts_limits family) (integer (stretch 13 6 block)))
    ∷ at 19 (ranged (limits 1 1 1 9) (integer (stretch 19 6 block)))
    ∷ at 25 (real (stretch 25 24 block))
    ∷ at 49 (real (stretch 49 24 block))
    ∷ at 73 (datum_field (real (stretch 73 24 block)))
    ∷ at 97 (real (stretch 97 24 block))
    ∷ at 121 (real (stretch 121 24 block))
    ∷ []

-- billionths that are whole hundredths, as hundredths
abbrev pub hundredths : ℤ → ℤ
hundredths (pos n) = pos (n / 10 ^ 7)
hundredths (negsuc n) = neg_ℤ (pos (ℕ.suc n / 10 ^ 7))

-- what a head without fault says: posts, place of the southern post, datum in hundredths, stated extremes in billionths
abbrev pub head_of : List ℕ → Head
head_of block =
    record {
      posts = whole_at 13 block;
      x = real_at 25 block;
      y = real_at 49 block;
      datum = hundredths (real_at 73 block);
      least = real_at 97 block;
      greatest = real_at 121 block;
    }

-- a block of another length is 1 at 0
abbrev pub head_fault : ℕ → ℕ → List ℕ → Fault
head_fault family number block = cond (eqb (length block) 1024) (first_of (head_fields family number block)) (fault 1 0)

-- the cases of the answer, with document 01's kind and byte
pub data Headed : Type 0 where
  Profile : Head → Headed
  Refused : ℕ → ℕ → Headed

abbrev pub headed_by : Fault → Head → Headed
headed_by f h = cond (eqb f.kind 0) (Headed.Profile h) (Headed.Refused f.kind f.byte)

-- and as the code answers it
abbrev pub headed_told : Result Head Broken → Headed
headed_told (Ok h) = Headed.Profile h
headed_told (Err b) = Headed.Refused (number_of b.kind) b.byte

unfoldable pub record_b : ℕ → ℕ → List ℕ → Headed
record_b family number block = headed_by (head_fault family number block) (head_of block)
