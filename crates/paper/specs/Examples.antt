-- Document 01, "Examples on the edge": the examples marked *, one table. A row says what is asked and what the paper tells.
use Rattle.std.specs.Prelude.{ℕ, ◌/◌, ◌^◌, ◌*◌, ℤ, pos, ◌*ℤ◌, negsuc, neg_ℤ, ◌≡◌, List, [], ◌∷◌}
use Prim.Native.String.{String}
use Rattle.laws.specs.Texts.{bytes}
use Rattle.number.specs.declared.Reading.{Reading}
use Rattle.number.specs.Integer.{integer, read, refused, wrong_form}
use Rattle.number.specs.Real.{real, assumed}
use Rattle.number.specs.Grammar.{point_before_last}
use Rattle.lattice.specs.Lattice.{first_multiple, last_multiple}
use Rattle.ground.specs.Posts.{blocks_for, height}
use Rattle.meaning.specs.PaperSheet.{field}

pub data Example : Type 0 where
  integer_field : String → Reading → Example
  real_field : String → Reading → Example
  real_in : ℕ → String → Reading → Example
  point_goes : ℕ → String → String → Example
  lattice_starts : ℤ → ℕ → ℤ → Example
  lattice_ends : ℤ → ℕ → ℤ → Example
  posts_take : ℕ → ℕ → Example
  post_fills : ℤ → ℕ → ℤ → ℤ → Example

abbrev pub Holds : Example → Type 0
Holds (integer_field text told) = integer (bytes text) ≡ told
Holds (real_field text told) = real (bytes text) ≡ told
Holds (real_in width text told) = real (field width text) ≡ told
Holds (point_goes width digits told) = point_before_last (assumed width) (bytes digits) ≡ bytes told
Holds (lattice_starts corner spacing told) = first_multiple corner spacing *ℤ pos spacing ≡ told
Holds (lattice_ends corner spacing told) = last_multiple corner spacing *ℤ pos spacing ≡ told
Holds (posts_take posts told) = blocks_for posts ≡ told
Holds (post_fills post spacing datum told) = height (spacing / 10 ^ 7) datum post ≡ told

abbrev pub AllHold : List Example → Type 0
AllHold [] = Unit {0}
AllHold (e ∷ es) = Holds e × AllHold es

-- thousandths, as billionths
abbrev pub thousandths : ℕ → ℤ
thousandths n = pos (n * 10 ^ 6)

-- whole numbers, as billionths
abbrev pub units : ℕ → ℕ
units n = n * 10 ^ 9

abbrev pub wholes : ℕ → Reading
wholes n = read (pos (units n))

unfoldable pub table : List Example
table =
    real_field "0.428400000000000D+06" (wholes 428400)
    ∷ real_field "1.0D-09" (read (pos 1))
    ∷ real_field ".5D-09" (refused 8)
    ∷ real_field "1.0D+09" (refused 7)
    ∷ real_field "0.0D+99" (wholes 0)
    ∷ real_field "                        " (wrong_form 24)
    -- 02, request 4: the field that old tapes carry, and its neighbours
    ∷ real_in 12 "300000E+01" (wholes 3)
    ∷ real_field "300000E+01  " (wholes 3)
    ∷ real_field "300000E+01" (read (pos 3))
    ∷ real_in 11 "300000E+01" (read (pos 3))
    ∷ real_in 24 "300000E+01" (read (pos 3))
    ∷ real_in 12 "30" (read (pos 30000))
    ∷ real_in 12 "300000.E+01" (wholes 3000000)
    ∷ real_in 7 "300000" (wholes 30)
    ∷ real_in 7 "30" (read (pos (3 * 10 ^ 6)))
    ∷ real_field "600000 " (wholes 60)
    ∷ real_field "3000000" (wholes 300)
    ∷ real_in 24 "1000000000" (read (pos 1000))
    ∷ real_in 24 "600" (refused 8)
    ∷ real_field "5" (refused 8)
    ∷ real_in 24 "1D24" (refused 7)
    ∷ real_in 24 "1D23" (wholes (10 ^ 8))
    ∷ real_in 24 "1D6" (read (pos 1))
    ∷ real_in 24 "1D5" (refused 8)
    ∷ real_field "9999999999999999999999D3" (refused 7)
    ∷ real_field "9999999999999999999999D2" (refused 8)
    ∷ real_in 24 "-0D-99" (wholes 0)
    ∷ real_field "0" (wholes 0)
    ∷ point_goes 12 "300000" ".300000"
    ∷ point_goes 12 "30" ".000030"
    ∷ point_goes 7 "600000" "60.0000"
    ∷ point_goes 10 "300000" ".000000000300000"
    ∷ integer_field "      " (wrong_form 6)
    ∷ integer_field "    -7" (read (negsuc 6))
    -- 02, request 6: an integer stands right, behind a real there may be blanks; a field that ends too soon has its last byte
    ∷ integer_field "1     " (wrong_form 2)
    ∷ integer_field "    1 " (wrong_form 6)
    ∷ integer_field "99999x" (wrong_form 6)
    ∷ integer_field "     +" (wrong_form 6)
    ∷ real_field "1 .0" (wrong_form 3)
    ∷ real_field "1.0 D+01" (wrong_form 5)
    ∷ real_field "1.0D  " (wrong_form 5)
    ∷ real_field "1.0D" (wrong_form 4)
    ∷ real_field "1.0D+012" (wrong_form 8)
    ∷ real_in 24 "." (wrong_form 24)
    ∷ lattice_starts (thousandths 549498713) (units 30) (pos (units 549510))
    ∷ lattice_starts (thousandths 3011225379) (units 30) (pos (units 3011250))
    ∷ lattice_starts (neg_ℤ (pos (units 428399))) (units 3) (neg_ℤ (pos (units 428397)))
    ∷ lattice_ends (neg_ℤ (thousandths 424800500)) (units 3) (neg_ℤ (pos (units 424803)))
    ∷ posts_take 146 1
    ∷ posts_take 147 2
    ∷ posts_take 316 2
    ∷ posts_take 317 3
    ∷ posts_take 1201 8
    ∷ post_fills (pos 125) (10 ^ 8) (pos 250) (pos 1500)
    ∷ []
