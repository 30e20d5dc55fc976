-- A number with a sign, its test for zero, and the two tests joined that a rule names together. Nothing here knows the format.
use Rattle.std.specs.Prelude.{Bool, true, false, cond, ℕ, ℤ, pos, neg_ℤ, negsuc, eqb}
use Rattle.std.specs.Int.Signed.{lt_z}

-- n, or minus n; minus zero is zero
abbrev pub signed : Bool → ℕ → ℤ
signed true n = neg_ℤ (pos n)
signed false n = pos n

abbrev pub is_zero : ℤ → Bool
is_zero (pos n) = eqb n 0
is_zero (negsuc n) = false

infixr 30 ◌and◌
abbrev pub ◌and◌ : Bool → Bool → Bool
true and b = b
false and b = false

abbrev pub implies : Bool → Bool → Bool
implies a b = cond a b true

abbrev pub same_z : ℤ → ℤ → Bool
same_z (pos a) (pos b) = eqb a b
same_z (pos a) (negsuc b) = false
same_z (negsuc a) (pos b) = false
same_z (negsuc a) (negsuc b) = eqb a b

-- the number itself, and 0 for one below it
abbrev pub not_negative : ℤ → ℕ
not_negative (pos n) = n
not_negative (negsuc n) = 0

abbrev pub lesser : ℤ → ℤ → ℤ
lesser a b = cond (lt_z b a) b a

abbrev pub greater : ℤ → ℤ → ℤ
greater a b = cond (lt_z a b) b a
