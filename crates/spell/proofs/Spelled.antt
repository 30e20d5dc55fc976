-- Blanks and signs read again: blanks are blank, and a number is its sign and its size.
use mathlib.Core.Bool.{true}
use mathlib.Core.Path.{◌≡◌, refl}
use Prim.Native.Nat.{ℕ}
use lib.ListN.{replicate}
use lib.IntN.{ℤ, pos, negsuc, nat_abs}
use lib.Signed.{lt_z}
use Rattle.laws.specs.Texts.{every}
use Rattle.laws.specs.Sign.{signed}
use Rattle.laws.proofs.Tests.{by-test}
use Rattle.numerals.specs.Numerals.{minus}
use Rattle.number.specs.Bytes.{is_blank}
use Rattle.number.specs.Grammar.{Sign}
use Rattle.number.proofs.Scale.{every-repeated}
use Rattle.number.specs.Grammar.Sign.{unsigned, minus as negative}
use Rattle.spell.proofs.Texts.{not-below}

pub blanks-blank : (k : ℕ) → every is_blank (replicate k 32) ≡ true
blanks-blank = every-repeated is_blank 32 refl

-- a minus says that the number is below zero, and the number is its sign and its size
pub minus-sign : (z : ℤ) → Sign (minus z) (lt_z z (pos 0))
minus-sign z = by-test (lt_z z (pos 0)) (λ e. rw e negative) (λ e. rw e unsigned)

pub sign-size : (z : ℤ) → z ≡ signed (lt_z z (pos 0)) (nat_abs z)
sign-size (pos n) = rw (not-below n)
sign-size (negsuc n) = refl
