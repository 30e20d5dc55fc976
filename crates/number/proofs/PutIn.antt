-- 02, request 4, in its own words: a real field without a point means what it means with zeros filled in front and a point before its last d
-- digits, at whatever length it has then; and the length says nothing where a point stands. Carried by this: zeros in front are no other number.
use mathlib.Core.Bool.{Bool, true}
use mathlib.Core.List.{List, [], ◌∷◌, ◌++◌, append-nil, append_assoc}
use mathlib.Core.Logic.{◌↔◌}
use mathlib.Core.Path.{◌≡◌, ◌∙◌, refl, sym, ap}
use Prim.Native.Nat.{ℕ, zero, suc, ◌-◌, ◌≤◌}
use native.Mathlib.Omega.{arith}
use lib.IntN.{ℤ}
use lib.ListN.{length, replicate, take, drop, take-append-drop, length-append, length-replicate, length-drop}
use Rattle.laws.specs.Sign.{◌and◌}
use Rattle.laws.specs.Texts.{every}
use Rattle.laws.proofs.Tests.{and_first, and_second, and_both, clash}
use Rattle.number.specs.Bytes.{is_digit, is_empty, number}
use Rattle.number.specs.Grammar.{RealText, RealMeans, Fraction, filled, with_point}
use Rattle.number.specs.Grammar.Fraction.{no_point, pointed}
use Rattle.number.specs.Real.{real_value, has_point, assumed}
use Rattle.number.proofs.Scale.{every_append, every-repeated}
use Rattle.number.proofs.Reals.{assumed-between}
use Rattle.number.proofs.Grammar.{same-means}

-- the length of a field says nothing where a point stands
pub point-stands : (minus : Bool) (bytes other : ℕ) (u : List ℕ) → has_point u ≡ true → real_value minus bytes u ≡ real_value minus other u
point-stands minus bytes other u e = rw e

zeros-number : (k : ℕ) (xs : List ℕ) → number 0 (replicate k 48 ++ xs) ≡ number 0 xs
zeros-number zero xs = refl
zeros-number (suc k) xs = zeros-number k xs

module _ (d : ℕ) (xs : List ℕ) where
  abbrev whole : List ℕ
  whole = take (length (filled d xs) - d) (filled d xs)

  abbrev fraction : List ℕ
  fraction = drop (length (filled d xs) - d) (filled d xs)

  parted : whole ++ fraction ≡ filled d xs
  parted = take-append-drop (length (filled d xs) - d) (filled d xs)

  enough : d ≤ length (filled d xs)
  enough = omega (arith, length-append (replicate (d - length xs) 48) xs, length-replicate {A = ℕ} (d - length xs) 48)

  fraction-length : length fraction ≡ d
  fraction-length = omega (arith, length-drop (length (filled d xs) - d) (filled d xs), enough)

  parts-digits : every is_digit xs ≡ true → (every is_digit whole and every is_digit fraction) ≡ true
  parts-digits h =
      sym (every_append is_digit whole fraction)
      ∙ ap (every is_digit) parted
      ∙ every_append is_digit (replicate (d - length xs) 48) xs
      ∙ and_both (every-repeated is_digit 48 refl (d - length xs)) h

  parts-number : number 0 (whole ++ fraction) ≡ number 0 xs
  parts-number = ap (number 0) parted ∙ zeros-number (d - length xs) xs

no_fraction : {after fraction : List ℕ} → Fraction after fraction → after ≡ [] → fraction ≡ []
no_fraction no_point e = refl
no_fraction (pointed xs h) e = clash (sym (ap is_empty e))

-- the field with its point put in: the same sign, mantissa, digits behind the point and exponent, so the same value, 7 and 8
pub point-put-in : {s : List ℕ} {n : Bool} {m p : ℕ} {l : Bool} {e : ℕ} (t : RealText s n m p l e) → t.after ≡ []
    → RealText (with_point t) n m p l e
point-put-in {s} t none =
    let d = assumed (length s) in
    let xs = t.digits in
    let all = parts-digits d xs t.digit in
    let said : number 0 xs ≡ number 0 (xs ++ t.fraction) =
    ap (number 0) (sym (ap (λ f. xs ++ f) (no_fraction t.fractions none) ∙ append-nil xs)) in
    record {
      blanks = t.blanks;
      sign = t.sign;
      digits = whole d xs;
      after = 46 ∷ fraction d xs;
      fraction = fraction d xs;
      exponent = t.exponent;
      rest = t.rest;
      text = ap (λ r. t.blanks ++ (t.sign ++ r)) (append_assoc (whole d xs) (46 ∷ fraction d xs) (t.exponent ++ t.rest));
      blank = t.blank;
      signs = t.signs;
      digit = and_first (every is_digit (whole d xs)) (every is_digit (fraction d xs)) all;
      fractions = pointed (fraction d xs) (and_second (every is_digit (whole d xs)) (every is_digit (fraction d xs)) all);
      some = omega (arith, length-append (whole d xs) (fraction d xs), fraction-length d xs, (assumed-between (length s)).0);
      spells = parts-number d xs ∙ said ∙ t.spells;
      decimals = fraction-length d xs ∙ (rw none at t.decimals);
      exponents = t.exponents;
      ends = t.ends;
    }

pub put-in-means : {s : List ℕ} {n : Bool} {m p : ℕ} {l : Bool} {e : ℕ} (t : RealText s n m p l e) → t.after ≡ [] → (z : ℤ)
    → RealMeans s z ↔ RealMeans (with_point t) z
put-in-means t none z = (same-means t (point-put-in t none), same-means (point-put-in t none) t)
