-- The parts of a field, found and read back: head, digits, fraction, exponent. Carried by this: a run ends at the first other byte.
use mathlib.Core.Bool.{true, Bool, cond, false, not}
use mathlib.Core.Path.{◌≡◌, refl, sym, ap, ◌∙◌}
use Prim.Native.Nat.{ℕ, ◌≤◌, ◌<◌}
use borrow.Author.Tests.{leb-true, ne_eqb, le-leb, eqb-true}
use lib.Dec.{leb, eqb}
use mathlib.Core.List.{List, [], ◌∷◌, ◌++◌, append_assoc}
use native.Mathlib.Omega.{arith}
use lib.ListN.{length}
use Rattle.laws.specs.Sign.{◌and◌}
use Rattle.laws.specs.Texts.{every}
use Rattle.laws.proofs.Tests.{and_first, and_second, clash, and_both, by-test}
use Rattle.number.specs.Bytes.{is_empty, starts, past_one, past_all, is_digit, digits, is_sign, is_blank, is_minus, is_point, is_letter}
use Rattle.number.specs.Grammar.Sign.{minus, unsigned, plus}
use Rattle.number.specs.Grammar.{Sign, Fraction, Exponent}
use Rattle.number.specs.Integer.{unsigned_part}
use Rattle.number.specs.Grammar.Fraction.{no_point, pointed}
use Rattle.number.specs.Grammar.Exponent.{absent, lettered}
use Rattle.number.specs.Real.{power_form, past_power, power_minus, power_size}
use Rattle.number.proofs.Places.{digit-range}

pub between : (low n high : ℕ) → (leb low n and leb n high) ≡ true → (low ≤ n) × (n ≤ high)
between low n high h =
    (leb-true low n (and_first (leb low n) (leb n high) h), leb-true n high (and_second (leb low n) (leb n high) h))

-- the bytes that `past_all` passes
abbrev run : (ℕ → Bool) → List ℕ → List ℕ
run is [] = []
run is (c ∷ s) = cond (is c) (c ∷ run is s) []

module _ (is : ℕ → Bool) where
  run_past : (s : List ℕ) → s ≡ run is s ++ past_all is s
  run_past [] = refl
  run_past (c ∷ s) = let h = run_past s in by-test (is c) (λ e. rw e (ap (λ t. c ∷ t) h)) (λ e. rw e)

  run-every : (s : List ℕ) → every is (run is s) ≡ true
  run-every [] = refl
  run-every (c ∷ s) = let h = run-every s in by-test (is c) (λ e. rw e (and_both e h)) (λ e. rw e)

  pub past-stops : (s : List ℕ) → starts is (past_all is s) ≡ false
  past-stops [] = refl
  past-stops (c ∷ s) = let h = past-stops s in by-test (is c) (λ e. rw e h) (λ e. rw e e)

  pub past-every : (s : List ℕ) → is_empty (past_all is s) ≡ true → every is s ≡ true
  past-every [] e = refl
  past-every (c ∷ s) e =
      let h = past-every s in
      by-test (is c) (λ t. and_both t (h (rw t at e))) (λ t. clash (sym (rw t at e)))

  run_of : (xs t : List ℕ) → every is xs ≡ true → starts is t ≡ false → run is (xs ++ t) ≡ xs
  run_of [] [] h e = refl
  run_of [] (c ∷ t) h e = rw e
  run_of (c ∷ xs) t h e = rw (and_first (is c) (every is xs) h, run_of xs t (and_second (is c) (every is xs) h) e)

  pub past_of : (xs t : List ℕ) → every is xs ≡ true → starts is t ≡ false → past_all is (xs ++ t) ≡ t
  past_of [] [] h e = refl
  past_of [] (c ∷ t) h e = rw e
  past_of (c ∷ xs) t h e = rw (and_first (is c) (every is xs) h, past_of xs t (and_second (is c) (every is xs) h) e)

  one_of : (t : List ℕ) → starts is t ≡ false → past_one is t ≡ t
  one_of [] e = refl
  one_of (c ∷ t) e = rw e

digits-run : (s : List ℕ) → digits s ≡ run is_digit s
digits-run [] = refl
digits-run (c ∷ s) = rw (digits-run s)

pub digits-past : (s : List ℕ) → s ≡ digits s ++ past_all is_digit s
digits-past s = rw (digits-run s) (run_past is_digit s)

pub digits-every : (s : List ℕ) → every is_digit (digits s) ≡ true
digits-every s = rw (digits-run s) (run-every is_digit s)

pub digits_of : (xs t : List ℕ) → every is_digit xs ≡ true → starts is_digit t ≡ false → digits (xs ++ t) ≡ xs
digits_of xs t h e = digits-run (xs ++ t) ∙ run_of is_digit xs t h e

-- the text begins with a digit or the point: these stand above blank and signs
abbrev pub Opens : List ℕ → Type 0
Opens t = starts (leb 46) t ≡ true

opens-other : (k : ℕ) (t : List ℕ) → k < 46 → Opens t → starts (λ c. eqb c k) t ≡ false
opens-other k [] l h = refl
opens-other k (c ∷ t) l h = ne_eqb c k (λ e. omega (arith, leb-true 46 c h))

opens-sign : (t : List ℕ) → Opens t → starts is_sign t ≡ false
opens-sign [] h = refl
opens-sign (c ∷ t) h = rw (is_sign, opens-other 43 (c ∷ t) (omega arith) h) (opens-other 45 (c ∷ t) (omega arith) h)

pub digits-open : (xs t : List ℕ) → every is_digit xs ≡ true → 1 ≤ length xs → Opens (xs ++ t)
digits-open [] t h l = absurd (omega arith)
digits-open (c ∷ xs) t h l = le-leb 46 c (omega (arith, digit-range c (and_first (is_digit c) (every is_digit xs) h)))

record SignRead (g : List ℕ) (n : Bool) (t : List ℕ) : Type 0 where
  blank : starts is_blank (g ++ t) ≡ false
  past : past_one is_sign (g ++ t) ≡ t
  minus : starts is_minus (g ++ t) ≡ n

sign_read : {g : List ℕ} {n : Bool} → Sign g n → (t : List ℕ) → Opens t → SignRead g n t
sign_read unsigned t h =
    let p = one_of is_sign t (opens-sign t h) in
    record { blank = opens-other 32 t (omega arith) h; past = p; minus = opens-other 45 t (omega arith) h }
sign_read plus t h = record { blank = refl; past = refl; minus = refl }
sign_read minus t h = record { blank = refl; past = refl; minus = refl }

record SignFound (t : List ℕ) : Type 0 where
  sign : List ℕ
  text : t ≡ sign ++ past_one is_sign t
  is : Sign sign (starts is_minus t)

sign-found : (t : List ℕ) → SignFound t
sign-found [] = record { sign = []; text = refl; is = unsigned }
sign-found (c ∷ t) =
    by-test (eqb c 43) (λ e. rw (eqb-true c 43 e) (record { sign = 43 ∷ []; text = refl; is = plus })) (λ e. other e)
  where
    other : eqb c 43 ≡ false → SignFound (c ∷ t)
    other e =
        by-test (eqb c 45) (λ f. rw (eqb-true c 45 f) (record { sign = 45 ∷ []; text = refl; is = minus }))
        (λ f. record { sign = []; text = rw (e, f); is = rw f unsigned })

-- blanks and a sign before a text
pub record Headed (s : List ℕ) (negative : Bool) (t : List ℕ) : Type 0 where
  pub blanks : List ℕ
  pub sign : List ℕ
  pub text : s ≡ blanks ++ (sign ++ t)
  pub blank : every is_blank blanks ≡ true
  pub signs : Sign sign negative

pub head-found : (s : List ℕ) → Headed s (starts is_minus (past_all is_blank s)) (unsigned_part s)
head-found s =
    let f = sign-found (past_all is_blank s) in
    let t = run_past is_blank s ∙ ap (λ t. run is_blank s ++ t) f.text in
    record { blanks = run is_blank s; sign = f.sign; text = t; blank = run-every is_blank s; signs = f.is }

module _ {s t : List ℕ} {n : Bool} (h : Headed s n t) (o : Opens t) where
  blanks-past : past_all is_blank s ≡ h.sign ++ t
  blanks-past =
      ap (past_all is_blank) h.text
      ∙ past_of is_blank h.blanks (h.sign ++ t) h.blank (sign_read h.signs t o).blank

  pub head-past : unsigned_part s ≡ t
  head-past = ap (past_one is_sign) blanks-past ∙ (sign_read h.signs t o).past

  pub head-minus : starts is_minus (past_all is_blank s) ≡ n
  head-minus = ap (starts is_minus) blanks-past ∙ (sign_read h.signs t o).minus

-- what stands after the whole digits, before a text y
pub record FractionRead (after fraction y : List ℕ) : Type 0 where
  pub stops : starts is_digit (after ++ y) ≡ false
  pub stands : is_empty after ≡ not (starts is_point (after ++ y))
  pub digits : digits (past_one is_point (after ++ y)) ≡ fraction
  pub past : past_all is_digit (past_one is_point (after ++ y)) ≡ y

pub fraction-read : {after fraction : List ℕ} → Fraction after fraction → (y : List ℕ) → starts is_point y ≡ false
    → starts is_digit y ≡ false → FractionRead after fraction y
fraction-read no_point y p d =
    let e = one_of is_point y p in
    record { stops = d; stands = rw p; digits = rw e (digits_of [] y refl d); past = rw e (past_of is_digit [] y refl d) }
fraction-read (pointed xs h) y p d =
    record { stops = refl; stands = refl; digits = digits_of xs y h d; past = past_of is_digit xs y h d }

pub mantissa-opens : (xs : List ℕ) {after f : List ℕ} → Fraction after f → (y : List ℕ) → every is_digit xs ≡ true
    → 1 ≤ length (xs ++ f) → Opens (xs ++ (after ++ y))
mantissa-opens [] no_point y h l = absurd (omega arith)
mantissa-opens [] (pointed ys d) y h l = refl
mantissa-opens (c ∷ xs) {after} r y h l = digits-open (c ∷ xs) (after ++ y) h (omega arith)

pub record FractionFound (t : List ℕ) : Type 0 where
  pub after : List ℕ
  pub text : t ≡ after ++ past_all is_digit (past_one is_point t)
  pub is : Fraction after (digits (past_one is_point t))
  pub stands : is_empty after ≡ not (starts is_point t)

pub fraction-found : (t : List ℕ) → starts is_digit t ≡ false → FractionFound t
fraction-found [] d = record { after = []; text = refl; is = no_point; stands = refl }
fraction-found (c ∷ t) d =
    let is = pointed (digits t) (digits-every t) in
    by-test (eqb c 46)
    (λ e. rw (eqb-true c 46 e) (record { after = 46 ∷ digits t; text = ap (λ r. 46 ∷ r) (digits-past t); is = is; stands = refl }))
    (λ e. record { after = []; text = rw (is_point, e, d); is = rw (is_point, e, d) no_point; stands = rw (is_point, e) })

blanks-start : (is : ℕ → Bool) (xs : List ℕ) → is 32 ≡ false → every is_blank xs ≡ true → starts is xs ≡ false
blanks-start is [] h e = refl
blanks-start is (c ∷ xs) h e = rw (eqb-true c 32 (and_first (is_blank c) (every is_blank xs) e)) h

-- an exponent, or none, and blanks begin with a blank or a letter
pub exponent-starts : (is : ℕ → Bool) → is 32 ≡ false → is 68 ≡ false → is 69 ≡ false → {x : List ℕ} {n : Bool} {e : ℕ}
    → Exponent x n e → (r : List ℕ) → every is_blank r ≡ true → starts is (x ++ r) ≡ false
exponent-starts is b d e absent r h = blanks-start is r b h
exponent-starts is b d e (lettered c g xs l sg dg m k) r h =
    by-test (eqb c 68) (λ t. rw (eqb-true c 68 t) d) (λ t. rw (eqb-true c 69 (rw (is_letter, t) at l)) e)

pub record PowerRead (x : List ℕ) (n : Bool) (e : ℕ) (r : List ℕ) : Type 0 where
  pub form : power_form (x ++ r) ≡ true
  pub past : past_power (x ++ r) ≡ r
  pub minus : power_minus (x ++ r) ≡ n
  pub size : power_size (x ++ r) ≡ e

pub power-read : {x : List ℕ} {n : Bool} {e : ℕ} → Exponent x n e → (r : List ℕ) → every is_blank r ≡ true → PowerRead x n e r
power-read absent r h =
    let l : starts is_letter r ≡ false = blanks-start is_letter r refl h in
    record { form = rw l; past = rw l; minus = rw l; size = rw l }
power-read (lettered c g xs l sg d a b) r h =
    let s = sign_read sg (xs ++ r) (digits-open xs r d a) in
    let stop : starts is_digit r ≡ false = blanks-start is_digit r refl h in
    let y : past_one is_sign ((g ++ xs) ++ r) ≡ xs ++ r = rw append_assoc s.past in
    let p : digits (past_one is_sign ((g ++ xs) ++ r)) ≡ xs = rw y (digits_of xs r d stop) in
    let few = and_both (le-leb 1 (length xs) a) (le-leb (length xs) 2 b) in
    let past = past_of is_digit xs r d stop in
    record { form = rw (l, p) few; past = rw (l, y) past; minus = rw (l, append_assoc) s.minus; size = rw (l, p) }

pub record PowerFound (x : List ℕ) : Type 0 where
  pub exponent : List ℕ
  pub text : x ≡ exponent ++ past_power x
  pub is : Exponent exponent (power_minus x) (power_size x)

pub power-found : (x : List ℕ) → power_form x ≡ true → PowerFound x
power-found [] h = record { exponent = []; text = refl; is = absent }
power-found (c ∷ x) h = by-test (is_letter c) (λ e. some e) (λ e. record { exponent = []; text = rw e; is = rw e absent })
  where
    some : is_letter c ≡ true → PowerFound (c ∷ x)
    some e =
        let f = sign-found x in
        let y = past_one is_sign x in
        let k = between 1 (length (digits y)) 2 (rw e at h) in
        let t = f.text ∙ ap (λ t. f.sign ++ t) (digits-past y) ∙ sym (append_assoc f.sign (digits y) (past_all is_digit y)) in
        let is = lettered c f.sign (digits y) e f.is (digits-every y) k.0 k.1 in
        record { exponent = c ∷ (f.sign ++ digits y); text = rw e (ap (λ t. c ∷ t) t); is = rw e is }
