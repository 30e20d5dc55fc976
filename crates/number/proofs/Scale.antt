-- The value of a mantissa from its kept digits: `Leads` ties them to the number, and each answer of the code is the definition's.
use mathlib.Core.Path.{refl, ◌≡◌, ◌∙◌, sym, ap, subst}
use native.Mathlib.Omega.{arith}
use mathlib.Core.Bool.{Bool, true, cond, not, false}
use Prim.Native.Nat.{ℕ, zero, suc, ◌+◌, ◌*◌, ◌^◌, ◌≤◌, ◌<◌, ◌-◌, ◌/◌, ◌%◌}
use borrow.Author.Tests.{ne_eqb, ltb-true, ltb-false, le-leb, lt-leb, eqb-true, eqb-false, leb-true, leb-false}
use lib.Dec.{eqb, ltb, leb, lit<, lit≤}
use native.Mathlib.Nat.{mul_assoc, pow-suc, pow-zero, mul-le-mul_left, mul-mod_left, mul-div_cancel, lt_of_mul-lt-mul_right, add-mul, mul-le-mul_right, mul-lt-mul_of_pos_right, mul-one, div-add-mod', eq_of_mul-eq-mul_right, div-lt_iff_lt-mul, div-le_self, zero-mul, mod-eq_of_lt, lt_of_lt_of_le}
use native.Mathlib.Numerals.{add-one}
use mathlib.Core.List.{List, [], ◌∷◌, ◌++◌}
use native.Mathlib.Decide.{dec_le}
use lib.ListN.{replicate}
use lib.Arith.{digits_mod}
use lib.Pow.{pow-add}
use Rattle.laws.specs.Texts.{every}
use Rattle.laws.specs.Sign.{signed, ◌and◌}
use Rattle.laws.specs.Digits.{short}
use Rattle.laws.proofs.Tests.{and_first, and_second, clash, and-fails-first, and_both, by-test}
use Rattle.laws.proofs.Tens.{ten-pos, ten-up}
use Rattle.laws.proofs.Shorts.{FewDigits, few-short, short-few}
use Rattle.number.specs.Steps.{Leads, none, kept_one, kept_all, reading_of, up_of, down_of}
use Rattle.number.specs.declared.decimal.Kept.{Kept}
use Rattle.number.specs.Bytes.{is_digit, number}
use Rattle.number.specs.Integer.{read, refused}
use Rattle.number.specs.Real.{billionths}
use Rattle.std.specs.Prelude.{Result, Ok, Err}
use Rattle.kinds.specs.declared.Kind.{Kind}
use Rattle.kinds.specs.declared.Kind.TheVariants.{Range, Fine}
use Rattle.number.proofs.Places.{digit-range}

pub leads-none : Leads 0 none
leads-none =
    record { tail = 0; is = refl; below = omega arith; flag = refl; small = omega arith; full = λ h. absurd (omega arith) }

-- a tail is marked exactly where it is not zero
marked : (t d : ℕ) (more : Bool) → more ≡ not (eqb t 0) → cond (eqb d 0) more true ≡ not (eqb (t * 10 + d) 0)
marked zero zero more e = e
marked zero (suc d) more e = rw (ne_eqb (suc d) 0 (λ q. omega arith), ne_eqb (zero * 10 + suc d) 0 (λ q. omega arith))
marked (suc t) zero more e = e ∙ rw (ne_eqb (suc t) 0 (λ q. omega arith), ne_eqb (suc t * 10 + zero) 0 (λ q. omega arith))
marked (suc t) (suc d) more e = rw (ne_eqb (suc d) 0 (λ q. omega arith), ne_eqb (suc t * 10 + suc d) 0 (λ q. omega arith))

pub leads_one : (m : ℕ) (k : Kept) (d : ℕ) → d < 10 → Leads m k → Leads (m * 10 + d) (kept_one k d)
leads_one m k d h l = go (ltb k.head (10 ^ 14)) refl
  where
    room : (b : Bool) → ltb k.head (10 ^ 14) ≡ true → k.dropped ≡ 0
    room b e =
        let q : k.head < 10 ^ 14 = ltb-true k.head (10 ^ 14) e in
        elim k.dropped as (λ x. k.dropped ≡ x → k.dropped ≡ 0) [
          | zero ↦ λ y. y
          | suc n ↦ λ y. absurd (omega (arith, l.full (omega arith)))
        ] refl

    go : (b : Bool) → ltb k.head (10 ^ 14) ≡ b → Leads (m * 10 + d) (kept_one k d)
    go true e =
        let z : k.dropped ≡ 0 = room true e in
        let q : k.head < 10 ^ 14 = ltb-true k.head (10 ^ 14) e in
        let o : 10 ^ k.dropped ≡ 1 = ap (λ (x : ℕ). 10 ^ x) z in
        let t : l.tail ≡ 0 = omega (arith, l.below) in
        let i : m ≡ k.head * 1 + l.tail = l.is ∙ ap (λ (x : ℕ). k.head * x + l.tail) o in
        rw e
        record {
          tail = 0;
          is = rw (z, pow-zero 10) (omega arith);
          below = rw (z, pow-zero 10) (omega arith);
          flag = l.flag ∙ rw t;
          small = omega arith;
          full = λ p. absurd (omega arith);
        }
    go false e =
        let q : 10 ^ 14 ≤ k.head = ltb-false k.head (10 ^ 14) e in
        let s : 10 ^ (k.dropped + 1) ≡ 10 ^ k.dropped * 10 = rw (add-one k.dropped) (pow-suc 10 k.dropped) in
        let w : k.head * 10 ^ (k.dropped + 1) ≡ k.head * 10 ^ k.dropped * 10 =
        ap (λ (x : ℕ). k.head * x) s ∙ sym (mul_assoc k.head (10 ^ k.dropped) 10)
        in
        rw e
        record {
          tail = l.tail * 10 + d;
          is = omega (arith, l.is);
          below = omega (arith, l.below);
          flag = marked l.tail d k.more l.flag;
          small = l.small;
          full = λ p. q;
        }

pub leads-all : (m : ℕ) (k : Kept) (ds : List ℕ) → every is_digit ds ≡ true → Leads m k → Leads (number m ds) (kept_all k ds)
leads-all m k [] e l = l
leads-all m k (c ∷ ds) e l =
    let r = digit-range c (and_first (is_digit c) (every is_digit ds) e) in
    leads-all (m * 10 + (c - 48)) (kept_one k (c - 48)) ds (and_second (is_digit c) (every is_digit ds) e)
    (leads_one m k (c - 48) (omega (arith, r.0, r.1)) l)

-- digits that all fit are the number itself
pub leads-whole : (m : ℕ) (k : Kept) → m < 10 ^ 14 → Leads m k → k.head ≡ m
leads-whole m k h l = go k.dropped refl
  where
    go : (x : ℕ) → k.dropped ≡ x → k.head ≡ m
    go zero e =
        let o : 10 ^ k.dropped ≡ 1 = ap (λ (x : ℕ). 10 ^ x) e in
        let i : m ≡ k.head * 1 + l.tail = l.is ∙ ap (λ (x : ℕ). k.head * x + l.tail) o in
        omega (arith, l.below)
    go (suc x) e =
        let a : k.head * 1 ≤ k.head * 10 ^ k.dropped = mul-le-mul_left k.head (ten-pos k.dropped) in
        absurd (omega (arith, l.full (omega arith), l.is))

-- ---- the three answers of the definition
module _ (minus : Bool) (m u d : ℕ) where
  pub answer-large : 10 ^ 18 * 10 ^ d ≤ m * 10 ^ u → billionths minus m u d ≡ refused 7
  unfolding billionths
  answer-large h = simp (le-leb (10 ^ 18 * 10 ^ d) (m * 10 ^ u) h)

  module _ (h : m * 10 ^ u < 10 ^ 18 * 10 ^ d) where
    pub answer-fine : (eqb (m * 10 ^ u % 10 ^ d) 0 and short 18 15 (m * 10 ^ u / 10 ^ d)) ≡ false → billionths minus m u d ≡ refused 8
    unfolding billionths
    answer-fine e = simp (lt-leb (10 ^ 18 * 10 ^ d) (m * 10 ^ u) h, e)

    pub answer-exact : (n : ℕ) → m * 10 ^ u ≡ n * 10 ^ d → FewDigits 15 n → billionths minus m u d ≡ read (signed minus n)
    unfolding billionths
    answer-exact n e f =
        let q : m * 10 ^ u / 10 ^ d ≡ n = ap (λ (x : ℕ). x / 10 ^ d) e ∙ mul-div_cancel n (ten-pos d) in
        let r : m * 10 ^ u % 10 ^ d ≡ 0 = ap (λ (x : ℕ). x % 10 ^ d) e ∙ mul-mod_left n (10 ^ d) in
        let b : n < 10 ^ 18 = lt_of_mul-lt-mul_right (10 ^ d) (subst (λ (x : ℕ). x < 10 ^ 18 * 10 ^ d) e h) in
        let s : short 18 15 n ≡ true = few-short 18 15 n b f in
        simp (lt-leb (10 ^ 18 * 10 ^ d) (m * 10 ^ u) h, q, r, s)

-- the power of ten that stands behind the kept digits
abbrev pub high_of : Kept → ℕ → ℕ
high_of k u = k.dropped + u

-- ---- the number times its power lies between the kept digits and one more, times theirs
module _ (m u : ℕ) (k : Kept) (l : Leads m k) where
  high_is : 10 ^ high_of k u ≡ 10 ^ k.dropped * 10 ^ u
  high_is = pow-add 10 k.dropped u

  -- m × 10 ^ u is head × 10 ^ high_of k u and the tail's part
  spread : m * 10 ^ u ≡ k.head * 10 ^ high_of k u + l.tail * 10 ^ u
  spread =
      ap (λ (x : ℕ). x * 10 ^ u) l.is
      ∙ add-mul (k.head * 10 ^ k.dropped) l.tail (10 ^ u)
      ∙ ap (λ (x : ℕ). x + l.tail * 10 ^ u) (mul_assoc k.head (10 ^ k.dropped) (10 ^ u) ∙ ap (λ (x : ℕ). k.head * x) (sym high_is))

  pub not-under : k.head * 10 ^ high_of k u ≤ m * 10 ^ u
  not-under = omega (arith, spread)

  pub not-over : m * 10 ^ u < k.head * 10 ^ high_of k u + 10 ^ high_of k u
  not-over =
      let t : l.tail * 10 ^ u < 10 ^ k.dropped * 10 ^ u = mul-lt-mul_of_pos_right l.below (ten-pos u) in
      omega (arith, spread, high_is)

  tail_none : k.more ≡ false → l.tail ≡ 0
  tail_none e = go (eqb l.tail 0) refl
    where
      go : (b : Bool) → eqb l.tail 0 ≡ b → l.tail ≡ 0
      go true q = eqb-true l.tail 0 q
      go false q = clash (sym (ap not q) ∙ sym l.flag ∙ e)

  pub just : k.more ≡ false → m * 10 ^ u ≡ k.head * 10 ^ high_of k u
  just e =
      let z : l.tail * 10 ^ u ≡ 0 = ap (λ (x : ℕ). x * 10 ^ u) (tail_none e) ∙ zero-mul (10 ^ u) in
      omega (arith, spread)

  tail-some : k.more ≡ true → 0 < l.tail
  tail-some e = go l.tail refl
    where
      go : (x : ℕ) → l.tail ≡ x → 0 < l.tail
      go zero q = clash (sym e ∙ l.flag ∙ rw q)
      go (suc x) q = omega arith

  -- digits past the first 15 leave no number of few digits
  more-many : k.more ≡ true → (a w : ℕ) → a < 10 ^ 15 → m * 10 ^ u ≡ a * 10 ^ w → ⊥
  more-many e a w h q = go (dec_le (high_of k u) w)
    where
      deep : 0 < k.dropped
      deep =
          elim k.dropped as (λ x. k.dropped ≡ x → 0 < k.dropped) [
            | zero ↦ λ y. let o : 10 ^ k.dropped ≡ 1 = ap (λ (x : ℕ). 10 ^ x) y in absurd (omega (arith, l.below, tail-some e))
            | suc n ↦ λ y. omega arith
          ] refl

      go : Dec (high_of k u ≤ w) → ⊥
      go (yes p) =
          let s : w ≡ (w - high_of k u) + high_of k u = omega arith in
          let b = a * 10 ^ (w - high_of k u) in
          let r : a * 10 ^ w ≡ b * 10 ^ k.dropped * 10 ^ u =
          ap (λ (x : ℕ). a * 10 ^ x) s
          ∙ ap (λ (x : ℕ). a * x) (pow-add 10 (w - high_of k u) (high_of k u))
          ∙ sym (mul_assoc a (10 ^ (w - high_of k u)) (10 ^ high_of k u))
          ∙ ap (λ (x : ℕ). b * x) high_is
          ∙ sym (mul_assoc b (10 ^ k.dropped) (10 ^ u))
          in
          let c : m ≡ b * 10 ^ k.dropped = eq_of_mul-eq-mul_right (10 ^ u) (ten-pos u) m (b * 10 ^ k.dropped) (q ∙ r) in
          let t : l.tail ≡ 0 =
          sym (digits_mod k.head l.below)
          ∙ ap (λ (x : ℕ). x % 10 ^ k.dropped) (sym l.is ∙ c)
          ∙ mul-mod_left b (10 ^ k.dropped)
          in
          omega (arith, tail-some e)
      go (no p) =
          let s : high_of k u ≡ suc (high_of k u - w - 1) + w = omega arith in
          let x = 10 ^ (high_of k u - w - 1) in
          let r : 10 ^ high_of k u ≡ x * 10 * 10 ^ w =
          ap (λ (y : ℕ). 10 ^ y) s
          ∙ pow-add 10 (suc (high_of k u - w - 1)) w
          ∙ ap (λ (y : ℕ). y * 10 ^ w) (pow-suc 10 (high_of k u - w - 1))
          in
          let o : 10 ≤ x * 10 = omega (arith, ten-pos (high_of k u - w - 1)) in
          let v : k.head * 10 ≤ k.head * (x * 10) = mul-le-mul_left k.head o in
          let f : 10 ^ 15 ≤ k.head * (x * 10) = omega (arith, l.full deep) in
          let g : 10 ^ 15 * 10 ^ w ≤ k.head * (x * 10) * 10 ^ w = mul-le-mul_right (10 ^ w) f in
          let i : k.head * 10 ^ high_of k u ≡ k.head * (x * 10) * 10 ^ w =
          ap (λ (y : ℕ). k.head * y) r ∙ sym (mul_assoc k.head (x * 10) (10 ^ w))
          in
          let j : a * 10 ^ w < 10 ^ 15 * 10 ^ w = mul-lt-mul_of_pos_right h (ten-pos w) in
          omega (arith, not-under)

  -- so with digits past the first 15 the answer is 8, unless it is 7
  more-fine : k.more ≡ true → (minus : Bool) (d : ℕ) → m * 10 ^ u < 10 ^ 18 * 10 ^ d → billionths minus m u d ≡ refused 8
  more-fine e minus d h = answer-fine minus m u d h (go (eqb (m * 10 ^ u % 10 ^ d) 0 and short 18 15 (m * 10 ^ u / 10 ^ d)) refl)
    where
      go : (b : Bool) → (eqb (m * 10 ^ u % 10 ^ d) 0 and short 18 15 (m * 10 ^ u / 10 ^ d)) ≡ b
          → (eqb (m * 10 ^ u % 10 ^ d) 0 and short 18 15 (m * 10 ^ u / 10 ^ d)) ≡ false
      go false t = t
      go true t =
          let z : m * 10 ^ u % 10 ^ d ≡ 0 = eqb-true _ 0 (and_first _ (short 18 15 (m * 10 ^ u / 10 ^ d)) t) in
          let s : short 18 15 (m * 10 ^ u / 10 ^ d) ≡ true = and_second (eqb (m * 10 ^ u % 10 ^ d) 0) _ t in
          let b : m * 10 ^ u / 10 ^ d < 10 ^ 18 = (div-lt_iff_lt-mul (ten-pos d)).1 h in
          let f = short-few 18 15 (m * 10 ^ u / 10 ^ d) b s in
          let w : m * 10 ^ u ≡ f.front * 10 ^ (f.zeros + d) =
          sym (omega (arith, div-add-mod' (m * 10 ^ u) (10 ^ d)))
          ∙ ap (λ (x : ℕ). x * 10 ^ d) f.is
          ∙ mul_assoc f.front (10 ^ f.zeros) (10 ^ d)
          ∙ ap (λ (x : ℕ). f.front * x) (sym (pow-add 10 f.zeros d))
          in
          absurd (more-many e f.front (f.zeros + d) f.below w)

  head-none : k.head ≡ 0 → m ≡ 0
  head-none e = go k.dropped refl
    where
      go : (x : ℕ) → k.dropped ≡ x → m ≡ 0
      go zero y =
          let o : 10 ^ k.dropped ≡ 1 = ap (λ (x : ℕ). 10 ^ x) y in
          let i : m ≡ k.head * 1 + l.tail = l.is ∙ ap (λ (x : ℕ). k.head * x + l.tail) o in
          omega (arith, l.below)
      go (suc x) y = absurd (omega (arith, l.full (omega arith)))

  pub scaled-none : k.head ≡ 0 → (minus : Bool) (d : ℕ) → billionths minus m u d ≡ read (signed minus 0)
  scaled-none e minus d =
      let x : m * 10 ^ u ≡ 0 = ap (λ (x : ℕ). x * 10 ^ u) (head-none e) ∙ zero-mul (10 ^ u) in
      let b : 1 * 10 ^ d ≤ 10 ^ 18 * 10 ^ d = mul-le-mul_right (10 ^ d) (lit≤ tt) in
      answer-exact minus m u d (omega (arith, ten-pos d)) 0 (x ∙ sym (zero-mul (10 ^ d)))
      (record { front = 0; zeros = 0; below = lit< tt; is = refl })

  module _ (minus : Bool) (d : ℕ) where
    -- ---- where the power behind the digits is the greater
    module _ (up : d ≤ high_of k u) where
      lifted : 10 ^ high_of k u ≡ 10 ^ (high_of k u - d) * 10 ^ d
      lifted =
          let s : high_of k u ≡ (high_of k u - d) + d = omega arith in
          ap (λ (x : ℕ). 10 ^ x) s ∙ pow-add 10 (high_of k u - d) d

      lifted-head : k.head * 10 ^ high_of k u ≡ k.head * 10 ^ (high_of k u - d) * 10 ^ d
      lifted-head = ap (λ (x : ℕ). k.head * x) lifted ∙ sym (mul_assoc k.head (10 ^ (high_of k u - d)) (10 ^ d))

      up-large : 10 ^ 18 ≤ k.head * 10 ^ (high_of k u - d) → billionths minus m u d ≡ refused 7
      up-large h =
          let g : 10 ^ 18 * 10 ^ d ≤ k.head * 10 ^ (high_of k u - d) * 10 ^ d = mul-le-mul_right (10 ^ d) h in
          answer-large minus m u d (omega (arith, not-under, lifted-head))

      up-modest : 0 < k.head → k.head * 10 ^ (high_of k u - d) < 10 ^ 18 → m * 10 ^ u < 10 ^ 18 * 10 ^ d
      up-modest p h = go (dec_le (high_of k u - d) 18)
        where
          go : Dec (high_of k u - d ≤ 18) → m * 10 ^ u < 10 ^ 18 * 10 ^ d
          go (yes q) =
              let x = 10 ^ (high_of k u - d) in
              let s : 18 ≡ (18 - (high_of k u - d)) + (high_of k u - d) = omega arith in
              let t : 10 ^ 18 ≡ 10 ^ (18 - (high_of k u - d)) * x = ap (λ (y : ℕ). 10 ^ y) s ∙ pow-add 10 (18 - (high_of k u - d)) (high_of k u - d) in
              let f : k.head < 10 ^ (18 - (high_of k u - d)) = lt_of_mul-lt-mul_right x (subst (λ (y : ℕ). k.head * x < y) t h) in
              let g : (k.head + 1) * x ≤ 10 ^ (18 - (high_of k u - d)) * x = mul-le-mul_right x (omega arith) in
              let i : (k.head + 1) * x ≡ k.head * x + 1 * x = add-mul k.head 1 x in
              let j : k.head * x + x ≤ 10 ^ 18 = omega arith in
              let o : (k.head * x + x) * 10 ^ d ≤ 10 ^ 18 * 10 ^ d = mul-le-mul_right (10 ^ d) j in
              omega (arith, not-over, lifted, lifted-head, add-mul (k.head * x) x (10 ^ d))
          go (no q) =
              let s : 18 ≤ high_of k u - d = omega arith in
              let t : 10 ^ 18 ≤ 10 ^ (high_of k u - d) = ten-up s in
              let f : 1 * 10 ^ (high_of k u - d) ≤ k.head * 10 ^ (high_of k u - d) = mul-le-mul_right (10 ^ (high_of k u - d)) p in
              absurd (omega arith)

      pub scaled-up : 0 < k.head → billionths minus m u d ≡ reading_of minus (up_of k.head k.more (high_of k u - d))
      scaled-up p = go (leb (10 ^ 18) (k.head * 10 ^ (high_of k u - d))) refl k.more refl
        where
          go : (b : Bool) → leb (10 ^ 18) (k.head * 10 ^ (high_of k u - d)) ≡ b → (c : Bool) → k.more ≡ c
              → billionths minus m u d ≡ reading_of minus (up_of k.head k.more (high_of k u - d))
          go true e c f = rw e (up-large (leb-true _ _ e))
          go false e true f = rw (e, f) (more-fine f minus d (up-modest p (leb-false _ _ e)))
          go false e false f =
              rw (e, f)
              (answer-exact minus m u d (up-modest p (leb-false _ _ e)) (k.head * 10 ^ (high_of k u - d)) (just f ∙ lifted-head)
              (record { front = k.head; zeros = high_of k u - d; below = l.small; is = refl }))

    -- ---- and where it is the lesser
    module _ (down : high_of k u < d) where
      sunken : 10 ^ d ≡ 10 ^ (d - high_of k u) * 10 ^ high_of k u
      sunken =
          let s : d ≡ (d - high_of k u) + high_of k u = omega arith in
          ap (λ (x : ℕ). 10 ^ x) s ∙ pow-add 10 (d - high_of k u) (high_of k u)

      down-modest : m * 10 ^ u < 10 ^ 18 * 10 ^ d
      down-modest =
          let h = 10 ^ high_of k u in
          let s : k.head + 1 ≤ 10 ^ 15 = omega (arith, l.small) in
          let a : (k.head + 1) * h ≤ 10 ^ 15 * h = mul-le-mul_right h s in
          let b : (k.head + 1) * h ≡ k.head * h + 1 * h = add-mul k.head 1 h in
          let w : high_of k u ≤ d = omega arith in
          let c : 10 ^ high_of k u ≤ 10 ^ d = ten-up w in
          let e : 10 ^ 15 * 10 ^ d ≤ 10 ^ 18 * 10 ^ d = mul-le-mul_right (10 ^ d) (lit≤ tt) in
          omega (arith, not-over, mul-le-mul_left (10 ^ 15) c)

      -- a whole number of billionths needs the kept digits to end in as many zeros
      down-whole : k.more ≡ false → m * 10 ^ u % 10 ^ d ≡ 0 → k.head % 10 ^ (d - high_of k u) ≡ 0
      down-whole e z =
          let q = m * 10 ^ u / 10 ^ d in
          let x : k.head * 10 ^ high_of k u ≡ q * 10 ^ (d - high_of k u) * 10 ^ high_of k u =
          sym (just e)
          ∙ sym (omega (arith, div-add-mod' (m * 10 ^ u) (10 ^ d)))
          ∙ ap (λ (y : ℕ). q * y) sunken
          ∙ sym (mul_assoc q (10 ^ (d - high_of k u)) (10 ^ high_of k u))
          in
          let y : k.head ≡ q * 10 ^ (d - high_of k u) =
          eq_of_mul-eq-mul_right (10 ^ high_of k u) (ten-pos (high_of k u)) k.head (q * 10 ^ (d - high_of k u)) x
          in
          ap (λ (w : ℕ). w % 10 ^ (d - high_of k u)) y ∙ mul-mod_left q (10 ^ (d - high_of k u))

      down-exact : k.more ≡ false → k.head % 10 ^ (d - high_of k u) ≡ 0 → billionths minus m u d ≡ read (signed minus (k.head / 10 ^ (d - high_of k u)))
      down-exact e z =
          let q = k.head / 10 ^ (d - high_of k u) in
          let x : m * 10 ^ u ≡ q * 10 ^ d =
          just e
          ∙ ap (λ (y : ℕ). y * 10 ^ high_of k u) (sym (omega (arith, div-add-mod' k.head (10 ^ (d - high_of k u)))))
          ∙ mul_assoc q (10 ^ (d - high_of k u)) (10 ^ high_of k u)
          ∙ ap (λ (y : ℕ). q * y) (sym sunken)
          in
          answer-exact minus m u d down-modest q x
          (record { front = q; zeros = 0; below = omega (arith, div-le_self k.head (10 ^ (d - high_of k u)), l.small); is = sym (mul-one q) })

      pub scaled-down : billionths minus m u d ≡ reading_of minus (down_of k.head k.more (d - high_of k u))
      scaled-down = go k.more refl (eqb (k.head % 10 ^ (d - high_of k u)) 0) refl
        where
          go : (c : Bool) → k.more ≡ c → (b : Bool) → eqb (k.head % 10 ^ (d - high_of k u)) 0 ≡ b
              → billionths minus m u d ≡ reading_of minus (down_of k.head k.more (d - high_of k u))
          go true f b e = rw f (more-fine f minus d down-modest)
          go false f true e = rw (f, e) (down-exact f (eqb-true _ 0 e))
          go false f false e =
              rw (f, e)
              (answer-fine minus m u d down-modest
              (and-fails-first (short 18 15 (m * 10 ^ u / 10 ^ d)) (ne_eqb _ 0 (λ z. eqb-false _ 0 e (down-whole f z)))))

-- ---- what the tests of the code decide
split-18 : (d : ℕ) → d ≤ 18 → 10 ^ 18 ≡ 10 ^ (18 - d) * 10 ^ d
split-18 d h =
    let s : 18 ≡ (18 - d) + d = omega arith in
    ap (λ (x : ℕ). 10 ^ x) s ∙ pow-add 10 (18 - d) d

pub steep : (head d : ℕ) → 0 < head → 18 ≤ d → 10 ^ 18 ≤ head * 10 ^ d
steep head d p h = omega (arith, ten-up h, mul-le-mul_right (10 ^ d) p)

pub reaches : (head d : ℕ) → d < 18 → 10 ^ (18 - d) ≤ head → 10 ^ 18 ≤ head * 10 ^ d
reaches head d h k =
    let w : d ≤ 18 = omega arith in
    omega (arith, split-18 d w, mul-le-mul_right (10 ^ d) k)

pub stays : (head d : ℕ) → d < 18 → head < 10 ^ (18 - d) → head * 10 ^ d < 10 ^ 18
stays head d h k =
    let w : d ≤ 18 = omega arith in
    omega (arith, split-18 d w, mul-lt-mul_of_pos_right k (ten-pos d))

pub too-deep : (head d : ℕ) → 0 < head → head < 10 ^ 15 → 15 ≤ d → head % 10 ^ d ≡ 0 → ⊥
too-deep head d p h k e = omega (arith, mod-eq_of_lt (lt_of_lt_of_le h (ten-up k)))

abbrev Same : Result ℕ Kind → Result ℕ Kind → Type 0
Same a b = a ≡ b

pub up_small : (head : ℕ) (more : Bool) (d n : ℕ) → up_of head more d ≡ Ok n → n < 10 ^ 18
up_small head more d n e = go (leb (10 ^ 18) (head * 10 ^ d)) refl more refl
  where
    go : (b : Bool) → leb (10 ^ 18) (head * 10 ^ d) ≡ b → (c : Bool) → more ≡ c → n < 10 ^ 18
    go true t c f = let q : Same (Err Range) (Ok n) = rw t at e in let z : ◌≡◌ {A = ℕ} 0 1 = cc in absurd (omega arith)
    go false t true f = let q : Same (Err Fine) (Ok n) = rw (t, f) at e in let z : ◌≡◌ {A = ℕ} 0 1 = cc in absurd (omega arith)
    go false t false f =
        let q : Same (Ok (head * 10 ^ d)) (Ok n) = rw (t, f) at e in
        let z : head * 10 ^ d ≡ n = cc in
        omega (arith, leb-false (10 ^ 18) (head * 10 ^ d) t)

pub down-small : (head : ℕ) (more : Bool) (d n : ℕ) → head < 10 ^ 15 → down_of head more d ≡ Ok n → n < 10 ^ 18
down-small head more d n h e = go more refl (eqb (head % 10 ^ d) 0) refl
  where
    go : (c : Bool) → more ≡ c → (b : Bool) → eqb (head % 10 ^ d) 0 ≡ b → n < 10 ^ 18
    go true f b t = let q : Same (Err Fine) (Ok n) = rw f at e in let z : ◌≡◌ {A = ℕ} 0 1 = cc in absurd (omega arith)
    go false f false t = let q : Same (Err Fine) (Ok n) = rw (f, t) at e in let z : ◌≡◌ {A = ℕ} 0 1 = cc in absurd (omega arith)
    go false f true t =
        let q : Same (Ok (head / 10 ^ d)) (Ok n) = rw (f, t) at e in
        let z : head / 10 ^ d ≡ n = cc in
        omega (arith, div-le_self head (10 ^ d))

pub every_append : (is : ℕ → Bool) (xs ys : List ℕ) → every is (xs ++ ys) ≡ (every is xs and every is ys)
every_append is [] ys = refl
every_append is (c ∷ xs) ys = let h = every_append is xs ys in by-test (is c) (λ e. rw e h) (λ e. rw e)

pub every-repeated : (is : ℕ → Bool) (c : ℕ) → is c ≡ true → (k : ℕ) → every is (replicate k c) ≡ true
every-repeated is c h zero = refl
every-repeated is c h (suc k) = and_both h (every-repeated is c h k)
