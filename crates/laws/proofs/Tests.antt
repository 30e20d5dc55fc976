-- Tests that compute: the two answers differ, what holds of both, and what a joined test says of its parts.
use mathlib.Core.Bool.{true, false, true≢false, Bool, cond}
use mathlib.Core.Path.{◌≡◌, refl, sym}
use Rattle.laws.specs.Sign.{◌and◌, implies}

-- a test that is both passed and failed proves anything
pub clash {ℓ} : {X : Type ℓ} → true ≡ false → X
clash p = absurd (true≢false p)

-- what holds of both answers of a test holds of its answer
pub either {ℓ ℓ'} : {X : Type ℓ} (P : X → Type ℓ') (t : Bool) {x y : X} → P x → P y → P (cond t x y)
either P true p q = p
either P false p q = q

pub and_first : (a b : Bool) → (a and b) ≡ true → a ≡ true
and_first true b t = refl
and_first false b t = t

pub and_second : (a b : Bool) → (a and b) ≡ true → b ≡ true
and_second true b t = t
and_second false b t = clash (sym t)

pub and_both : {a b : Bool} → a ≡ true → b ≡ true → (a and b) ≡ true
and_both {a} {b} p q = rw (p, q)

pub and-fails-first : {a : Bool} (b : Bool) → a ≡ false → (a and b) ≡ false
and-fails-first b p = rw p

pub and-fails-second : (a : Bool) {b : Bool} → b ≡ false → (a and b) ≡ false
and-fails-second true p = p
and-fails-second false p = refl

pub split : (a b : Bool) → (a and b) ≡ true → (a ≡ true) × (b ≡ true)
split a b t = (and_first a b t, and_second a b t)

pub asked : (a b : Bool) → implies a b ≡ true → a ≡ true → b ≡ true
asked true b t h = t
asked false b t h = clash (sym h)

pub unasked : (a b : Bool) → (a ≡ true → b ≡ true) → implies a b ≡ true
unasked true b f = f refl
unasked false b f = refl

pub either_first : (a b : Bool) → a ≡ true → cond a true b ≡ true
either_first a b h = rw h

pub either_second : (a b : Bool) → b ≡ true → cond a true b ≡ true
either_second true b h = refl
either_second false b h = h

pub either-cases {ℓ} : {X : Type ℓ} (a b : Bool) → cond a true b ≡ true → (a ≡ true → X) → (b ≡ true → X) → X
either-cases true b t f g = f refl
either-cases false b t f g = g t

pub by-test {ℓ} : {X : Type ℓ} (b : Bool) → (b ≡ true → X) → (b ≡ false → X) → X
by-test true t f = t refl
by-test false t f = f refl
