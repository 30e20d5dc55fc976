-- Numbers from a to b, and lists joined. Each law is one induction on a list or a count.
use mathlib.Core.Path.{◌≡◌, refl, ap, ◌∙◌, sym, ap₂}
use Prim.Native.Nat.{ℕ, zero, suc, ◌+◌, ◌<◌, ◌-◌, ◌≤◌}
use lib.ListN.{length, get_or}
use mathlib.Core.List.{List, ◌∷◌, ◌++◌, [], map}
use native.Mathlib.Nat.{add-zero}
use native.Mathlib.Omega.{arith}
use Rattle.laws.specs.Lists.{from, below, joined}

pub from-length : (a n : ℕ) → length (from a n) ≡ n
from-length a zero = refl
from-length a (suc n) = ap suc (from-length (suc a) n)

pub from-append : (a m n : ℕ) → from a (m + n) ≡ from a m ++ from (a + m) n
from-append a zero n = let e : 0 + n ≡ n = omega arith in rw (e, add-zero a)
from-append a (suc m) n =
    let e : suc m + n ≡ suc (m + n) = omega arith in
    let f : a + suc m ≡ suc a + m = omega arith in
    rw (e, f) (ap (λ (l : List ℕ). a ∷ l) (from-append (suc a) m n))

pub below_more : (k : ℕ) → below (suc k) ≡ below k ++ (k ∷ [])
below_more k =
    let e : suc k ≡ k + 1 = omega arith in
    let z : 0 + k ≡ k = omega arith in
    ap below e ∙ from-append 0 k 1 ∙ ap (λ (i : ℕ). below k ++ (i ∷ [])) z

pub from_at : (a n i d : ℕ) → i < n → get_or (from a n) i d ≡ a + i
from_at a zero i d h = elim h [ ]
from_at a (suc n) zero d h = sym (add-zero a)
from_at a (suc n) (suc i) d h = from_at (suc a) n i d (omega (arith, h)) ∙ (omega arith)

module _ {A B : Type 0} where
  pub map-append : (f : A → B) (xs ys : List A) → map f (xs ++ ys) ≡ map f xs ++ map f ys
  map-append f [] ys = refl
  map-append f (x ∷ xs) ys = ap (λ (l : List B). f x ∷ l) (map-append f xs ys)

module _ {A : Type 0} where
  pub append-nil : (xs : List A) → xs ++ [] ≡ xs
  append-nil [] = refl
  append-nil (x ∷ xs) = ap (λ (l : List A). x ∷ l) (append-nil xs)

  pub append-brackets : (xs ys zs : List A) → (xs ++ ys) ++ zs ≡ xs ++ (ys ++ zs)
  append-brackets [] ys zs = refl
  append-brackets (x ∷ xs) ys zs = ap (λ (l : List A). x ∷ l) (append-brackets xs ys zs)

  pub joined-append : (xs ys : List (List A)) → joined (xs ++ ys) ≡ joined xs ++ joined ys
  joined-append [] ys = refl
  joined-append (x ∷ xs) ys = ap (λ (l : List A). x ++ l) (joined-append xs ys) ∙ sym (append-brackets x (joined xs) (joined ys))

  pub joined-more : (f : ℕ → List A) (k : ℕ) → joined (map f (below (suc k))) ≡ joined (map f (below k)) ++ f k
  joined-more f k =
      ap (λ (l : List ℕ). joined (map f l)) (below_more k)
      ∙ ap joined (map-append f (below k) (k ∷ []))
      ∙ joined-append (map f (below k)) (f k ∷ [])
      ∙ ap (λ (l : List A). joined (map f (below k)) ++ l) (append-nil (f k))

  -- two functions that agree from a on, n times
  pub map_same : (f g : ℕ → A) (a n : ℕ) → ((i : ℕ) → a ≤ i → i < a + n → f i ≡ g i) → map f (from a n) ≡ map g (from a n)
  map_same f g a zero h = refl
  map_same f g a (suc n) h =
      ap₂ ◌∷◌ (h a (omega arith) (omega arith))
      (map_same f g (suc a) n (λ i p q. h i (omega (arith, p)) (omega (arith, q))))

  -- counted from a on, or from 0
  pub map-shift : (f g : ℕ → A) (a b n : ℕ) → ((i : ℕ) → i < n → f (a + i) ≡ g (b + i)) → map f (from a n) ≡ map g (from b n)
  map-shift f g a b zero h = refl
  map-shift f g a b (suc n) h =
      let x : f a ≡ g b = ap f (sym (add-zero a)) ∙ h 0 (omega arith) ∙ ap g (add-zero b) in
      ap₂ ◌∷◌ x
      (map-shift f g (suc a) (suc b) n
      (λ i p.
      let u : suc a + i ≡ a + suc i = omega arith in
      let v : suc b + i ≡ b + suc i = omega arith in ap f u ∙ h (suc i) (omega (arith, p)) ∙ ap g (sym v)))

  -- lists that are empty from c + 1 on: only those up to c count
  pub joined-empty : (f : ℕ → List A) (a n : ℕ) → ((i : ℕ) → a ≤ i → f i ≡ []) → joined (map f (from a n)) ≡ []
  joined-empty f a zero h = refl
  joined-empty f a (suc n) h = rw (h a (omega arith)) (joined-empty f (suc a) n (λ i p. h i (omega (arith, p))))

  pub joined-until : (f : ℕ → List A) (c n : ℕ) → c < n → ((i : ℕ) → c < i → f i ≡ [])
      → joined (map f (below n)) ≡ joined (map f (below c)) ++ f c
  joined-until f c n lt h =
      let m = n - suc c in
      let e : n ≡ c + suc m = omega (arith, lt) in
      ap (λ (k : ℕ). joined (map f (below k))) e
      ∙ ap (λ (l : List ℕ). joined (map f l)) (from-append 0 c (suc m))
      ∙ ap joined (map-append f (below c) (from (0 + c) (suc m)))
      ∙ joined-append (map f (below c)) (map f (from (0 + c) (suc m)))
      ∙ ap (λ (k : ℕ). joined (map f (below c)) ++ (joined (map f (from k (suc m))))) (omega arith)
      ∙ ap (λ (l : List A). joined (map f (below c)) ++ (f c ++ l)) (joined-empty f (suc c) m (λ i p. h i (omega (arith, p))))
      ∙ ap (λ (l : List A). joined (map f (below c)) ++ l) (append-nil (f c))
