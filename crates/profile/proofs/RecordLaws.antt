-- The bounds of what a head says, from its fields, of which none is at fault where a head is answered.
use mathlib.Core.List.{List, [], ◌∷◌}
use mathlib.Core.Path.{◌≡◌, refl, sym, subst}
use borrow.Author.Tests.{eqb-true, eqb-false, leb-true}
use lib.Dec.{eqb, leb}
use mathlib.Core.Bool.{Bool, true, cond}
use Prim.Native.Nat.{ℕ, ◌%◌, ◌≤◌, suc, ◌/◌, ◌^◌, ◌*◌}
use native.Mathlib.Omega.{arith}
use lib.ListN.{length}
use lib.IntN.{ℤ, pos, negsuc, nat_abs}
use native.Mathlib.Nat.{div-le_of_le-mul}
use Rattle.laws.proofs.Tests.{by-test, and_second}
use Rattle.laws.proofs.Integers.{size-minus}
use Rattle.number.specs.declared.Reading.{Reading}
use Rattle.number.specs.Integer.{refused, integer}
use Rattle.number.specs.Real.{real}
use Rattle.number.proofs.Limits.{Limited, real-limits}
use Rattle.field.specs.Field.{Judged, first_of, in_range, posts_limits, stretch, real_at}
use Rattle.field.proofs.Ranges.{posts-few, posts-kind, range-read}
use Rattle.profile.specs.RecordB.{head_fields, head_fault, head_of, record_b, hundredths, is_datum}
use Rattle.profile.specs.declared.record_b.Head.{Head}
use Rattle.profile.specs.RecordB.Headed.{Profile, Refused}

-- every field's reading has kind 0
abbrev pub AllRead : List Judged → Type 0
AllRead [] = Unit {0}
AllRead (j ∷ js) = (j.reading.kind ≡ 0) × AllRead js

pub all_read : (js : List Judged) → (first_of js).kind ≡ 0 → AllRead js
all_read [] z = tt
all_read (j ∷ js) z =
    let go = all_read js in
    by-test (eqb j.reading.kind 0) (λ e. (eqb-true j.reading.kind 0 e, go (rw e at z)))
    (λ e. absurd (eqb-false j.reading.kind 0 e (rw e at z)))

module _ (family number : ℕ) (block : List ℕ) (h : Head) (p : record_b family number block ≡ Profile h) where
  -- a head is answered where there is no fault, and it is what the fields say
  pub head-answered : ((head_fault family number block).kind ≡ 0) × (h ≡ head_of block)
  unfolding record_b
  head-answered =
      by-test (eqb (head_fault family number block).kind 0)
      (λ e.
      let q : Profile (head_of block) ≡ Profile h = rw e at p in
      let k : h ≡ head_of block = cc in
      (eqb-true (head_fault family number block).kind 0 e, k))
      (λ e.
      let q : Refused (head_fault family number block).kind (head_fault family number block).byte ≡ Profile h = rw e at p in
      let z : ◌≡◌ {A = ℕ} 0 1 = cc in
      absurd (omega arith))

  nine-read : AllRead (head_fields family number block)
  nine-read =
      by-test (eqb (length block) 1024) (λ e. all_read (head_fields family number block) (rw e at head-answered).0)
      (λ e.
      let q : ◌≡◌ {A = ℕ} 1 0 = (rw e at head-answered).0 in
      absurd (omega arith))

-- a field with a rule of its own reads, and its value keeps the rule
own-rule : (t : Bool) (k : ℕ) (r : Reading) → (k ≡ 0 → ⊥) → (cond (eqb r.kind 0) (cond t r (refused k)) r).kind ≡ 0
    → (r.kind ≡ 0) × (t ≡ true)
own-rule t k r n z =
    by-test (eqb r.kind 0) (λ e. (eqb-true r.kind 0 e, by-test t (λ b. b) (λ b. absurd (n (rw (e, b) at z)))))
    (λ e. absurd (eqb-false r.kind 0 e (rw e at z)))

hundredths-size : (z : ℤ) → nat_abs (hundredths z) ≡ nat_abs z / 10 ^ 7
hundredths-size (pos n) = refl
hundredths-size (negsuc n) = size-minus (pos (suc n / 10 ^ 7))

datum-size : (z : ℤ) → is_datum z ≡ true → nat_abs (hundredths z) ≤ 1000000
datum-size z t =
    let le : nat_abs z ≤ 10000 * 10 ^ 9 = leb-true (nat_abs z) (10000 * 10 ^ 9) (and_second (eqb (nat_abs z % 10 ^ 7) 0) (leb (nat_abs z) (10000 * 10 ^ 9)) t) in
    rw (hundredths-size z) (div-le_of_le-mul (10 ^ 7) (omega arith))

module _ (family number : ℕ) (block : List ℕ) (h : Head) (p : record_b family number block ≡ Profile h) where
  abbrev nine : AllRead (head_fields family number block)
  nine = nine-read family number block h p

  head-is : head_of block ≡ h
  head-is = sym (head-answered family number block h p).1

  -- the posts are those that a sheet of the family has: 1,201 and no other in a Canadian one
  pub head-posts : in_range (posts_limits family) h.posts ≡ true
  head-posts =
      let n : (posts_limits family).kind ≡ 0 → ⊥ = λ e. omega (arith, e, posts-kind family) in
      subst (λ (x : Head). in_range (posts_limits family) x.posts ≡ true) head-is
      (range-read (posts_limits family) (integer (stretch 13 6 block)) n nine.1.1.0)

  -- in either family
  pub head-bounds : (1 ≤ h.posts) × (h.posts ≤ 2048) × (nat_abs h.datum ≤ 1000000)
  head-bounds =
      let datum = own-rule (is_datum (real_at 73 block)) 7 (real (stretch 73 24 block)) (λ e. omega arith) nine.1.1.1.1.1.1.0 in
      let range = posts-few family h.posts head-posts in (
        range.0,
        range.1,
        subst (λ (x : Head). nat_abs x.datum ≤ 1000000) head-is (datum-size (real_at 73 block) datum.1),
      )

  pub head-reals : Limited h.x × Limited h.y × Limited h.least × Limited h.greatest
  head-reals =
      let reals = nine.1.1.1.1 in
      subst (λ (x : Head). Limited x.x × Limited x.y × Limited x.least × Limited x.greatest) head-is (
        real-limits (stretch 25 24 block) reals.0,
        real-limits (stretch 49 24 block) reals.1.0,
        real-limits (stretch 97 24 block) reals.1.1.1.0,
        real-limits (stretch 121 24 block) reals.1.1.1.1.0,
      )
