-- Pieces of a text put one after another: none, one byte, two runs joined, and what a function that puts a piece promises of them.
use mathlib.Core.List.{List, [], append-nil, ◌∷◌, ◌++◌, append_assoc}
use mathlib.Core.Path.{refl, sym, ◌∙◌, ap, ◌≡◌}
use Prim.Native.Nat.{ℕ, ◌+◌, ◌<◌, ◌≤◌}
use native.Mathlib.Nat.{add-zero}
use lib.ListN.{take, length, set, length-set, length-append, drop, take-append-drop, length-drop}
use native.Mathlib.Numerals.{add-one}
use lib.Seq.{take-suc-set, take_at, length-take-le}
use native.Mathlib.Omega.{arith}
use mathlib.Core.Bool.{Bool, cond, true, false}
use borrow.Author.Tests.{lt-leb, le-leb, leb-true, leb-false}
use lib.Dec.{leb}
use Rattle.laws.proofs.Tests.{by-test}
use Rattle.numerals.specs.Pieces.{Puts, GivenAt}

pub put-none : (l : List ℕ) (at : ℕ) → Puts l at [] l at
put-none l at = record { kept = refl; place = sym (add-zero at); text = sym (append-nil (take at l)) }

pub put_one : (l : List ℕ) (at byte : ℕ) → at < length l → Puts l at (byte ∷ []) (set l at byte) (at + 1)
put_one l at byte h =
    record { kept = length-set l at byte; place = refl; text = rw (add-one at) (take-suc-set l at byte h) }

pub joined : {f g h p q : List ℕ} {at mid end : ℕ} → Puts f at p g mid → Puts g mid q h end → Puts f at (p ++ q) h end
joined {f} {g} {h} {p} {q} {at} {mid} {end} a b =
    record {
      kept = b.kept ∙ a.kept;
      place = omega (arith, a.place, b.place, length-append p q);
      text = b.text ∙ ap (λ (x : List ℕ). x ++ q) a.text ∙ append_assoc (take at f) p q;
    }

-- ---- what a function that puts a piece promises

-- a piece that has no room
pub no_room : {at : ℕ} {piece lent : List ℕ} → length lent < at + length piece → GivenAt at piece lent lent at
no_room {at} {piece} {lent} h =
    let t = lt-leb (at + length piece) (length lent) h in
    record {
      end = sym (ap (λ (b : Bool). cond b (at + length piece) at) t);
      bytes = sym (ap (λ (b : Bool). cond b (take at lent ++ (piece ++ drop (at + length piece) lent)) lent) t);
    }

-- a piece that stands, with what was behind it
pub stands : {at : ℕ} {piece lent after : List ℕ} {end : ℕ} → end ≡ at + length piece → at + length piece ≤ length lent
    → after ≡ take at lent ++ (piece ++ drop (at + length piece) lent) → GivenAt at piece lent after end
stands {at} {piece} {lent} e h w =
    let t = le-leb (at + length piece) (length lent) h in
    record {
      end = e ∙ sym (ap (λ (b : Bool). cond b (at + length piece) at) t);
      bytes = w ∙ sym (ap (λ (b : Bool). cond b (take at lent ++ (piece ++ drop (at + length piece) lent)) lent) t);
    }

pub stands-whole : {at : ℕ} {piece lent after : List ℕ} {end : ℕ} → Puts lent at piece after end → at + length piece ≤ length lent
    → drop end after ≡ drop end lent → GivenAt at piece lent after end
stands-whole {at} {piece} {lent} {after} {end} p h r =
    stands p.place h
    (sym (take-append-drop end after)
    ∙ ap (λ (x : List ℕ). x ++ drop end after) p.text
    ∙ append_assoc (take at lent) piece (drop end after)
    ∙ ap (λ (x : List ℕ). take at lent ++ (piece ++ x)) (r ∙ ap (λ (k : ℕ). drop k lent) p.place))

pub nothing : (lent : List ℕ) (at : ℕ) → GivenAt at [] lent lent at
nothing lent at = by-test (leb (at + 0) (length lent)) there past
  where
    there : leb (at + 0) (length lent) ≡ true → GivenAt at [] lent lent at
    there t = stands-whole (put-none lent at) (leb-true (at + 0) (length lent) t) refl

    past : leb (at + 0) (length lent) ≡ false → GivenAt at [] lent lent at
    past t = no_room (leb-false (at + 0) (length lent) t)

-- where the piece fits, it stands
pub puts : {at r : ℕ} {piece lent after : List ℕ} → GivenAt at piece lent after r → at + length piece ≤ length lent
    → Puts lent at piece after r
puts {at} {r} {piece} {lent} {after} g h =
    let t = le-leb (at + length piece) (length lent) h in
    let front = take at lent ++ piece in
    let rest = drop (at + length piece) lent in
    let long : length front ≡ at + length piece =
    length-append (take at lent) piece ∙ ap (λ (k : ℕ). k + length piece) (length-take-le at lent (omega arith))
    in
    let e : r ≡ at + length piece = g.end ∙ ap (λ (b : Bool). cond b (at + length piece) at) t in
    let w : after ≡ front ++ rest =
    g.bytes
    ∙ ap (λ (b : Bool). cond b (take at lent ++ (piece ++ rest)) lent) t
    ∙ sym (append_assoc (take at lent) piece rest)
    in
    record {
      kept = ap length w ∙ length-append front rest ∙ omega (arith, long, length-drop (at + length piece) lent);
      place = e;
      text = ap (λ (k : ℕ). take k after) e ∙ ap (λ (x : List ℕ). take (at + length piece) x) w ∙ take_at front rest (at + length piece) long;
    }
