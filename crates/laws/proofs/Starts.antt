-- A machine whose states, all but the lost ones, can be completed to every greater length is lost at the very byte, and nowhere else.
use mathlib.Core.Bool.{Bool, true, false, cond}
use mathlib.Core.List.{List, [], ◌∷◌, ◌++◌}
use mathlib.Core.Logic.{◌↔◌, ◌⊎◌, inl, inr}
use mathlib.Core.Path.{◌≡◌, refl, sym, ◌∙◌, ap, subst, subst⁻¹}
use Prim.Native.Nat.{ℕ, zero, suc, ◌≤◌, ◌<◌, ◌-◌, ◌+◌}
use native.Mathlib.Omega.{arith}
use borrow.Author.Tests.{le-leb, lt-leb, ltb-true, ltb-false}
use lib.Dec.{leb, ltb}
use lib.ListN.{length, take, drop, length-take, length-drop, length-append, take-append-drop}
use Rattle.laws.specs.Starts.{Start, StartOf, VeryByte, Anyhow, run, lost_at}
use Rattle.laws.proofs.Tests.{clash, by-test}

-- ---- of any form

-- a field that has its form has no such byte
pub very-wrong : {Field : List ℕ → Type 0} {s : List ℕ} {k : ℕ} → VeryByte Field s k → Field s → ⊥
very-wrong {Field} {s} {k} v f =
    let e = take-append-drop k s in
    v.none (record { behind = drop k s; long = ap length e; field = subst⁻¹ Field e f })

-- there is one at most
pub one-very-byte : {Field : List ℕ → Type 0} {s : List ℕ} {j k : ℕ} → VeryByte Field s j → VeryByte Field s k → j ≡ k
one-very-byte {j = j} {k} v w =
    let p : j < k → ⊥ = λ h. v.none (w.shorter j h) in
    let q : k < j → ⊥ = λ h. w.none (v.shorter k h) in
    omega (arith, p, q)

-- a text with as many bytes as it has, and more behind it, has no more
nothing-behind : (s b : List ℕ) → length (take (length s) s ++ b) ≡ length s → take (length s) s ++ b ≡ s
nothing-behind [] [] h = refl
nothing-behind [] (c ∷ b) h = absurd (omega (arith, h))
nothing-behind (c ∷ s) b h = ap (λ (l : List ℕ). c ∷ l) (nothing-behind s b (omega (arith, h)))

-- ---- a machine
module _ {State : Type 0} (step : State → ℕ → State) (lost : State → Bool) where
  pub run-append : (q : State) (xs ys : List ℕ) → run step q (xs ++ ys) ≡ run step (run step q xs) ys
  run-append q [] ys = refl
  run-append q (c ∷ xs) ys = run-append (step q c) xs ys

  pub lost-inside : (q : State) (s : List ℕ) → lost_at step lost q s ≤ length s
  lost-inside q [] = omega arith
  lost-inside q (c ∷ s) =
      by-test (lost (step q c)) (λ e. rw e (omega arith)) (λ e. rw e (omega (arith, lost-inside (step q c) s)))

  pub lost-from-one : (q : State) (s : List ℕ) → 1 ≤ length s → 1 ≤ lost_at step lost q s
  lost-from-one q [] h = h
  lost-from-one q (c ∷ s) h = by-test (lost (step q c)) (λ e. rw e (omega arith)) (λ e. rw e (omega arith))

  -- before that byte it is not lost
  live-before : (q : State) (s : List ℕ) → lost q ≡ false → (j : ℕ) → j < lost_at step lost q s → lost (run step q (take j s)) ≡ false
  live-before q s l zero h = l
  live-before q [] l (suc j) h = absurd (omega arith)
  live-before q (c ∷ s) l (suc j) h =
      by-test (lost (step q c)) (λ e. let k : suc j < 1 = rw e at h in absurd (omega arith))
      (λ e. let k : suc j < suc (lost_at step lost (step q c) s) = rw e at h in live-before (step q c) s e j (omega arith))

  -- there it is, or it has come to the end
  lost-or-ended : (q : State) (s : List ℕ) → lost q ≡ false
      → (lost (run step q (take (lost_at step lost q s) s)) ≡ true) ⊎ ((lost_at step lost q s ≡ length s) × (lost (run step q s) ≡ false))
  lost-or-ended q [] l = inr (refl, l)
  lost-or-ended q (c ∷ s) l =
      by-test (lost (step q c)) (λ e. inl (rw e e)) (λ e. rw e (go (lost-or-ended (step q c) s e)))
    where
      go : (lost (run step (step q c) (take (lost_at step lost (step q c) s) s)) ≡ true)
          ⊎ ((lost_at step lost (step q c) s ≡ length s) × (lost (run step (step q c) s) ≡ false))
          → (lost (run step (step q c) (take (lost_at step lost (step q c) s) s)) ≡ true)
          ⊎ ((suc (lost_at step lost (step q c) s) ≡ suc (length s)) × (lost (run step (step q c) s) ≡ false))
      go (inl e) = inl e
      go (inr e) = inr (ap suc e.0, e.1)

  -- a walk over a text, as code goes: what is left of it from the byte on at which the machine is lost, and whether it ends well
  module _ (good : State → Bool) where
    abbrev pub walked : State → List ℕ → List ℕ × Bool
    walked q [] = ([], good q)
    walked q (c ∷ s) = cond (lost (step q c)) (c ∷ s, false) (walked (step q c) s)

    lost-count : (q : State) (s : List ℕ)
        → lost_at step lost q s + length (walked q s).0 ≡ length s + cond (leb 1 (length (walked q s).0)) 1 0
    lost-count q [] = refl
    lost-count q (c ∷ s) =
        by-test (lost (step q c)) (λ e. rw (e, le-leb 1 (suc (length s)) (omega arith)) (omega arith))
        (λ e. rw e (omega (arith, lost-count (step q c) s)))

    -- by the place of what is left, counted from 0, one knows the byte
    module _ (q : State) (s : List ℕ) (next : ℕ) (is : drop next s ≡ (walked q s).0) where
      left : length (walked q s).0 ≡ length s - next
      left = ap length (sym is) ∙ length-drop next s

      lost-here : next < length s → lost_at step lost q s ≡ next + 1
      lost-here h =
          let l = left in
          let c = lost-count q s in
          let e : leb 1 (length (walked q s).0) ≡ true = le-leb 1 (length (walked q s).0) (omega (arith, l)) in
          let d : lost_at step lost q s + length (walked q s).0 ≡ length s + 1 = rw e at c in
          omega (arith, d, l)

      lost-nowhere : length s ≤ next → lost_at step lost q s ≡ length s
      lost-nowhere h =
          let l = left in
          let c = lost-count q s in
          let e : leb 1 (length (walked q s).0) ≡ false = lt-leb 1 (length (walked q s).0) (omega (arith, l)) in
          let d : lost_at step lost q s + length (walked q s).0 ≡ length s + 0 = rw e at c in
          omega (arith, d, l)

      pub lost-at : lost_at step lost q s ≡ cond (ltb next (length s)) (next + 1) (length s)
      lost-at =
          by-test (ltb next (length s)) (λ e. rw e (lost-here (ltb-true next (length s) e)))
          (λ e. rw e (lost-nowhere (ltb-false next (length s) e)))

-- what a machine is to a form: a walk ends well exactly on a field; once lost it never does; and where it is not lost it can, by so many bytes
-- more
pub record Knows {State : Type 0} (step : State → ℕ → State) (lost : State → Bool) (begin : State) (Field : List ℕ → Type 0) : Type 0 where
  pub good : State → Bool
  pub exactly : (s : List ℕ) → Field s ↔ ((walked step lost good begin s).1 ≡ true)
  pub stays : (q : State) (c : ℕ) → lost q ≡ true → lost (step q c) ≡ true
  pub never : (q : State) → lost q ≡ true → good q ≡ false
  pub begins : lost begin ≡ false
  pub behind : State → ℕ → List ℕ
  pub so-many : (q : State) (r : ℕ) → length (behind q r) ≡ suc r
  pub completes : (q : State) (r : ℕ) → lost q ≡ false → good (run step q (behind q r)) ≡ true

module _ {State : Type 0} {step : State → ℕ → State} {lost : State → Bool} {begin : State} {Field : List ℕ → Type 0}
    (m : Knows step lost begin Field) where
  never-after : (q : State) (s : List ℕ) → lost q ≡ true → m.good (run step q s) ≡ false
  never-after q [] l = m.never q l
  never-after q (c ∷ s) l = never-after (step q c) s (m.stays q c l)

  walk_ends : (q : State) (s : List ℕ) → (walked step lost m.good q s).1 ≡ m.good (run step q s)
  walk_ends q [] = refl
  walk_ends q (c ∷ s) =
      by-test (lost (step q c)) (λ e. rw e (sym (never-after (step q c) s e))) (λ e. rw e (walk_ends (step q c) s))

  no_start : (t : List ℕ) → lost (run step begin t) ≡ true → Start Field t → ⊥
  no_start t l f =
      clash
      (sym ((m.exactly (t ++ f.behind)).0 f.field)
      ∙ walk_ends begin (t ++ f.behind)
      ∙ ap m.good (run-append step lost begin t f.behind)
      ∙ never-after (run step begin t) f.behind l)

  -- a start, and as many bytes behind it as wanted
  start_of : (t : List ℕ) (r : ℕ) → lost (run step begin t) ≡ false → Field (t ++ m.behind (run step begin t) r)
  start_of t r l =
      (m.exactly (t ++ m.behind (run step begin t) r)).1
      (walk_ends begin (t ++ m.behind (run step begin t) r)
      ∙ ap m.good (run-append step lost begin t (m.behind (run step begin t) r))
      ∙ m.completes (run step begin t) r l)

  module _ (s : List ℕ) (wrong : Field s → ⊥) where
    abbrev byte : ℕ
    byte = lost_at step lost begin s

    shorter : (j : ℕ) → j < byte → StartOf Field (length s) (take j s)
    shorter j h =
        let q = run step begin (take j s) in
        let r = length s - suc j in
        record {
          behind = m.behind q r;
          long =
              length-append (take j s) (m.behind q r)
              ∙ omega (arith, m.so-many q r, length-take j s, lost-inside step lost begin s);
          field = start_of (take j s) r (live-before step lost begin s m.begins j h);
        }

    pub lost-is : 1 ≤ length s → VeryByte Field s byte
    lost-is some =
        record {
          from_one = lost-from-one step lost begin s some;
          inside = lost-inside step lost begin s;
          none = none (lost-or-ended step lost begin s m.begins);
          shorter = shorter;
        }
      where
        none : (lost (run step begin (take byte s)) ≡ true) ⊎ ((byte ≡ length s) × (lost (run step begin s) ≡ false))
            → StartOf Field (length s) (take byte s) → ⊥
        none (inl l) f = no_start (take byte s) l (record { behind = f.behind; field = f.field })
        none (inr e) f =
            let g : length (take (length s) s ++ f.behind) ≡ length s = rw e.0 at f.long in
            let h : Field (take (length s) s ++ f.behind) = rw e.0 at f.field in
            wrong (subst Field (nothing-behind s f.behind g) h)

    pub lost-anyhow : Anyhow Field s byte
    lost-anyhow = (λ j h. let f = shorter j h in record { behind = f.behind; field = f.field }, go (lost-or-ended step lost begin s m.begins))
      where
        go : (lost (run step begin (take byte s)) ≡ true) ⊎ ((byte ≡ length s) × (lost (run step begin s) ≡ false))
            → (Start Field (take byte s) → ⊥) ⊎ ((byte ≡ length s) × (Field s → ⊥) × Start Field s)
        go (inl l) = inl (no_start (take byte s) l)
        go (inr e) = inr (e.0, wrong, record { behind = m.behind (run step begin s) 0; field = start_of s 0 e.1 })
