-- The numbers of a session say that session, and numbers that say a sound one are its numbers.
use mathlib.Core.Bool.{true, false}
use mathlib.Core.List.{List, [], ◌∷◌, ◌++◌, map}
use mathlib.Core.Path.{◌≡◌, refl, sym, ◌∙◌, ap}
use Prim.Native.Nat.{ℕ, zero, suc, ◌+◌, ◌≤◌}
use native.Mathlib.Nat.{add-zero}
use native.Mathlib.Omega.{arith}
use borrow.Author.Tests.{leb-true, le-ltb}
use lib.Dec.{leb}
use lib.IntN.{ℤ, pos, negsuc}
use lib.ListN.{length, drop, length-append}
use lib.Seq.{drop-cons}
use lib.Signed.{lt_z}
use Rattle.laws.specs.Lists.{from}
use Rattle.laws.specs.Sign.{not_negative}
use Rattle.laws.proofs.Tests.{by-test, clash, split, and_both}
use Rattle.session.specs.declared.Session.{Session}
use Rattle.session.specs.Session.{sound}
use Rattle.ledger.specs.Numbers.{numbers_of, kept, session_numbers}
use Rattle.ledger.specs.Ledger.{kept_at, none_negative, run, is_session, session_kept, session_said, sound_said}
use Rattle.ledger.proofs.Keeping.{said-kept, said-none, none-unsound, enough-of}

-- ---- from a session to its numbers and back

none_below : (n : ℕ) → lt_z (pos n) (pos 0) ≡ false
none_below n = le-ltb n 0 (omega arith)

counts : (ns : List ℕ) → none_negative (map pos ns) ≡ true
counts [] = refl
counts (n ∷ ns) = rw (none_below n) (counts ns)

numbers-are : (s : Session) (rest : List ℤ) → is_session (numbers_of s ++ rest) ≡ true
numbers-are s rest =
    let h = s.header in
    let p = s.profile in
    enough-of (numbers_of s ++ rest) (omega (arith, length-append (numbers_of s) rest))
    ∙ and_both (counts (h.level ∷ h.system ∷ h.zone ∷ h.ground ∷ h.vertical ∷ []))
    (and_both
    (counts
    (h.accuracy ∷ h.xstep ∷ h.ystep ∷ h.zstep ∷ h.profiles ∷ s.taken ∷ s.closed ∷ s.posts ∷ s.filled ∷ []))
    (and_both (counts (s.column ∷ s.finished ∷ p.posts ∷ p.row ∷ [])) (and_both (counts (p.read ∷ p.filled ∷ [])) (counts (s.family ∷ [])))))

-- every session, whatever stands behind its numbers
pub said-back : (s : Session) (rest : List ℤ) → session_said (numbers_of s ++ rest) ≡ s
said-back s rest = said-kept (numbers_of s ++ rest) (numbers-are s rest)

-- ---- from numbers to their session and back

-- so many numbers from one on, one by one
one_by_one : (l : List ℤ) (a k : ℕ) → a + k ≤ length l → map (kept_at l) (from a k) ++ drop (a + k) l ≡ drop a l
one_by_one l a zero le = ap (λ (n : ℕ). drop n l) (add-zero a)
one_by_one l a (suc k) le =
    let e : a + suc k ≡ suc a + k = omega arith in
    ap (λ (rest : List ℤ). kept_at l a ∷ rest)
    (ap (λ (n : ℕ). map (kept_at l) (from (suc a) k) ++ drop n l) e ∙ one_by_one l (suc a) k (omega (arith, le, e)))
    ∙ sym (drop-cons l a (pos 0) (omega (arith, le)))

count-back : (z : ℤ) → lt_z z (pos 0) ≡ false → pos (not_negative z) ≡ z
count-back (pos n) e = refl
count-back (negsuc n) e = clash e

counts-back : (l : List ℤ) → none_negative l ≡ true → map (λ (z : ℤ). pos (not_negative z)) l ≡ l
counts-back [] t = refl
counts-back (z ∷ zs) t =
    by-test (lt_z z (pos 0)) (λ e. clash (sym (rw e at t)))
    (λ e. λ j. count-back z e j ∷ counts-back zs (rw e at t) j)

-- numbers that say a sound session are its numbers, and what stands behind them
module _ (numbers : List ℤ) (t : is_session numbers ≡ true) where
  many : session_numbers ≤ length numbers
  unfolding is_session
  many = leb-true session_numbers (length numbers) (split (leb session_numbers (length numbers)) _ t).0

  -- number by number
  abbrev n : ℕ → ℤ
  n = kept_at numbers

  abbrev spread : List ℤ
  spread = map n (from 0 session_numbers) ++ drop session_numbers numbers

  same : spread ≡ numbers
  same = one_by_one numbers 0 session_numbers many

  parts : (none_negative (run 0 5 spread) ≡ true) × ((none_negative (run 15 9 spread) ≡ true) × ((none_negative (run 26 4 spread) ≡ true) × ((none_negative (run 33 2 spread) ≡ true) × (none_negative (run 38 1 spread) ≡ true))))
  parts =
      let all = sym (enough-of numbers many) ∙ t in
      let a = split (none_negative (run 0 5 numbers)) _ all in
      let b = split (none_negative (run 15 9 numbers)) _ a.1 in
      let d = split (none_negative (run 26 4 numbers)) _ b.1 in
      let e = split (none_negative (run 33 2 numbers)) _ d.1 in (
        ap (λ (l : List ℤ). none_negative (run 0 5 l)) same ∙ a.0,
        (
          ap (λ (l : List ℤ). none_negative (run 15 9 l)) same ∙ b.0,
          (
            ap (λ (l : List ℤ). none_negative (run 26 4 l)) same ∙ d.0,
            (ap (λ (l : List ℤ). none_negative (run 33 2 l)) same ∙ e.0, ap (λ (l : List ℤ). none_negative (run 38 1 l)) same ∙ e.1),
          ),
        ),
      )

  kept_back : kept (session_kept numbers) numbers ≡ numbers
  kept_back =
      (λ j.
      counts-back (run 0 5 spread) parts.0 j
      ++ (n 5 ∷ n 6 ∷ n 7 ∷ n 8 ∷ n 9 ∷ n 10 ∷ n 11 ∷ n 12 ∷ n 13 ∷ n 14
      ∷ (counts-back (run 15 9 spread) parts.1.0 j
      ++ (n 24 ∷ n 25
      ∷ (counts-back (run 26 4 spread) parts.1.1.0 j
      ++ (n 30 ∷ n 31 ∷ n 32 ∷ (counts-back (run 33 2 spread) parts.1.1.1.0 j
      ++ (n 35 ∷ n 36 ∷ n 37 ∷ (counts-back (run 38 1 spread) parts.1.1.1.1 j ++ drop session_numbers numbers)))))))))
      ∙ same

pub numbers-back : (numbers : List ℤ) → sound_said numbers ≡ true → kept (session_said numbers) numbers ≡ numbers
numbers-back numbers s =
    by-test (is_session numbers) (λ t. ap (λ (x : Session). kept x numbers) (said-kept numbers t) ∙ kept_back numbers t)
    (λ t. clash (sym s ∙ ap sound (said-none numbers t) ∙ none-unsound))
