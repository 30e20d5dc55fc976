-- The verdict on a block's posts, and on them with what remains of it, is the first broken rule of its list, or good where all are kept.
use mathlib.Core.Bool.{true, cond}
use mathlib.Core.List.{List, [], ◌++◌, append-nil}
use mathlib.Core.Logic.{◌↔◌}
use mathlib.Core.Path.{◌≡◌, refl, ◌∙◌, sym, ap}
use Prim.Native.Nat.{ℕ, zero, suc, ◌+◌, ◌*◌, ◌≤◌}
use lib.Dec.{eqb, leb}
use lib.IntN.{nat_abs}
use lib.ListN.{length}
use native.Mathlib.Omega.{arith}
use Rattle.laws.proofs.Tests.{by-test}
use Rattle.laws.proofs.Tables.{all}
use Rattle.number.specs.Integer.{integer}
use Rattle.field.specs.declared.Fault.{Fault}
use Rattle.field.specs.Field.{fault, fault_or, stretch, rest_fault}
use Rattle.field.specs.Rules.{Clause, KeepsAll, FirstBroken, Pointed, integer_forms, blank_rules}
use Rattle.field.proofs.Rules.{broken_or, named, first-append, fault-first, fault-exactly}
use Rattle.field.proofs.FieldRules.{Says, own-says, form-says}
use Rattle.field.proofs.Points.{Forms, fault-pointed}
use Rattle.field.proofs.Points.Forms.{none, other, integers}
use Rattle.ground.specs.Posts.{judge_post, posts_fault, posts_rest_fault}
use Rattle.ground.specs.RulesPosts.{post_rules, rules_posts, rules_block}

posts-named : (n byte : ℕ) (cs : List Clause) → all named cs ≡ true → all named (rules_posts n byte ++ cs) ≡ true
posts-named zero byte cs t = t
posts-named (suc n) byte cs t = posts-named n (byte + 6) cs t

block-forms : (n byte rest : ℕ) → Forms (rules_posts n byte ++ blank_rules rest)
block-forms zero byte rest = other refl none
block-forms (suc n) byte rest = integers byte 6 (other refl (block-forms n (byte + 6) rest))

module _ (block : List ℕ) (h : length block ≡ 1024) where
  post-says : (byte : ℕ) → byte + 5 ≤ 1024 → Says block byte (post_rules byte) (judge_post (integer (stretch byte 6 block)))
  post-says byte i =
      own-says block byte (integer_forms byte 6) (integer (stretch byte 6 block))
      (form-says block byte 6 h (omega arith) (omega arith) (omega arith)) 7
      (λ b. leb (nat_abs (integer (stretch byte 6 b)).value) 32767) refl 7 refl

  -- f stands for what the rules after the posts say
  posts-say : (n byte : ℕ) → byte + 6 * n ≤ 1025 → (f : Fault)
      → broken_or block (rules_posts n byte) f ≡ cond (eqb (posts_fault n byte block).kind 0) f (posts_fault n byte block)
  posts-say zero byte i f = refl
  posts-say (suc n) byte i f =
      let p = judge_post (integer (stretch byte 6 block)) in
      first-append block (post_rules byte) (rules_posts n (byte + 6)) f
      ∙ post-says byte (omega arith) _
      ∙ by-test (eqb p.kind 0) (λ e. rw e (posts-say n (byte + 6) (omega arith) f)) (λ e. simp e)

  -- .. and where none stand after them
  posts-are : (n byte : ℕ) → byte + 6 * n ≤ 1025 → posts_fault n byte block ≡ broken_or block (rules_posts n byte) (fault 0 0)
  posts-are zero byte i = refl
  posts-are (suc n) byte i =
      let p = judge_post (integer (stretch byte 6 block)) in
      sym
      (first-append block (post_rules byte) (rules_posts n (byte + 6)) (fault 0 0)
      ∙ post-says byte (omega arith) _
      ∙ ap (λ (g : Fault). fault_or p byte g) (sym (posts-are n (byte + 6) (omega arith))))

  -- n posts that stand inside the block
  module _ (n byte : ℕ) (i : byte + 6 * n ≤ 1025) where
    plain-named : all named (rules_posts n byte) ≡ true
    plain-named = rw append-nil at (posts-named n byte [] refl)

    pub posts-exactly : ((posts_fault n byte block).kind ≡ 0) ↔ KeepsAll block (rules_posts n byte)
    posts-exactly = fault-exactly block (rules_posts n byte) (posts_fault n byte block) (posts-are n byte i) plain-named

    pub posts-first : (c : Clause) → FirstBroken block c (rules_posts n byte) → posts_fault n byte block ≡ fault c.kind (c.byte block)
    posts-first = fault-first block (rules_posts n byte) (posts_fault n byte block) (posts-are n byte i) plain-named

    -- .. and the blanks behind them
    block-is : posts_rest_fault byte n block ≡ broken_or block (rules_block byte n) (fault 0 0)
    block-is =
        sym
        (first-append block (rules_posts n byte) (blank_rules (byte + 6 * n)) (fault 0 0)
        ∙ posts-say n byte i (rest_fault (byte + 6 * n) block))

    block-named : all named (rules_block byte n) ≡ true
    block-named = posts-named n byte (blank_rules (byte + 6 * n)) refl

    pub block-exactly : ((posts_rest_fault byte n block).kind ≡ 0) ↔ KeepsAll block (rules_block byte n)
    block-exactly = fault-exactly block (rules_block byte n) (posts_rest_fault byte n block) block-is block-named

    pub block-first : (c : Clause) → FirstBroken block c (rules_block byte n) → posts_rest_fault byte n block ≡ fault c.kind (c.byte block)
    block-first = fault-first block (rules_block byte n) (posts_rest_fault byte n block) block-is block-named

    -- 02, request 6: wrong form at the very byte of its post
    pub block-pointed : (posts_rest_fault byte n block).kind ≡ 6 → Pointed block (rules_block byte n) (posts_rest_fault byte n block).byte
    block-pointed = fault-pointed (block-forms n byte (byte + 6 * n)) (posts_rest_fault byte n block) block-is
