-- What a scan of a block's posts answers, and what it leaves in the scratch, for any block, place, count and scratch.
use Rattle.std.specs.Prelude.{Bool, cond, ℕ, ◌+◌, ◌*◌, zero, suc, leb, eqb, ℤ, pos, nat_abs, List, ◌++◌, length, drop, replicate, take, Result, Ok, Err}
use Rattle.std.proofs.lemmas.List.Edits.{sets}
use Rattle.laws.specs.Sign.{◌and◌}
use Rattle.number.specs.Integer.{integer}
use Rattle.field.specs.Field.{stretch}
use Rattle.ground.specs.Posts.{judge_post, posts_of, posts_rest_fault, heights, tally_all, no_tally, void}
use Rattle.ground.specs.Extremes.{filled_only, sum_of}
use Rattle.ground.specs.declared.Tally.{Tally}
use Rattle.field.specs.declared.Broken.{Broken}
use Rattle.kinds.specs.Kinds.{number_of}

-- what may be asked: n posts from a byte on, inside a block and the scratch, with a z spacing and a datum that document 01 allows
abbrev pub askable : ℕ → ℕ → ℕ → ℕ → ℤ → ℕ → Bool
askable bytes byte n z datum room =
    (eqb bytes 1024 and leb 1 byte and leb (byte + 6 * n) 1025) and leb n room and leb z 100 and leb (nat_abs datum) 1000000

-- how many posts stand before the first that is at fault
abbrev pub good_posts : ℕ → ℕ → List ℕ → ℕ
good_posts zero byte block = 0
good_posts (suc n) byte block =
    cond (eqb (judge_post (integer (stretch byte 6 block))).kind 0) (suc (good_posts n (byte + 6) block)) 0

-- the first fault of the posts and of what stands behind them (kind 0: none), and the tally of their heights
pub record Scan : Type 0 where
  pub kind : ℕ
  pub byte : ℕ
  pub tally : Tally

abbrev pub scan : ℕ → ℕ → Tally → Scan
scan kind byte tally = record { kind = kind; byte = byte; tally = tally }

-- as the code answers it
abbrev pub scan_told : Result Tally Broken → Scan
scan_told (Ok t) = scan 0 0 t
scan_told (Err b) = scan (number_of b.kind) b.byte no_tally

-- the first fault; without one the tally of the heights
abbrev pub scanned : List ℕ → ℕ → ℕ → ℕ → ℤ → Scan
scanned block byte n z datum =
    cond (eqb (posts_rest_fault byte n block).kind 0) (scan 0 0 (tally_all no_tally (heights z datum (posts_of n byte block))))
    (scan (posts_rest_fault byte n block).kind (posts_rest_fault byte n block).byte no_tally)

-- kind 1 where the scan could not be asked
abbrev pub scan_of : List ℕ → ℕ → ℕ → ℕ → ℤ → ℕ → Scan
scan_of block byte n z datum room =
    cond (askable (length block) byte n z datum room) (scanned block byte n z datum) (scan 1 0 no_tally)

-- the heights up to the first post at fault, and the rest as it was
abbrev pub heights_over : List ℕ → ℕ → ℕ → ℕ → ℤ → List ℤ → List ℤ
heights_over block byte good z datum scratch = heights z datum (posts_of good byte block) ++ drop good scratch

abbrev pub scratch_after : List ℕ → ℕ → ℕ → ℕ → ℤ → List ℤ → List ℤ
scratch_after block byte n z datum scratch =
    cond (askable (length block) byte n z datum (length scratch)) (heights_over block byte (good_posts n byte block) z datum scratch) scratch

-- the sum of the first n values, voids left out, where there are so many and no more than a block's posts; else 0
abbrev pub summed : ℕ → List ℤ → ℤ
summed n values = cond (leb n 170 and leb n (length values)) (sum_of (filled_only (take n values))) (pos 0)

-- ---- the writes to lent cells

-- the first n cells void, where there are so many
abbrev pub voided : ℕ → List ℤ → List ℤ
voided n cells = cond (leb n (length cells)) (replicate n void ++ drop n cells) cells

-- the first n values in the cells from one on, where there are so many of both
abbrev pub placed : ℕ → ℕ → List ℤ → List ℤ → List ℤ
placed at n values cells = cond (leb (at + n) (length cells) and leb n (length values)) (sets cells at (take n values)) cells
