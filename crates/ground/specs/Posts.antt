-- Document 01, "Record B": posts, the heights they stand for, and what heights come to.
use Rattle.std.specs.Prelude.{ℤ, negsuc, nat_abs, pos, ◌+ℤ◌, ◌*ℤ◌, cond, leb, eqb, List, [], ◌∷◌, map, ℕ, zero, suc, ◌+◌, ◌-◌, ◌/◌, ◌≤◌, ◌*◌}
use Rattle.laws.specs.Sign.{same_z, lesser, greater}
use Rattle.number.specs.declared.Reading.{Reading}
use Rattle.number.specs.Integer.{refused, integer}
use Rattle.field.specs.Field.{fault_or, stretch, fault, rest_fault}
use Rattle.field.specs.declared.Fault.{Fault}
use Rattle.ground.specs.declared.Tally.{Tally}

-- "The value -2,147,483,648 marks a void cell."
abbrev pub void : ℤ
void = negsuc 2147483647

-- "The post -32767 is void"
abbrev pub void_post : ℤ
void_post = negsuc 32766

-- "Posts run -32767 to 32767 (7)."
abbrev pub judge_post : Reading → Reading
judge_post r = cond (eqb r.kind 0) (cond (leb (nat_abs r.value) 32767) r (refused 7)) r

-- n posts of six bytes, one behind the other from a byte counted from 1: the first fault, and their values
abbrev pub posts_fault : ℕ → ℕ → List ℕ → Fault
posts_fault zero byte block = fault 0 0
posts_fault (suc n) byte block = fault_or (judge_post (integer (stretch byte 6 block))) byte (posts_fault n (byte + 6) block)

abbrev pub posts_of : ℕ → ℕ → List ℕ → List ℤ
posts_of zero byte block = []
posts_of (suc n) byte block = (integer (stretch byte 6 block)).value ∷ posts_of n (byte + 6) block

-- "up to 146" posts in a profile's first block, "up to 170" in each further one, a block full before the next one starts
abbrev pub blocks_for : ℕ → ℕ
blocks_for posts = 1 + (posts - 146 + 169) / 170

-- the void is told by the post itself, before scaling; another post times the z spacing, plus the datum, all in hundredths
abbrev pub height : ℕ → ℤ → ℤ → ℤ
height z datum post = cond (same_z post void_post) void ((post *ℤ pos z) +ℤ datum)

abbrev pub heights : ℕ → ℤ → List ℤ → List ℤ
heights z datum posts = map (height z datum) posts

-- how many heights are filled, with their least and greatest; zeros while none is
abbrev pub no_tally : Tally
no_tally = record { filled = 0; low = pos 0; high = pos 0 }

abbrev pub tally_one : Tally → ℤ → Tally
tally_one t h =
    cond (same_z h void) t
    (record {
      filled = t.filled + 1;
      low = cond (eqb t.filled 0) h (lesser t.low h);
      high = cond (eqb t.filled 0) h (greater t.high h);
    })

abbrev pub tally_all : Tally → List ℤ → Tally
tally_all t [] = t
tally_all t (h ∷ hs) = tally_all (tally_one t h) hs

-- how many heights are filled
abbrev pub filled_in : List ℤ → ℕ
filled_in [] = 0
filled_in (h ∷ hs) = cond (same_z h void) 0 1 + filled_in hs

-- what a post that passed its rule is scaled by: a z spacing and datum that 01 allows
pub record Scaled (z : ℕ) (datum post : ℤ) : Type 0 where
  pub post-most : nat_abs post ≤ 32767
  pub z-most : z ≤ 100
  pub datum-most : nat_abs datum ≤ 1000000

-- two tallies, one behind the other
abbrev pub merged : Tally → Tally → Tally
merged t u =
    cond (eqb u.filled 0) t
    (record {
      filled = t.filled + u.filled;
      low = cond (eqb t.filled 0) u.low (lesser t.low u.low);
      high = cond (eqb t.filled 0) u.high (greater t.high u.high);
    })

-- "first fault by byte": the posts, then the rest of the block as one blank stretch
abbrev pub posts_rest_fault : ℕ → ℕ → List ℕ → Fault
posts_rest_fault byte n block =
    cond (eqb (posts_fault n byte block).kind 0) (rest_fault (byte + 6 * n) block) (posts_fault n byte block)
