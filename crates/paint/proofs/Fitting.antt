-- Where every number fits its field, a painted block is the text of its fields: nothing is left of what it held.
use mathlib.Core.Bool.{true}
use mathlib.Core.List.{List, [], ◌∷◌, ◌++◌, append_assoc}
use Prim.Native.Nat.{ℕ, ◌-◌, ◌≤◌}
use mathlib.Core.Path.{◌≡◌, refl, ◌∙◌, ap₂, ap}
use lib.ListN.{length, length-append, drop, replicate, length-drop}
use lib.Seq.{take_at}
use native.Mathlib.Omega.{arith}
use borrow.Author.Tests.{le-leb}
use lib.IntN.{ℤ, pos}
use Rattle.laws.proofs.Tables.{all}
use Rattle.laws.proofs.Tests.{and_both}
use Rattle.spell.specs.Spell.{real_fits, integer_text, real_text}
use Rattle.written.specs.Blocks.{filled_up, posts_text}
use Rattle.written.specs.Cells.{post_of}
use Rattle.written.specs.Painted.{Field, widths}
use Rattle.written.proofs.PostsSent.{AllSent, first-sent, post-fits}
use Rattle.written.proofs.PiecesSent.{small-fits, zero-fits}
use Rattle.written.proofs.PaintedFits.{field_fits, text_of, texts-length, painted-fits}
use Rattle.paint.specs.Fields.{blank_from, filled, post_fields, count_fields, real_fields, first_after, further_after}
use Rattle.paint.proofs.FieldLaws.{posts-wide}

filled-fits : (fs : List Field) (block : List ℕ) → all field_fits fs ≡ true → widths fs ≤ 1024 → length block ≡ 1024
    → filled fs block ≡ filled_up (text_of fs)
filled-fits fs block t room long =
    let n = widths fs in
    let rest = drop n block in
    let many = texts-length fs t in
    let left : length (text_of fs ++ rest) - n ≡ 1024 - length (text_of fs) =
    omega (arith, length-append (text_of fs) rest, length-drop n block, many, room, long) in
    rw (le-leb n (length block) (omega (arith, room, long)))
    (ap (blank_from n) (painted-fits fs block t)
    ∙ ap₂ (λ (l : List ℕ) (k : ℕ). l ++ replicate k 32) (take_at (text_of fs) rest n many) left)

posts-fit : (z : ℕ) (cells : List ℤ) → AllSent z cells → all field_fits (post_fields z cells) ≡ true
posts-fit z [] h = refl
posts-fit z (c ∷ cs) h =
    let f = first-sent z c cs h in
    and_both (post-fits z c f.0) (posts-fit z cs f.1)

posts-text : (z : ℕ) (cells : List ℤ) → text_of (post_fields z cells) ≡ posts_text z cells
unfolding posts_text
posts-text z [] = refl
posts-text z (c ∷ cs) = ap (λ (l : List ℕ). integer_text 6 (post_of z c) ++ l) (posts-text z cs)

-- by plain numbers; what the sheet's header and grid give for them stands in crate `written`
abbrev head_by : ℕ → ℕ → ℤ → ℤ → ℤ → ℤ → List ℕ
head_by number posts x y least greatest =
    integer_text 6 (pos 1)
    ++ (integer_text 6 (pos number)
    ++ (integer_text 6 (pos posts)
    ++ (integer_text 6 (pos 1)
    ++ (real_text 15 68 24 x
    ++ (real_text 15 68 24 y ++ (real_text 15 68 24 (pos 0) ++ (real_text 15 68 24 least ++ real_text 15 68 24 greatest)))))))

unfoldable pub first_by : ℕ → ℕ → ℤ → ℤ → ℤ → ℤ → ℕ → List ℤ → List ℕ
first_by number posts x y least greatest z cells = filled_up (head_by number posts x y least greatest ++ posts_text z cells)

unfoldable pub further_by : ℕ → List ℤ → List ℕ
further_by z cells = filled_up (posts_text z cells)

pub record FirstFits (number posts : ℕ) (x y least greatest : ℤ) (z : ℕ) (cells : List ℤ) (block : List ℕ) : Type 0 where
  pub number-most : number ≤ 2048
  pub posts-most : posts ≤ 2048
  pub x_fits : real_fits 15 24 x ≡ true
  pub y-fits : real_fits 15 24 y ≡ true
  pub least_fits : real_fits 15 24 least ≡ true
  pub greatest-fits : real_fits 15 24 greatest ≡ true
  pub sent : AllSent z cells
  pub cells-most : length cells ≤ 146
  pub long : length block ≡ 1024

pub first-whole : {number posts : ℕ} {x y least greatest : ℤ} {z : ℕ} {cells : List ℤ} {block written : List ℕ}
    → written ≡ first_after number posts x y least greatest z cells block → FirstFits number posts x y least greatest z cells block
    → written ≡ first_by number posts x y least greatest z cells
unfolding first_after first_by
first-whole {number} {posts} {x} {y} {least} {greatest} {z} {cells} {block} e a =
    let one = small-fits 1 (omega arith) in
    let fits =
    and_both one
    (and_both (small-fits number (omega (arith, a.number-most)))
    (and_both (small-fits posts (omega (arith, a.posts-most)))
    (and_both one
    (and_both a.x_fits
    (and_both a.y-fits (and_both zero-fits (and_both a.least_fits (and_both a.greatest-fits (posts-fit z cells a.sent))))))))) in
    let fields = count_fields number posts ++ (real_fields x y least greatest ++ post_fields z cells) in
    let is : text_of fields ≡ head_by number posts x y least greatest ++ posts_text z cells = simp (append_assoc, posts-text z cells) in
    e ∙ filled-fits fields block fits (omega (arith, posts-wide z cells, a.cells-most)) a.long ∙ ap filled_up is

pub further-whole : (z : ℕ) (cells : List ℤ) (block : List ℕ) {written : List ℕ} → written ≡ further_after z cells block → AllSent z cells
    → length cells ≤ 170 → length block ≡ 1024 → written ≡ further_by z cells
unfolding further_after further_by
further-whole z cells block e sent most long =
    e
    ∙ filled-fits (post_fields z cells) block (posts-fit z cells sent) (omega (arith, posts-wide z cells, most)) long
    ∙ ap filled_up (posts-text z cells)
