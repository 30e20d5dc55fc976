-- The blocks of a profile: its fields painted, the rest blanked. For any block.
use Rattle.std.specs.Prelude.{List, [], ◌∷◌, ◌++◌, map, ℕ, ◌-◌, ℤ, pos, length, take, replicate, cond, leb}
use Rattle.written.specs.Cells.{post_of}
use Rattle.written.specs.Painted.{Field, painted, widths}
use Rattle.written.specs.Painted.Field.{integer, decimal}

-- "All that remains of a block is blank"
abbrev pub blank_from : ℕ → List ℕ → List ℕ
blank_from at block = take at block ++ replicate (length block - at) 32

-- a block with no room for its fields stays as it was
abbrev pub filled : List Field → List ℕ → List ℕ
filled fs block = cond (leb (widths fs) (length block)) (blank_from (widths fs) (painted fs block)) block

-- bytes 1-24 of record B, and bytes 25-144 with "datum zero" in their middle
abbrev pub count_fields : ℕ → ℕ → List Field
count_fields number posts = integer (pos 1) ∷ integer (pos number) ∷ integer (pos posts) ∷ integer (pos 1) ∷ []

abbrev pub real_fields : ℤ → ℤ → ℤ → ℤ → List Field
real_fields x y least greatest = decimal x ∷ decimal y ∷ decimal (pos 0) ∷ decimal least ∷ decimal greatest ∷ []

abbrev pub post_field : ℕ → ℤ → Field
post_field z cell = integer (post_of z cell)

abbrev pub post_fields : ℕ → List ℤ → List Field
post_fields z cells = map (post_field z) cells

unfoldable pub first_after : ℕ → ℕ → ℤ → ℤ → ℤ → ℤ → ℕ → List ℤ → List ℕ → List ℕ
first_after number posts x y least greatest z cells block =
    filled (count_fields number posts ++ (real_fields x y least greatest ++ post_fields z cells)) block

unfoldable pub further_after : ℕ → List ℤ → List ℕ → List ℕ
further_after z cells block = filled (post_fields z cells) block
