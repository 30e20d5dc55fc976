-- Two grids of one template whose blocks are the same are the same sheet: either, read back, gives the cells of the other.
use mathlib.Core.List.{List}
use mathlib.Core.Path.{◌≡◌, sym, ◌∙◌, ap}
use Prim.Native.Nat.{ℕ, ◌<◌, ◌≤◌}
use native.Mathlib.Omega.{arith}
use lib.IntN.{ℤ}
use lib.Dec.{leb}
use lib.ListN.{length}
use mathlib.Core.Bool.{true}
use borrow.Author.Tests.{leb-true, leb-false}
use Rattle.laws.proofs.Tests.{by-test}
use Rattle.laws.proofs.Lists.{map_same}
use Rattle.frame.specs.Frame.{columns_of, rows_of, cells_of}
use Rattle.frame.specs.declared.Header.{Header}
use Rattle.heading.specs.Heading.{header_of}
use Rattle.session.specs.Session.{complete}
use Rattle.delivery.specs.declared.Answer.TheVariants.{Taken}
use Rattle.meaning.proofs.Desks.{Desk, at_first, answered, after_all}
use Rattle.written.specs.Cells.{column_cells, first_row, cells_sent, block_count}
use Rattle.written.specs.Blocks.{block_sent}
use Rattle.written.proofs.SheetSent.{start-from}
use Rattle.returns.specs.Writers.{CanBeSent}
use Rattle.returns.specs.Header.{header_sent}
use Rattle.returns.proofs.Accepted.{all-cells}
use Rattle.returns.proofs.Following.{Follows, start_by}
use Rattle.returns.proofs.SentFollows.{start_is, follows}
use Rattle.returns.proofs.InOrder.{delivery, in_order}
use Rattle.returns.proofs.InOrder as Order
use Rattle.returns.proofs.ShutOutWriters.{none-when-complete}

module _ (template : List ℕ) where
  abbrev h : Header
  h = header_of template

  abbrev count : List ℤ → ℕ
  count g = block_count h g

  -- each block that both have is the same
  abbrev pub SameBlocks : List ℤ → List ℤ → Type 0
  SameBlocks g g' = (b : ℕ) → b < count g → b < count g' → block_sent template h g b ≡ block_sent template h g' b

  abbrev pub desk_of : List ℤ → List ℤ → ℕ → Desk
  desk_of lent g k = after_all (at_first 0 lent) (in_order (block_sent template h g) k)

  pub desks-alike : (lent g g' : List ℤ) → SameBlocks g g' → (k : ℕ) → k ≤ count g → k ≤ count g' → desk_of lent g k ≡ desk_of lent g' k
  desks-alike lent g g' same k le le' =
      ap (after_all (at_first 0 lent))
      (map_same (delivery (block_sent template h g)) (delivery (block_sent template h g')) 0 k
      (λ b p q. ap (λ (l : List ℕ). record { number = b; bytes = l }) (same b (omega (arith, q, le)) (omega (arith, q, le')))))

  module _ (g : List ℤ) (can : CanBeSent template g) (lent : List ℤ) (room : cells_of h ≤ length lent) where
    count-is : start_by (cells_sent h g) (columns_of h) ≡ count g
    count-is = start_is template h g can.sheet can.room (all-cells template g can) (columns_of h)

    layout : Follows (block_sent template h g) (cells_sent h g) (λ c. first_row (column_cells h g c)) (header_sent h g)
    layout = follows template h g can.sheet can.room (all-cells template g can)

    completes : complete (desk_of lent g (count g)).session ≡ true
    completes =
        ap (λ (k : ℕ). complete (desk_of lent g k).session) (sym count-is)
        ∙ Order.completes (block_sent template h g) (cells_sent h g) (λ c. first_row (column_cells h g c)) (header_sent h g) layout lent room

    taken : (k : ℕ) → k < count g → answered (desk_of lent g k) (delivery (block_sent template h g) k) ≡ Taken
    taken k lt =
        Order.each-taken (block_sent template h g) (cells_sent h g) (λ c. first_row (column_cells h g c)) (header_sent h g) layout lent room k
        (omega (arith, lt, count-is))

  -- neither has a block more: the sheet would be complete before it
  not_more : (g g' : List ℤ) → CanBeSent template g → CanBeSent template g' → SameBlocks g g' → count g < count g' → ⊥
  not_more g g' can can' same lt =
      let k = count g in
      let done : complete (desk_of g g' k).session ≡ true
      = ap (λ (x : Desk). complete x.session) (sym (desks-alike g g g' same k (omega arith) (omega (arith, lt))))
      ∙ completes g can g can.room in
      none-when-complete (desk_of g g' k) (delivery (block_sent template h g') k)
      (omega (arith, start-from (rows_of h) g (columns_of h))) done
      (taken g' can' g can.room k lt)

  pub as_many : (g g' : List ℤ) → CanBeSent template g → CanBeSent template g' → SameBlocks g g' → count g ≡ count g'
  as_many g g' can can' same =
      let a = not_more g g' can can' same in
      let b = not_more g' g can' can (λ n p q. sym (same n q p)) in
      by-test (leb (count g) (count g'))
      (λ t.
      by-test (leb (count g') (count g))
      (λ u. omega (arith, leb-true (count g) (count g') t, leb-true (count g') (count g) u))
      (λ u. absurd (a (leb-false (count g') (count g) u))))
      (λ t. absurd (b (leb-false (count g) (count g') t)))
