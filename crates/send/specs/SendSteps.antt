-- How the writer takes its work apart: contracts of private functions. The public promises cite written's definitions alone.
use Rattle.std.specs.Prelude.{true, List, ℕ, ◌≤◌, ◌<◌, ℤ, length, ◌≡◌}
use Rattle.frame.specs.declared.Header.{Header}
use Rattle.frame.specs.Frame.{cells_of, z_of, columns_of}
use Rattle.heading.specs.Heading.{header_obeys}
use Rattle.ground.specs.Posts.{blocks_for}
use Rattle.written.specs.Cells.{sendable, column_cells, first_row, cells_sent}
use Rattle.written.specs.Blocks.{sheet_cells}

-- a sheet that can be sent: its header keeps record A's rules, the grid has its cells, each can be sent
pub record SendableSheet (h : Header) (grid : List ℤ) : Type 0 where
  pub obeys : header_obeys h ≡ true
  pub room : cells_of h ≤ length grid
  pub all : sendable (z_of h) (sheet_cells h grid) ≡ cells_of h

-- block k of a column's profile, whose row and posts have been looked up
pub record ProfileAsked (h : Header) (grid : List ℤ) (column row posts k : ℕ) (block : List ℕ) : Type 0 where
  pub sheet : SendableSheet h grid
  pub inside : column < columns_of h
  pub row_is : row ≡ first_row (column_cells h grid column)
  pub posts-are : posts ≡ length (cells_sent h grid column)
  pub within : k < blocks_for posts
  pub long : length block ≡ 1024

-- block 0
pub record ZeroAsked (template : List ℕ) (h : Header) (grid : List ℤ) (block : List ℕ) : Type 0 where
  pub sheet : SendableSheet h grid
  pub template-long : length template ≡ 1024
  pub long : length block ≡ 1024
