-- Document 01's kinds of a refusal, by name and by number; 15 is 02's, request 2.
use Rattle.std.specs.Prelude.{ℕ}
use Rattle.kinds.specs.declared.Kind.{Kind}
use Rattle.kinds.specs.declared.Kind.TheVariants.{Length, Unsound, Early, Complete, Stretch, Form, Range, Fine, Value, Place, Extreme, Room, Cell, Number, Corner}

abbrev pub number_of : Kind → ℕ
-- a block, a field or a buffer of another length
number_of Length = 1
-- a session that is not sound, or a family that there is none of
number_of Unsound = 2
-- a block whose turn has not come
number_of Early = 3
-- a block behind a complete sheet
number_of Complete = 4
-- a text or a blank stretch
number_of Stretch = 5
-- the form of a number field
number_of Form = 6
-- a number out of its range
number_of Range = 7
-- a real with more digits than are kept
number_of Fine = 8
-- a number that the paper allows no field to say there
number_of Value = 9
-- a place on the lattice, or a rule over the whole record
number_of Place = 10
-- a stated extreme
number_of Extreme = 11
-- a grid that is too short
number_of Room = 12
-- a cell that no post says
number_of Cell = 13
-- a number that the sheet has no block for
number_of Number = 14
-- a corner that the text says otherwise
number_of Corner = 15
