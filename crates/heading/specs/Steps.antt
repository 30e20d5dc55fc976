-- The test of one number of a header: contracts of private functions.
use Rattle.std.specs.Prelude.{Bool, ℕ}
use Rattle.field.specs.Field.{in_range}
use Rattle.frame.specs.declared.Header.{Header}
use Rattle.heading.specs.declared.Name.{Name as declared-Name}
use Rattle.heading.specs.Heading.{named, family_limits}

-- a number of the header stands in the limits that its name has in a sheet of the family
abbrev pub stands_by : ℕ → declared-Name → Header → ℕ → Bool
stands_by family name h v = in_range (family_limits family (named name) h.system h.vertical) v
