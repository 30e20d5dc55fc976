-- From the top down: what is left to look at has as many places.
use Rattle.std.proofs.Common.{◌≡◌}
use Rattle.laws.specs.Digits.{places}
use Rattle.numerals.proofs.places_of.Given as goal

abbrev pub invariant-loop-i : goal.invariant-loop-i
invariant-loop-i l = places l.k l.n ≡ places l.i l.n
