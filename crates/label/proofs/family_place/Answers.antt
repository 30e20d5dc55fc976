-- Each family's table has the codes of its list.
use Rattle.label.proofs.family_place.Goals as goal

pub returns-in-1 : goal.returns-in-1
returns-in-1 c = rw c.in-1.is c.place.ensures

pub returns-in-0 : goal.returns-in-0
returns-in-0 c = rw c.in-0.is c.place-in-0.ensures
