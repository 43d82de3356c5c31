-- `floors::floored_as` meets its contract. Assumes nothing.
use Rattle.extents.proofs.floors.floored_as.Goals as goal

pub returns-in-Found : goal.returns-in-Found
returns-in-Found c = rw (c.in-Found.is, c.record_of.ensures)

pub returns-in-Refused : goal.returns-in-Refused
returns-in-Refused c = rw c.in-Refused.is
