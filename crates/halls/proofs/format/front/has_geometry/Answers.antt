-- The four tests are the definition's, in its order.
use Rattle.std.proofs.Common.{rules, tests}
use Rattle.halls.specs.Inner.Judging.{has_geometry}
use Rattle.halls.proofs.format.front.has_geometry.Goals as goal

pub returns-then-has_record-3 : goal.returns-then-has_record-3
unfolding has_geometry
returns-then-has_record-3 c = rw (← c.requires.content-is, ← c.requires.held-is) (search (rules, tests))

pub returns-else-has_record-3 : goal.returns-else-has_record-3
unfolding has_geometry
returns-else-has_record-3 c = rw (← c.requires.content-is, ← c.requires.held-is) (search (rules, tests))
