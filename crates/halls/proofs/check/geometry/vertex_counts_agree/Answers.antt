-- The tests, one after the other.
use Rattle.std.proofs.Common.{rules, tests}
use Rattle.halls.proofs.check.JudgingLaws.{Vertices-tested}
use Rattle.halls.proofs.check.geometry.vertex_counts_agree.Goals as goal

pub returns-then-count-ge1 : goal.returns-then-count-ge1
returns-then-count-ge1 c = Vertices-tested _ (search (rules, tests))

pub returns-else-count-ge1 : goal.returns-else-count-ge1
returns-else-count-ge1 c = Vertices-tested _ (search (rules, tests))
