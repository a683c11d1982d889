-- The tests, one after the other.
use Rattle.std.proofs.Common.{rules, tests}
use Rattle.halls.proofs.check.JudgingLaws.{Indices-tested}
use Rattle.halls.proofs.check.geometry.index_counts_agree.Goals as goal

pub returns-then-held-head : goal.returns-then-held-head
returns-then-held-head c = Indices-tested _ (search (rules, tests))

pub returns-else-held-head : goal.returns-else-held-head
returns-else-held-head c = Indices-tested _ (search (rules, tests))
