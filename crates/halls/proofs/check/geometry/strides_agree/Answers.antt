-- The tests, one after the other.
use Rattle.std.proofs.Common.{rules, tests}
use Rattle.halls.proofs.check.JudgingLaws.{strides_tested}
use Rattle.halls.proofs.check.geometry.strides_agree.Goals as goal

pub returns-then-head : goal.returns-then-head
returns-then-head c = strides_tested _ (search (rules, tests))

pub returns-else-head : goal.returns-else-head
returns-else-head c = strides_tested _ (search (rules, tests))
