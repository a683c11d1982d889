-- The tests are the definition's.
use Rattle.std.proofs.Common.{rules, tests}
use Rattle.halls.specs.Inner.Walk.{limits_lowest}
use Rattle.halls.proofs.check.pass.limits_lowest.Goals as goal

pub returns-then-summary-gt-MOST_MODELS : goal.returns-then-summary-gt-MOST_MODELS
unfolding limits_lowest
returns-then-summary-gt-MOST_MODELS c = search (rules, tests)

pub returns : goal.returns
unfolding limits_lowest
returns c = search (rules, tests)
