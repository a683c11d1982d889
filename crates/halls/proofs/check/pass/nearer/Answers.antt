-- The tests are the definition's.
use Rattle.std.proofs.Common.{rules, tests}
use Rattle.halls.specs.Inner.Seeking.{nearer_mark}
use Rattle.halls.proofs.check.pass.nearer.Goals as goal

pub returns-then-sought-b : goal.returns-then-sought-b
unfolding nearer_mark
returns-then-sought-b c = search (rules, tests)

pub returns : goal.returns
unfolding nearer_mark
returns c = search (rules, tests)
