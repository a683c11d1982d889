-- Range, length and kind, in the definition's order.
use Rattle.std.proofs.Common.{rules, tests}
use Rattle.halls.specs.Inner.Judging.{has_record}
use Rattle.halls.proofs.format.front.has_record.Goals as goal

pub returns-then-u32_le-n : goal.returns-then-u32_le-n
unfolding has_record
returns-then-u32_le-n c = search (rules, tests)

pub returns-else-u32_le-n : goal.returns-else-u32_le-n
unfolding has_record
returns-else-u32_le-n c = search (rules, tests)
