-- No set flag was passed: the components of the flags to come are those that were left.
use Rattle.std.proofs.Common.{◌-◌}
use Rattle.vertices.proofs.ComponentWalk.{Walking}
use Rattle.vertices.proofs.components.ComponentsIterator.next.Given as goal

abbrev pub invariant-loop-self : goal.invariant-loop-self
invariant-loop-self l = Walking l.fn.self l.self-inside.index l.self-inside.flags l.self-inside.types l.self-inside.offset

abbrev pub decreases-loop-self : goal.decreases-loop-self
decreases-loop-self l = 16 - l.self-inside.index
