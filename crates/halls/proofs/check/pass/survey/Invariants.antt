-- Each turn keeps what the walk knows and which place is nearest, and its ends say what the whole list comes to.
use Prim.Native.Nat.{◌-◌}
use lib.ListN.{length}
use Rattle.halls.specs.Inner.Seeking.{Near}
use Rattle.halls.specs.Inner.Walk.{Walked}
use Rattle.halls.proofs.check.pass.survey.Given as goal

abbrev pub invariant-loop-t : goal.invariant-loop-t
invariant-loop-t l = Walked l.list l.t × Near l.list l.sought.model l.sought.index l.t.summary.models l.nearest

abbrev pub decreases-loop-t : goal.decreases-loop-t
decreases-loop-t l = length l.list - l.t.at
