-- The indices passed stand in the list, one more a turn.
use Rattle.std.proofs.Common.{length, ◌/◌}
use Rattle.halls.proofs.read.Widening.{Widening}
use Rattle.halls.proofs.read.widen.put_widened.Given as goal

abbrev pub invariant-loop-i : goal.invariant-loop-i
invariant-loop-i l = Widening l.raw l.initial.out l.at (length l.raw / 2) l.out l.i
