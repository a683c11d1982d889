-- The numbers passed stand in the bytes, one more a turn.
use Prim.Native.Nat.{◌-◌}
use lib.ListN.{length}
use Rattle.halls.proofs.format.WordLaws.{Putting}
use Rattle.halls.proofs.format.record_indices.RefSliceU32RecordIndices.put_items.Given as goal

abbrev pub invariant-loop-i : goal.invariant-loop-i
invariant-loop-i l = Putting l.self.now l.initial.out l.at l.out l.i

abbrev pub decreases-loop-i : goal.decreases-loop-i
decreases-loop-i l = length l.self.now - l.i
