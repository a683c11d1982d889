-- The numbers passed stand in the bytes, one more a turn.
use Rattle.halls.proofs.format.WordLaws.{Putting-start, Putting-turn}
use Rattle.halls.proofs.format.record_indices.RefSliceU32RecordIndices.put_items.Goals as goal

pub loop-i-init : goal.loop-i-init
loop-i-init c = Putting-start _ _ _ c.requires

pub loop-i-preserved : goal.loop-i-preserved
loop-i-preserved c = Putting-turn c.loop-i.invariant c.loop-i-test.true c.set_u32.ensures
