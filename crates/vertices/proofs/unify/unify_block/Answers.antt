-- One lane a turn.
use Rattle.vertices.proofs.LaneBlocks.{Block-turn, LaneReady_lem}
use Rattle.vertices.proofs.unify.unify_block.Goals as goal

pub write_strip-requires : goal.write_strip-requires
write_strip-requires c = rw c.lane_of.ensures (LaneReady_lem c.loop-word.invariant c.loop-word-test.true c.requires)

pub loop-word-preserved : goal.loop-word-preserved
loop-word-preserved c = Block-turn c.loop-word.invariant c.loop-word-test.true (rw c.lane_of.ensures at c.write_strip.ensures)
