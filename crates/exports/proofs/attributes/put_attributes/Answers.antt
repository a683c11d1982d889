-- The records left, put behind those that stand, make the whole.
use Rattle.exports.proofs.AttributeRecords.{recording_start, recording_turn, recording_end}
use Rattle.exports.proofs.attributes.put_attributes.Goals as goal

pub loop-i-init : goal.loop-i-init
loop-i-init c = rw (c.into_iter-i-iterator.ensures.into_iter_gives, c.enumerate-i-items.ensures.source, c.enumerate-i-items.ensures.count) (recording_start _ _ c.requires)

pub loop-i-preserved : goal.loop-i-preserved
loop-i-preserved c = let s = c.in-Some.ensures.steps in rw s.2 (recording_turn c.loop-i.invariant s.0 (rw s.1 at c.put_attribute.ensures))

pub returns : goal.returns
returns c = recording_end c.loop-i.invariant c.in-None.ensures.steps.0.0
