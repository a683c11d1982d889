-- One lane a turn.
use Rattle.vertices.specs.Inner.Lanes.{BlockWritten}
use Rattle.vertices.proofs.unify.unify_block.Given as goal

abbrev pub invariant-loop-word : goal.invariant-loop-word
invariant-loop-word l = BlockWritten l.plan l.vertices.«data».now l.vertices.stride l.block.first l.block.end l.word l.initial.out l.out
