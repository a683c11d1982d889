-- One block a turn, begun as a copy of the first.
use Rattle.vertices.proofs.LaneBlocks.{VerticesWritten}
use Rattle.vertices.proofs.unify.unify_all.Given as goal

abbrev pub invariant-loop-first : goal.invariant-loop-first
invariant-loop-first l = VerticesWritten l.plan l.vertices.«data».now l.vertices.stride l.count l.initial.out l.first l.out
