-- One word a turn.
use Prim.Native.Nat.{ℕ, ◌*◌}
use Rattle.vertices.specs.Inner.Lanes.{lane_bytes, WordsWritten}
use Rattle.vertices.proofs.strips.strip_of.Given as goal

abbrev pub invariant-loop-i : goal.invariant-loop-i
invariant-loop-i g l = WordsWritten (λ (k : ℕ). lane_bytes l.fn.lane l.vertices.«data».now (k * l.vertices.stride)) l.strip.block.first l.i l.strip.word l.initial.out l.out
