-- `encode_run`: a block a turn, and then all that are left.
use Rattle.std.proofs.Common.{◌≡◌, ◌%◌}
use Rattle.vertices.specs.Half.{f32_to_f16}
use Rattle.vertices.proofs.RunLoops.{Converting}
use Rattle.vertices.proofs.runs.encode_run.Given as goal

abbrev pub invariant-loop-first : goal.invariant-loop-first
invariant-loop-first l = (l.first % 64 ≡ 0) × Converting 4 2 f32_to_f16 l.src l.initial.dst 0 l.n l.dst l.first
