-- `convert_each`: what the numbers passed became stands in dst, one number a turn.
use Rattle.std.proofs.Common.{ℕ}
use Rattle.vertices.specs.Inner.Capped.{Makes}
use Rattle.vertices.proofs.RunLoops.{Converting}
use Rattle.vertices.proofs.runs.convert_each.Given as goal

abbrev pub invariant-loop-i : goal.invariant-loop-i
invariant-loop-i g l =
    (f : ℕ → ℕ) → Makes (goal.F-post g l.convert) g.S.Stored.number g.T.Stored.number f
    → Converting g.S.Stored.WIDTH g.T.Stored.WIDTH f l.src l.initial.dst l.first l.n l.dst l.i
