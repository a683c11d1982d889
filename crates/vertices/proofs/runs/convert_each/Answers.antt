-- `convert_each`: what the numbers passed became stands in dst, one number a turn.
use native.Mathlib.Omega.{arith}
use Rattle.vertices.proofs.RunLoops.{Converting-start, Converting-one}
use Rattle.vertices.proofs.runs.convert_each.Goals as goal

pub loop-i-init : goal.loop-i-init
loop-i-init g c = λ f law. Converting-start c.requires.room

pub loop-i-preserved : goal.loop-i-preserved
loop-i-preserved g c = λ f law.
    let read = rw c.WIDTH.ensures at c.get-x.ensures in
    let made = law _ _ c.convert.ensures in
    Converting-one (c.loop-i.invariant f law) (omega arith) (rw (c.WIDTH-in-loop-i.ensures, made, read) at c.set.ensures)
