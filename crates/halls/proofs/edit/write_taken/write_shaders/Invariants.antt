-- Each turn writes the next geometry right behind what was written.
use Rattle.halls.specs.Inner.Taking.{shader_bytes}
use Rattle.halls.proofs.read.WritingItems.{WritingItems}
use Rattle.halls.proofs.edit.write_taken.write_shaders.Given as goal

abbrev pub invariant-loop-geometry : goal.invariant-loop-geometry
invariant-loop-geometry l = WritingItems shader_bytes l.fn.geometries l.geometry-iterator l.fn.out l.at l.out l.next
