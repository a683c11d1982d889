-- Each turn writes the next geometry right behind what was written.
use Rattle.halls.specs.Inner.Taking.{geometry_bytes}
use Rattle.halls.proofs.read.WritingItems.{WritingItems}
use Rattle.halls.proofs.edit.write_taken.write_taken_geometries.Given as goal

abbrev pub invariant-loop-geometry : goal.invariant-loop-geometry
invariant-loop-geometry l = WritingItems geometry_bytes l.fn.geometries l.geometry-iterator l.fn.out l.at l.out l.next
