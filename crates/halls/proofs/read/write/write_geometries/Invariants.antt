-- Each turn writes the next geometry right behind what was written.
use Rattle.halls.specs.List.{write_geometry}
use Rattle.halls.proofs.read.WritingItems.{WritingItems}
use Rattle.halls.proofs.read.write.write_geometries.Given as goal

abbrev pub invariant-loop-geometry : goal.invariant-loop-geometry
invariant-loop-geometry l = WritingItems write_geometry l.fn.geometries l.geometry-iterator l.fn.out l.at l.out l.next
