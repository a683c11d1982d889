-- Each turn writes the next geometry right behind what was written.
use Rattle.halls.proofs.read.WritingItems.{items-start, items_room, items_turn}
use Rattle.halls.proofs.edit.write_taken.write_taken_geometries.Goals as goal

pub loop-geometry-init : goal.loop-geometry-init
loop-geometry-init c = rw c.into_iter-geometry-iterator.ensures.into_iter_gives (items-start _ _ _ _)

pub write_taken_geometry-next-requires : goal.write_taken_geometry-next-requires
write_taken_geometry-next-requires c = rw c.view.ensures (items_room c.loop-geometry.invariant c.requires c.in-Some.ensures.steps)

pub loop-geometry-preserved : goal.loop-geometry-preserved
loop-geometry-preserved c = items_turn c.loop-geometry.invariant c.requires c.in-Some.ensures.steps (rw c.view.ensures at c.write_taken_geometry-next.ensures)
