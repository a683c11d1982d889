-- Each turn writes two bytes right behind what was written.
use Rattle.std.proofs.Common.{arith}
use Rattle.sections.proofs.EditLaws.{Edited-fits}
use Rattle.sections.proofs.LeLaws.{length-bytes}
use Rattle.halls.proofs.read.WritingItems.{items-start, items_room, items_turn}
use Rattle.halls.proofs.edit.write_taken.write_shaders.Goals as goal

pub loop-geometry-init : goal.loop-geometry-init
loop-geometry-init c = rw c.into_iter-geometry-iterator.ensures.into_iter_gives (items-start _ _ _ _)

pub overflow_add-next : goal.overflow_add-next
overflow_add-next c =
    let room = items_room c.loop-geometry.invariant c.requires c.in-Some.ensures.steps in
    omega (arith, room, length-bytes 2 c.in-Some.geometry.shader)

pub loop-geometry-preserved : goal.loop-geometry-preserved
loop-geometry-preserved c =
    let room = items_room c.loop-geometry.invariant c.requires c.in-Some.ensures.steps in
    let long = length-bytes 2 c.in-Some.geometry.shader in
    items_turn c.loop-geometry.invariant c.requires c.in-Some.ensures.steps (omega (arith, long), rw c.shader.ensures at (Edited-fits 2 c.put_u16_le.ensures (omega (arith, room, long))))
