-- Each turn writes the next model right behind what was written.
use Rattle.halls.proofs.read.WritingItems.{items-start, items_room, items_turn}
use Rattle.halls.proofs.read.write.write_models.Goals as goal

pub loop-model-init : goal.loop-model-init
loop-model-init c = rw c.into_iter-model-iterator.ensures.into_iter_gives (items-start _ _ _ _)

pub write_model-next-requires : goal.write_model-next-requires
write_model-next-requires c = items_room c.loop-model.invariant c.requires c.in-Some.ensures.steps

pub loop-model-preserved : goal.loop-model-preserved
loop-model-preserved c = items_turn c.loop-model.invariant c.requires c.in-Some.ensures.steps c.write_model-next.ensures
