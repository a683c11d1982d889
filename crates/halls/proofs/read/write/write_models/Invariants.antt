-- Each turn writes the next model right behind what was written.
use Rattle.halls.specs.List.{write_model}
use Rattle.halls.proofs.read.WritingItems.{WritingItems}
use Rattle.halls.proofs.read.write.write_models.Given as goal

abbrev pub invariant-loop-model : goal.invariant-loop-model
invariant-loop-model l = WritingItems write_model l.fn.models l.model-iterator l.fn.out l.at l.out l.next
