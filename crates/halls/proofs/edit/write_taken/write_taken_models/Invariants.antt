-- Each turn writes the next model right behind what was written.
use Rattle.halls.specs.Inner.Taking.{model_bytes}
use Rattle.halls.proofs.read.WritingItems.{WritingItems}
use Rattle.halls.proofs.edit.write_taken.write_taken_models.Given as goal

abbrev pub invariant-loop-model : goal.invariant-loop-model
invariant-loop-model l = WritingItems model_bytes l.fn.models l.model-iterator l.fn.out l.at l.out l.next
