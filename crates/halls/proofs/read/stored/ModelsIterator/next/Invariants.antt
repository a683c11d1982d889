-- The pointers passed have no block that resolves: the models behind those to come are those that were left.
use Rattle.std.proofs.Common.{◌≡◌, length}
use Rattle.sections.specs.Address.{sections_of}
use Rattle.halls.specs.Inner.View.{models_at}
use Rattle.halls.proofs.read.stored.ModelsIterator.next.Given as goal

abbrev pub invariant-loop-pointer : goal.invariant-loop-pointer
invariant-loop-pointer l = l.fn.self ≡ models_at (sections_of l.self-inside.limited.reader.now) l.self-inside.pointers

abbrev pub decreases-loop-pointer : goal.decreases-loop-pointer
decreases-loop-pointer l = length l.self-inside.pointers
