-- The pointers passed have no block that resolves: the geometries behind those to come are those that were left.
use Rattle.std.proofs.Common.{◌≡◌, length}
use Rattle.sections.specs.Address.{sections_of}
use Rattle.halls.specs.Inner.View.{geometries_behind}
use Rattle.halls.proofs.read.stored.GeometriesIterator.next.Given as goal

abbrev pub invariant-loop-entry : goal.invariant-loop-entry
invariant-loop-entry l = l.fn.self ≡ geometries_behind (sections_of l.self-inside.limited.reader.now) l.self-inside.entries

abbrev pub decreases-loop-entry : goal.decreases-loop-entry
decreases-loop-entry l = length l.self-inside.entries
