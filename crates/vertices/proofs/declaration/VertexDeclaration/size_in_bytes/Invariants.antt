-- The sizes added up and those of the components still to come are the total.
use Rattle.vertices.specs.Declaration.{total_size}
use Rattle.vertices.proofs.ComponentSizes.{Summing}
use Rattle.vertices.proofs.declaration.VertexDeclaration.size_in_bytes.Given as goal

abbrev pub invariant-loop-index : goal.invariant-loop-index
invariant-loop-index l = Summing (total_size l.fn.self) l._index l.flags l.types l.total
