-- The id so far, and the nibbles of the components to come.
use Rattle.vertices.specs.Declaration.{declaration_id}
use Rattle.vertices.proofs.ComponentWalk.{Placing}
use Rattle.vertices.proofs.declaration.VertexDeclaration.declaration_id.Given as goal

abbrev pub invariant-loop-component : goal.invariant-loop-component
invariant-loop-component l = Placing (declaration_id l.fn.self) l.id l.component-iterator
