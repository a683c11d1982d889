-- Those of the flags 0 to 15 are the declaration's.
use Rattle.vertices.specs.Declaration.{components_of}
use Rattle.vertices.proofs.declaration.VertexDeclaration.components.Goals as goal

pub returns : goal.returns
unfolding components_of
returns c = c.new.ensures
