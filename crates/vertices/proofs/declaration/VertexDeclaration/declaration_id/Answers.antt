-- The id so far, and the nibbles of the components to come.
use Rattle.std.proofs.Common.{◌∙◌}
use Rattle.vertices.proofs.ComponentWalk.{placing_start}
use Rattle.vertices.proofs.declaration.VertexDeclaration.declaration_id.Goals as goal

pub loop-component-init : goal.loop-component-init
loop-component-init c = rw (c.into_iter-component-iterator.ensures.into_iter_gives ∙ c.components-component-items.ensures) (placing_start c.args.self)
