-- The first component left is inside, and so are the others.
use Rattle.vertices.proofs.AttributeLaws.{inside_parts}
use Rattle.vertices.proofs.attributes.AttributesIterator.next.Goals as goal

pub attribute_at-requires : goal.attribute_at-requires
attribute_at-requires c = (c.self.invariant.0, (inside_parts _ _ _ _ (rw c.in_ok-component.ensures.steps at c.self.invariant.1)).0)

pub invariant_of-self-2 : goal.invariant_of-self-2
invariant_of-self-2 c = (c.self.invariant.0, (inside_parts _ _ _ _ (rw c.in_ok-component.ensures.steps at c.self.invariant.1)).1)
