-- The first of the geometry's numbers.
use Rattle.std.proofs.Common.{rules}
use Rattle.halls.specs.Reading.{geometry_of, geometry_with}
use Rattle.halls.proofs.read.stored.StoredGeometry.shader.Goals as goal

pub returns : goal.returns
unfolding geometry_of geometry_with
returns c = rw (← c.self.view_is) (search rules)
