-- The sum of the four bytes, each at its place, is their number.
use native.Mathlib.Omega.{arith}
use Rattle.vertices.proofs.RunLaws.{le_four}
use Rattle.halls.proofs.format.fields.u32_at.Goals as goal

pub returns : goal.returns
returns c = omega (arith, le_four c.args.b.now c.args.off c.requires)
