-- The number of the four bytes, each at its place.
use native.Mathlib.Omega.{arith}
use Rattle.vertices.proofs.RunLaws.{le_four}
use Rattle.vertices.proofs.known.U32Stored.get.Goals as goal

pub returns : goal.returns
returns c = omega (arith, c.from_le_bytes.ensures, le_four c.args.b.now c.args.off c.requires)
