-- The number of the two bytes, each at its place.
use native.Mathlib.Omega.{arith}
use Rattle.vertices.proofs.RunLaws.{le_two}
use Rattle.vertices.proofs.known.U16Stored.get.Goals as goal

pub returns : goal.returns
returns c = omega (arith, c.from_le_bytes.ensures, le_two c.args.b.now c.args.off c.requires)
