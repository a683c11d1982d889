-- The answer of unifying, told as a number and a length.
use Rattle.exports.proofs.ToldLaws.{Unified-told}
use Rattle.exports.proofs.unified.calicofern_unified_vertices.Goals as goal

pub returns : goal.returns
returns c = Unified-told c.declaration.ensures c.unified_vertices.ensures c.told.ensures.number c.told.ensures.«length»
