-- The run's answer, told as a number and a length.
use Rattle.exports.proofs.ToldLaws.{converted-told}
use Rattle.exports.proofs.runs.calicofern_floats_to_unorm8.Goals as goal

pub returns : goal.returns
returns c = converted-told c.floats_to_unorm8.ensures c.told_run.ensures.number c.told_run.ensures.«length»
