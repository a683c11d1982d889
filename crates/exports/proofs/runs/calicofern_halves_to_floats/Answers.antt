-- The run's answer, told as a number and a length.
use Rattle.exports.proofs.ToldLaws.{converted-told}
use Rattle.exports.proofs.runs.calicofern_halves_to_floats.Goals as goal

pub returns : goal.returns
returns c = converted-told c.halves_to_floats.ensures c.told_run.ensures.number c.told_run.ensures.«length»
