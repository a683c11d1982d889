-- Each number stands at its place in the four records.
use Rattle.halls.proofs.check.JudgingLaws.{front-head}
use Rattle.halls.proofs.check.geometry.geometry_head.Goals as goal

pub returns : goal.returns
returns c = cc (front-head c.requires)
