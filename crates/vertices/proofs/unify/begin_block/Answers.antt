-- The first block is left as it is, a later one is a copy.
use native.Mathlib.Omega.{arith}
use Rattle.vertices.proofs.LaneBlocks.{begun_copy}
use Rattle.vertices.proofs.unify.begin_block.Goals as goal

pub returns : goal.returns
returns c = begun_copy c.requires.0 (c.requires.2 (omega arith)) c.requires.1 c.copy_within.ensures
