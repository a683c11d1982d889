-- The zeros are put right behind the indices.
use mathlib.Core.Path.{◌∙◌}
use native.Mathlib.Omega.{arith}
use Rattle.images.proofs.NarrowLaws.{narrow-length}
use Rattle.images.proofs.PartLaws.{filled-behind}
use Rattle.images.proofs.indices.put_indices.Goals as goal

pub returns : goal.returns
returns c = filled-behind _ _ _ _ c.put_narrowed.ensures (narrow-length _ _ ∙ omega arith) c.put_gap.ensures (omega arith)
