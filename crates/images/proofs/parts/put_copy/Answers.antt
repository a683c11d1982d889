-- The zeros are put right behind the copy.
use mathlib.Core.Path.{refl}
use native.Mathlib.Omega.{arith}
use Rattle.sections.proofs.EditLaws.{Edited-fits}
use Rattle.images.proofs.PartLaws.{filled-behind}
use Rattle.images.proofs.parts.put_copy.Goals as goal

pub returns : goal.returns
returns c = filled-behind _ _ _ _ (Edited-fits _ c.copy_into.ensures (omega arith)) refl c.put_gap.ensures (omega arith)
