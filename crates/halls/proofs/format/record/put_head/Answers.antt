-- The kind is put right behind the body's length.
use mathlib.Core.Path.{refl}
use native.Mathlib.Omega.{arith}
use Rattle.sections.specs.Le.{bytes}
use Rattle.sections.proofs.EditLaws.{Edited-behind, Edited-fits}
use Rattle.halls.proofs.format.record.put_head.Goals as goal

pub returns : goal.returns
unfolding bytes
returns c =
    let body = Edited-fits 4 c.put_u32_le.ensures (omega arith) in
    rw (← c.number.ensures) (Edited-behind _ _ _ 4 2 body refl refl c.put_u16_le.ensures (omega arith))
